-- A CRC that the table reads: the fault is the one that is found by looking, else the reading goes on behind the closing byte. Assumes nothing.
use Rattle.fields.specs.declared.Fault.{Fault}
use Rattle.std.specs.Prelude.{Err, Some, None, Ok, Option}
use mathlib.Core.Path.{◌≡◌, refl, sym, ap, subst, ◌∙◌}
use mathlib.Core.Bool.{Bool, true, false, not, not-not}
use mathlib.Core.List.{List, [], ◌∷◌, ◌++◌}
use mathlib.Core.Logic.{⊎_elim}
use Prim.Native.Nat.{ℕ, suc, ◌+◌, ◌-◌, ◌*◌, ◌≤◌, ◌<◌}
use native.Mathlib.Nat.{add-zero}
use native.Mathlib.Omega.{arith}
use lib.Dec.{leb, ltb}
use lib.ListN.{length, take, drop, get_or, take-append-drop}
use lib.Seq.{length-take-le, take-suc}
use borrow.Author.Tests.{le-leb, lt-leb, lt-ltb, le-ltb, eq-eqb, ne_eqb, leb-true}
use Rattle.fields.specs.Pick.{pick}
use Rattle.fields.specs.Lists.{all}
use Rattle.fields.specs.declared.Flaw.TheVariants.{Other}
use Rattle.fields.proofs.Lists.{never, both, le-or-lt, eq-or-not, drop-one}
use Rattle.numbers.specs.declared.Base.TheVariants.{Decimal}
use Rattle.numbers.specs.Reading.{radix, is_digit, value_from, read_crc}
use Rattle.numbers.proofs.Reading.{value_none, value-one, value_grows, decimal-is, decimal-below, read_decimal-is, read_crc-is, decimal-form, crc-form}
use Rattle.faults.specs.declared.Stage.{Stage}
use Rattle.faults.specs.Faults.{crc_with, crc_part, in_crc, only, step_of, end_of, fault, check_from}
use Rattle.faults.specs.Search.{when, earlier, earliest, digits, past_digits, begins, is_value, crc_faults}
use Rattle.faults.proofs.Turns.{turn-to, turn-wrong, turn_end}
use Rattle.faults.proofs.SoundParts.{too_high}
use Rattle.faults.proofs.Values.{value-digits, Valued, valued}
use Rattle.faults.proofs.Earliest.{From, from-pick, from-check, earlier-none, leads, one, Stops, front-le, front-all, front_at, front-stops}

-- ---- One more digit

digit_low : (c : ℕ) → is_digit c ≡ true → 48 ≤ c
digit_low c d = leb-true 48 c (both (leb 48 c) (leb c 57) d).0

module _ (k v c : ℕ) (d : is_digit c ≡ true) where
  crc-sixth : 5 ≤ k → crc_part k v c ≡ Err Other
  unfolding crc_part
  crc-sixth h = rw (d, le-leb 5 k h)

  crc-over : k < 5 → 65535 < crc_with k v c → crc_part k v c ≡ Err Other
  unfolding crc_part
  crc-over h g = rw (d, lt-leb 5 k h, lt-leb (crc_with k v c) 65535 g)

  crc-more : k < 5 → crc_with k v c ≤ 65535 → crc_part k v c ≡ Ok (Some (k + 1, crc_with k v c))
  unfolding crc_part
  crc-more h g = rw (d, lt-leb 5 k h, le-leb (crc_with k v c) 65535 g)

-- ---- What digits make

made : ℕ → List ℕ → ℕ
made v [] = v
made v (c ∷ s) = made (v * 10 + (c - 48)) s

made-value : (s : List ℕ) (v : ℕ) → all is_digit s ≡ true → value_from Decimal v s ≡ Some (made v s)
unfolding made all radix
made-value [] v a = value_none Decimal v
made-value (c ∷ s) v a =
    let b = both (is_digit c) (all is_digit s) a in
    let h = leb-true c 57 (both (leb 48 c) (leb c 57) b.0).1 in
    let e = decimal-is c (digit_low c b.0) h in
    value-one Decimal v c s (omega (arith, e, h)) ∙ (rw e (made-value s (v * 10 + (c - 48)) b.1))

made-last : (s : List ℕ) (v c : ℕ) → made v (s ++ (c ∷ [])) ≡ made v s * 10 + (c - 48)
unfolding made
made-last [] v c = refl
made-last (d ∷ s) v c = made-last s (v * 10 + (d - 48)) c

-- up to four digits at the front of s are a CRC
few-value : (s : List ℕ) (n : ℕ) → 1 ≤ n → n ≤ 4 → n ≤ digits s → read_crc (take n s) ≡ Some (made 0 (take n s))
few-value s n lo hi h =
    let m = take n s in
    let l = length-take-le n s (omega (arith, h, front-le is_digit s)) in
    let e = made-value m 0 (front-all is_digit s n h) in
    let b = decimal-below 4 (made 0 m) m (sym (read_decimal-is 4 m (omega (arith, l)) (omega (arith, l))) ∙ e) in
    sym (read_crc-is m (made 0 m) (sym (read_decimal-is 5 m (omega (arith, l)) (omega (arith, l))) ∙ e) (omega (arith, b)))

-- five are not where they make more than 65,535
five-high : (s : List ℕ) → 5 ≤ digits s → is_value (read_crc (take 5 s)) ≡ false → 65535 < made 0 (take 5 s)
five-high s h n =
    let m = take 5 s in
    let l = length-take-le 5 s (omega (arith, h, front-le is_digit s)) in
    let e = sym (read_decimal-is 5 m (omega (arith, l)) (omega (arith, l))) ∙ made-value m 0 (front-all is_digit s 5 h) in
    ⊎_elim (λ (g : made 0 m ≤ 65535). never (sym n ∙ sym (ap is_value (read_crc-is m (made 0 m) e g)))) (λ (g : 65535 < made 0 m). g)
    (le-or-lt (made 0 m) 65535)

high-not : (s : List ℕ) → 5 ≤ digits s → is_value (read_crc (take 5 s)) ≡ not (too_high s)
high-not s h = rw (le-leb 5 (digits s) h) (sym (not-not (is_value (read_crc (take 5 s)))))

five-value : (s : List ℕ) → 5 ≤ digits s → too_high s ≡ false → Valued (read_crc (take 5 s))
five-value s h e = valued (read_crc (take 5 s)) (high-not s h ∙ ap not e)

pub crc-value : (s : List ℕ) → 1 ≤ digits s → digits s ≤ 5 → too_high s ≡ false → Valued (read_crc (take (digits s) s))
crc-value s lo hi h = ⊎_elim
    (λ (g : 5 ≤ digits s). let e : 5 ≡ digits s = omega arith in subst (λ (n : ℕ). Valued (read_crc (take n s))) e (five-value s g h))
    (λ (g : digits s < 5). record { value = made 0 (take (digits s) s); is = few-value s (digits s) lo (omega arith) (omega arith) })
    (le-or-lt 5 (digits s))

crc-with : (k v c : ℕ) → (k ≡ 0 → v ≡ 0) → crc_with k v c ≡ v * 10 + (c - 48)
crc-with k v c h = ⊎_elim (λ (e : k ≡ 0). rw (eq-eqb k 0 e, h e) refl) (λ (n : k ≡ 0 → ⊥). rw (ne_eqb k 0 n) refl) (eq-or-not k 0)

module _ (part : ℕ → ℕ → Stage) (z : ℕ) (next : Stage)
    (step : (k v c : ℕ) → step_of (part k v) c ≡ in_crc (crc_part k v c) part (only z c next Other))
    (end : (k v : ℕ) → end_of (part k v) ≡ Some Other) where
  module _ (k v c : ℕ) where
    -- one more digit, where no digit read makes 0
    crc-on : (k ≡ 0 → v ≡ 0) → is_digit c ≡ true → k < 5 → v * 10 + (c - 48) ≤ 65535 → step_of (part k v) c ≡ Ok (part (k + 1) (v * 10 + (c - 48)))
    crc-on n d h g = let e = crc-with k v c n in step k v c ∙ rw (crc-more k v c d h (rw e g), e) refl

    crc-behind : is_digit c ≡ false → 1 ≤ k → step_of (part k v) c ≡ only z c next Other
    unfolding crc_part
    crc-behind d h = step k v c ∙ rw (d, ne_eqb k 0 (omega arith)) refl

  run-crc : (n s : List ℕ) (k v i : ℕ) → (k ≡ 0 → v ≡ 0) → all is_digit n ≡ true → k + length n ≤ 5 → made v n ≤ 65535
      → check_from (part k v) i (n ++ s) ≡ check_from (part (k + length n) (made v n)) (i + length n) s
  unfolding made all
  run-crc [] s k v i m a h g = rw (add-zero k, add-zero i) refl
  run-crc (c ∷ n) s k v i m a h g =
      let b = both (is_digit c) (all is_digit n) a in
      let w = v * 10 + (c - 48) in
      let l = value_grows Decimal w (made w n) n (made-value n w b.1) in
      let e : k + 1 + length n ≡ k + suc (length n) = omega arith in
      let f : i + 1 + length n ≡ i + suc (length n) = omega arith in
      turn-to (part k v) (part (k + 1) w) i c (n ++ s) (crc-on k v c m b.0 (omega arith) (omega (arith, l, g)))
      ∙ (rw (e, f) at (run-crc n s (k + 1) w (i + 1) (omega arith) b.1 (omega arith) g))

  -- over a CRC
  read-crc : (n s : List ℕ) (i w : ℕ) → read_crc n ≡ Some w → check_from (part 0 0) i (n ++ s) ≡ check_from (part (length n) w) (i + length n) s
  read-crc n s i w e =
      let c = crc-form w n e in
      let f = decimal-form 5 w n c.1 in
      let a = value-digits Decimal n w f.2 in
      let m = made-value n 0 a in
      let g = f.2 in
      let v : made 0 n ≡ w = cc in
      let z : 0 + length n ≡ length n = omega arith in
      rw (z, v) at (run-crc n s 0 0 i (λ x. refl) a (omega arith) (omega arith))

  -- and the byte that closes it
  pub crc-read : is_digit z ≡ false → (n s : List ℕ) (i w : ℕ) → read_crc n ≡ Some w
      → check_from (part 0 0) i (n ++ (z ∷ s)) ≡ check_from next (i + length n + 1) s
  crc-read o n s i w e =
      let f = decimal-form 5 w n (crc-form w n e).1 in
      read-crc n (z ∷ s) i w e ∙ turn-to (part (length n) w) next (i + length n) z s (crc-behind (length n) w z o f.0 ∙ rw (eq-eqb z z refl) refl)

  -- behind the digits and the closing byte
  abbrev pub behind : ℕ → List ℕ → Option Fault
  behind i s = pick (begins z (past_digits s)) (check_from next (i + digits s + 1) (drop 1 (past_digits s))) None

  module _ (i : ℕ) (s : List ℕ) where
    abbrev Told : Type 0
    Told = check_from (part 0 0) i s ≡ earlier (crc_faults z i s) (behind i s)

    from-behind : (o : ℕ) → o ≤ i + digits s → From o (behind i s)
    from-behind o h =
        let j = i + digits s + 1 in
        let t = drop 1 (past_digits s) in
        from-pick o (begins z (past_digits s)) (check_from next j t) None (from-check next o j t (omega (arith, h))) tt

    over-crc : (n w : ℕ) → n ≤ digits s → read_crc (take n s) ≡ Some w → check_from (part 0 0) i s ≡ check_from (part n w) (i + n) (drop n s)
    over-crc n w h v =
        let e = length-take-le n s (omega (arith, h, front-le is_digit s)) in
        ap (check_from (part 0 0) i) (sym (take-append-drop n s)) ∙ (rw e at (read-crc (take n s) (drop n s) i w v))

    -- the first digit is missing
    none : digits s ≡ 0 → Told
    unfolding crc_faults earliest crc_part
    none h =
        rw (eq-eqb (digits s) 0 h)
        (stops s (subst (λ (n : ℕ). Stops is_digit (drop n s)) h (front-stops is_digit s))
        ∙ sym (leads i (behind i s) (from-behind i (omega arith)) (too_high s) (ltb 5 (digits s))
        (not (begins z (past_digits s))) (i + 4) (i + 5) (i + digits s) (omega arith) (omega arith) (omega arith)))
      where
        stops : (l : List ℕ) → Stops is_digit l → check_from (part 0 0) i l ≡ fault Other i
        stops [] t = turn_end (part 0 0) Other i (end 0 0)
        stops (c ∷ l) t = turn-wrong (part 0 0) Other i c l (step 0 0 c ∙ rw t refl)

    -- the fifth makes too much
    high : too_high s ≡ true → Told
    unfolding crc_faults earliest
    high b =
        let x = both (leb 5 (digits s)) (not (is_value (read_crc (take 5 s)))) b in
        let h = leb-true 5 (digits s) x.0 in
        let c = get_or s 4 0 in
        let v = made 0 (take 4 s) in
        let l = front-le is_digit s in
        let e : made 0 (take 5 s) ≡ v * 10 + (c - 48) = ap (made 0) (take-suc s 4 0 (omega (arith, h, l))) ∙ made-last (take 4 s) 0 c in
        let m = five-high s h (high-not s h ∙ ap not b) in
        rw (ne_eqb (digits s) 0 (omega arith), b)
        (over-crc 4 v (omega arith) (few-value s 4 (omega arith) (omega arith) (omega arith))
        ∙ ap (check_from (part 4 v) (i + 4)) (drop-one s 4 (omega (arith, h, l)))
        ∙ turn-wrong (part 4 v) Other (i + 4) c (drop 5 s)
        (step 4 v c ∙ rw (crc-over 4 v c (front_at is_digit s 4 (omega arith)) (omega arith) (rw e at m)) refl)
        ∙ sym (leads (i + 4) (behind i s) (from-behind (i + 4) (omega arith)) false (ltb 5 (digits s)) (not (begins z (past_digits s)))
        (i + 4) (i + 5) (i + digits s) (omega arith) (omega arith) (omega arith)))

    -- there is a sixth
    many : too_high s ≡ false → 5 < digits s → Told
    unfolding crc_faults earliest
    many b h =
        let c = get_or s 5 0 in
        let r = five-value s (omega arith) b in
        let v = r.value in
        rw (ne_eqb (digits s) 0 (omega arith), b, lt-ltb 5 (digits s) h)
        (over-crc 5 v (omega arith) r.is ∙ ap (check_from (part 5 v) (i + 5)) (drop-one s 5 (omega (arith, h, front-le is_digit s)))
        ∙ turn-wrong (part 5 v) Other (i + 5) c (drop 6 s) (step 5 v c ∙ rw (crc-sixth 5 v c (front_at is_digit s 5 h) (omega arith)) refl)
        ∙ sym (leads (i + 5) (behind i s) (from-behind (i + 5) (omega arith)) false false (not (begins z (past_digits s)))
        (i + 5) (i + 5) (i + digits s) (omega arith) (omega arith) (omega arith)))

    -- 1 to 5 that make no more than 65,535
    some : too_high s ≡ false → 1 ≤ digits s → digits s ≤ 5 → Told
    unfolding crc_faults earliest
    some b l h =
        let k = digits s in
        let r = crc-value s l h b in
        rw (ne_eqb k 0 (omega arith), b, le-ltb 5 k h, earlier-none (when (not (begins z (past_digits s))) Other (i + k)))
        (over-crc k r.value (omega arith) r.is
        ∙ one (part k r.value) next z Other (i + k) (past_digits s)
        (λ c t e. crc-behind k r.value c (subst (Stops is_digit) e (front-stops is_digit s)) l) (end k r.value))

    -- THE CRC
    pub crc-least : Told
    crc-least = ⊎_elim none (λ (n : digits s ≡ 0 → ⊥). go n (too_high s) refl) (eq-or-not (digits s) 0)
      where
        go : (digits s ≡ 0 → ⊥) → (b : Bool) → too_high s ≡ b → Told
        go n true e = high e
        go n false e = ⊎_elim (λ (h : digits s ≤ 5). some e (omega (arith, n)) h) (λ (h : 5 < digits s). many e h) (le-or-lt (digits s) 5)
