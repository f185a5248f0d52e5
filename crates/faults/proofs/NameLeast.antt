-- A name that the table reads: the fault is the one that is found by looking, else the reading goes on behind the closing byte. Assumes nothing.
use Rattle.fields.specs.declared.Fault.{Fault}
use Rattle.std.specs.Prelude.{Err, None, Ok, Option, Some}
use mathlib.Core.Path.{◌≡◌, refl, sym, ap, ◌∙◌}
use mathlib.Core.Bool.{Bool, true, false, not}
use mathlib.Core.List.{List, [], ◌∷◌}
use mathlib.Core.Logic.{⊎_elim}
use Prim.Native.Nat.{ℕ, suc, ◌+◌, ◌-◌, ◌≤◌, ◌<◌}
use native.Mathlib.Nat.{add-zero}
use native.Mathlib.Omega.{arith}
use lib.Dec.{leb, ltb, eqb}
use lib.ListN.{length, drop}
use borrow.Author.Tests.{ne_eqb, lt-ltb, le-ltb, eqb-true, eqb-false, leb-true, leb-false}
use Rattle.fields.specs.Pick.{pick}
use Rattle.fields.specs.Lists.{up_to}
use Rattle.fields.specs.Name.{is_name_byte}
use Rattle.fields.specs.declared.Flaw.{Flaw}
use Rattle.fields.specs.declared.Flaw.TheVariants.{NameOpen, NameLength, NameByte}
use Rattle.fields.proofs.Lists.{le-or-lt}
use Rattle.faults.specs.declared.Stage.{Stage}
use Rattle.faults.specs.Faults.{step_of, end_of, name_part, in_part, fault, check_from}
use Rattle.faults.specs.Search.{when, earlier, earliest, front, occurs, name_faults}
use Rattle.faults.proofs.Turns.{turn-to, turn-wrong, turn_end}
use Rattle.faults.proofs.Earliest.{From, from-pick, from-when, from-earlier, from-check, earlier-first, earlier-second, earlier-none}

-- ---- Looking, where k bytes of the name stand before: a bytes are left, u of them before the closing one, m name bytes at the front

abbrev found : ℕ → ℕ → ℕ → ℕ → ℕ → Option Fault
found k i a u m =
    earlier (when (not (ltb u a)) NameOpen (i + a))
    (earlier (when (eqb (k + u) 0) NameLength i)
    (earlier (when (ltb 64 (k + u)) NameLength (i + (64 - k)))
    (earlier (when (ltb m u) NameByte (i + m)) None)))

pub ltb-suc : (a b : ℕ) → ltb (suc a) (suc b) ≡ ltb a b
ltb-suc a b = ⊎_elim
    (λ (h : b ≤ a). le-ltb (suc a) (suc b) (omega arith) ∙ sym (le-ltb a b h))
    (λ (h : a < b). lt-ltb (suc a) (suc b) (omega arith) ∙ sym (lt-ltb a b h))
    (le-or-lt b a)

-- a fault, and one that may be at a later place
past : (b : Bool) (w v : Flaw) (o i : ℕ) → i < o → earlier (when b w o) (fault v i) ≡ fault v i
past b w v o i h = earlier-second v i (when b w o) (from-when (suc i) b w o h)

module _ (i : ℕ) where
  found-open : (k : ℕ) → found k i 0 0 0 ≡ fault NameOpen i
  found-open k =
      let x = when (eqb k 0) NameLength i in
      let y = when (ltb 64 k) NameLength (i + (64 - k)) in
      rw (add-zero i, add-zero k, earlier-none y)
      (earlier-first NameOpen i (earlier x y)
      (from-earlier i x y (from-when i (eqb k 0) NameLength i (omega arith)) (from-when i (ltb 64 k) NameLength (i + (64 - k)) (omega arith))))

  found-empty : (a : ℕ) → found 0 i (suc a) 0 0 ≡ fault NameLength i
  found-empty a = rw (lt-ltb 0 (suc a) (omega arith)) refl

  found_none : (k a : ℕ) → k ≤ 64 → (k ≡ 0 → ⊥) → found k i (suc a) 0 0 ≡ None
  found_none k a h n = rw (lt-ltb 0 (suc a) (omega arith), add-zero k, ne_eqb k 0 n, le-ltb 64 k h) refl

  found-long : (a u m : ℕ) → found 64 i (suc a) (suc u) m ≡ fault NameLength i
  found-long a u m =
      let x = when (ltb m (suc u)) NameByte (i + m) in
      rw (ne_eqb (64 + suc u) 0 (omega arith), lt-ltb 64 (64 + suc u) (omega arith), add-zero i, earlier-none x)
      (ap (earlier (when (not (ltb (suc u) (suc a))) NameOpen (i + suc a)))
      (earlier-first NameLength i x (from-when i (ltb m (suc u)) NameByte (i + m) (omega arith)))
      ∙ past (not (ltb (suc u) (suc a))) NameOpen NameLength (i + suc a) i (omega arith))

  found-byte : (k a u : ℕ) → k < 64 → found k i (suc a) (suc u) 0 ≡ fault NameByte i
  found-byte k a u h =
      rw (ne_eqb (k + suc u) 0 (omega arith), lt-ltb 0 (suc u) (omega arith), add-zero i)
      (ap (earlier (when (not (ltb (suc u) (suc a))) NameOpen (i + suc a)))
      (past (ltb 64 (k + suc u)) NameLength NameByte (i + (64 - k)) i (omega arith))
      ∙ past (not (ltb (suc u) (suc a))) NameOpen NameByte (i + suc a) i (omega arith))

  found-more : (k a u m : ℕ) → k < 64 → found k i (suc a) (suc u) (suc m) ≡ found (k + 1) (i + 1) a u m
  found-more k a u m h =
      let e : k + suc u ≡ k + 1 + u = omega arith in
      let f : i + (64 - k) ≡ i + 1 + (64 - (k + 1)) = omega arith in
      let g : i + suc a ≡ i + 1 + a = omega arith in
      let j : i + suc m ≡ i + 1 + m = omega arith in
      rw (e, f, g, j, ne_eqb (k + 1 + u) 0 (omega arith), ltb-suc u a, ltb-suc m u) refl

-- ---- The table

module _ (z : ℕ) (part : ℕ → Stage) (next : Stage)
    (free : is_name_byte z ≡ false)
    (step : (k c : ℕ) → step_of (part k) c ≡ in_part (name_part z k c) part (Ok next))
    (end : (k : ℕ) → end_of (part k) ≡ Some NameOpen) where
  -- behind the name and its closing byte
  abbrev pub behind : ℕ → List ℕ → Option Fault
  behind i s = pick (occurs z s) (check_from next (i + length (up_to z s) + 1) (drop (length (up_to z s) + 1) s)) None

  from-behind : (i : ℕ) (s : List ℕ) → From i (behind i s)
  from-behind i s =
      let j = i + length (up_to z s) + 1 in
      let t = drop (length (up_to z s) + 1) s in
      from-pick i (occurs z s) (check_from next j t) None (from-check next i j t (omega arith)) tt

  abbrev look : ℕ → ℕ → List ℕ → Option Fault
  look k i s = found k i (length s) (length (up_to z s)) (length (front is_name_byte s))

  abbrev Told : ℕ → ℕ → List ℕ → Type 0
  Told k i s = check_from (part k) i s ≡ earlier (look k i s) (behind i s)

  -- the byte here offends
  wrong : (w : Flaw) (k i c : ℕ) (s : List ℕ) → step_of (part k) c ≡ Err w → look k i (c ∷ s) ≡ fault w i → Told k i (c ∷ s)
  wrong w k i c s e f =
      let b = behind i (c ∷ s) in
      turn-wrong (part k) w i c s e ∙ sym (ap (λ (x : Option Fault). earlier x b) f ∙ earlier-first w i b (from-behind i (c ∷ s)))

  told : (s : List ℕ) (k i : ℕ) → k ≤ 64 → Told k i s
  unfolding front up_to name_part
  told [] k i h = turn_end (part k) NameOpen i (end k) ∙ sym (earlier-none (found k i 0 0 0) ∙ found-open i k)
  told (c ∷ s) k i h = go (told s (k + 1) (i + 1)) (eqb c z) refl (eqb k 0) refl (leb 64 k) refl (is_name_byte c) refl
    where
      none : eqb c z ≡ true → is_name_byte c ≡ false
      none e = ap is_name_byte (eqb-true c z e) ∙ free

      go : (k + 1 ≤ 64 → Told (k + 1) (i + 1) s)
          → (t : Bool) → eqb c z ≡ t → (e : Bool) → eqb k 0 ≡ e → (l : Bool) → leb 64 k ≡ l → (n : Bool) → is_name_byte c ≡ n → Told k i (c ∷ s)
      go on true et true ee l el n en =
          wrong NameLength k i c s (step k c ∙ rw (et, ee) refl) (rw (et, none et, eqb-true k 0 ee) (found-empty i (length s)))
      go on true et false ee l el n en =
          turn-to (part k) next i c s (step k c ∙ rw (et, ee) refl)
          ∙ sym (rw (et, none et, found_none i k (length s) h (eqb-false k 0 ee), lt-ltb 0 (suc (length s)) (omega arith), add-zero i) refl)
      go on false et e ee true el n en =
          let q : k ≡ 64 = omega (arith, leb-true 64 k el) in
          wrong NameLength k i c s (step k c ∙ rw (et, el) refl)
          (rw (et, q) (found-long i (length s) (length (up_to z s)) (length (front is_name_byte (c ∷ s)))))
      go on false et e ee false el true en =
          let l = leb-false 64 k el in
          let u = length (up_to z s) in
          let j : i + suc u + 1 ≡ i + 1 + u + 1 = omega arith in
          let n : suc u + 1 ≡ suc (u + 1) = omega arith in
          turn-to (part k) (part (k + 1)) i c s (step k c ∙ rw (et, el, en) refl) ∙ on (omega (arith, l))
          ∙ sym (rw (et, en, found-more i k (length s) u (length (front is_name_byte s)) l, ltb-suc u (length s), j, n) refl)
      go on false et e ee false el false en =
          wrong NameByte k i c s (step k c ∙ rw (et, el, en) refl) (rw (et, en) (found-byte i k (length s) (length (up_to z s)) (leb-false 64 k el)))

  -- THE NAME
  pub name-least : (i : ℕ) (s : List ℕ) → check_from (part 0) i s ≡ earlier (name_faults z i s) (behind i s)
  unfolding name_faults earliest
  name-least i s = let e : 0 + length (up_to z s) ≡ length (up_to z s) = omega arith in rw e at (told s 0 i (omega arith))
