-- What is written reads back, and what is read from the form that we write is written back unchanged. Assumes nothing.
use Rattle.std.specs.Prelude.{Some}
use mathlib.Core.Path.{◌≡◌, refl, sym, ap, ◌∙◌}
use mathlib.Core.Bool.{Bool, true, false, ◌||◌}
use mathlib.Core.List.{List, [], ◌∷◌, ◌++◌, append_assoc, append-nil}
use mathlib.Core.Logic.{⊎_elim}
use Prim.Native.Nat.{ℕ, zero, suc, ◌+◌, ◌-◌, ◌*◌, ◌/◌, ◌%◌, ◌^◌, ◌≤◌, ◌<◌}
use native.Mathlib.Nat.{zero-add, add-zero, pow-suc, pow-le-pow_right}
use native.Mathlib.Numerals.{add-one}
use native.Mathlib.Omega.{arith}
use lib.ListN.{length, get_or, length-append, get_or-append}
use borrow.Author.Tests.{lt-ltb, le-ltb, le-leb, lt-leb, ne_eqb, eqb-false, not-true, ltb-true}
use lib.Dec.{leb, eqb}
use Rattle.numbers.specs.declared.Base.{Base}
use Rattle.numbers.specs.declared.Base.TheVariants.{Decimal, Hex}
use Rattle.fields.specs.Lists.{all}
use Rattle.numbers.specs.Canonical.{plain, is_capital, capitals, is_byte}
use Rattle.numbers.specs.Reading.{radix, decimal_digit, hex_digit, digit, value_from, read_decimal, read_size, read_crc, read_hex, little_value, read_little}
use Rattle.numbers.specs.Writing.{decimal, capital, hex, little}
use Rattle.fields.proofs.Lists.{le-or-lt, both}
use Rattle.numbers.proofs.numerals.Writing.{decimal-small, decimal-more, decimal-some, hex-length, little-length}
use Rattle.numbers.proofs.Reading.{below, below_none, decimal-is, decimal-byte, hex-is, hex-upper, hex-low, hex-past-nine, hex-past-upper, hex-past-lower, value_none, value-one, value-digit, value_grows, read_decimal-is, read_crc-is, read_hex-is, read_little-is, decimal-form, crc-form, hex-form, little-form, decimal-below}

-- Written, and read back

-- a digit at the end
snoc : (b : Base) (acc c v : ℕ) (s : List ℕ) → digit b c < radix b → value_from b acc s ≡ Some v
    → value_from b acc (s ++ (c ∷ [])) ≡ Some (v * radix b + digit b c)
snoc b acc c v [] h e =
    let w : acc ≡ v = cc (value_none b acc) in
    value-one b acc c [] h ∙ value_none b _ ∙ ap (λ (x : ℕ). Some (x * radix b + digit b c)) w
snoc b acc c v (a ∷ s) h e =
    let d = value-digit b acc a v s e in
    value-one b acc a _ d.0 ∙ snoc b (acc * radix b + digit b a) c v s h d.1

-- what is written for a digit reads as it
decimal_digit_lem : (n : ℕ) → n < 10 → decimal_digit (48 + n) ≡ n
decimal_digit_lem n h = decimal-is (48 + n) (omega arith) (omega arith) ∙ omega arith

capital-number : (n : ℕ) → n < 10 → capital n ≡ 48 + n
unfolding capital
capital-number n h = rw (lt-ltb n 10 h)

capital-letter : (n : ℕ) → 10 ≤ n → capital n ≡ 55 + n
unfolding capital
capital-letter n h = rw (le-ltb n 10 h)

capital-digit : (n : ℕ) → n < 16 → hex_digit (capital n) ≡ n
capital-digit n h = ⊎_elim
    (λ (g : 10 ≤ n). rw (capital-letter n g) (hex-upper (55 + n) (omega arith) (omega arith) ∙ omega arith))
    (λ (g : n < 10). rw (capital-number n g) (hex-is (48 + n) (omega arith) (omega arith) ∙ omega arith))
    (le-or-lt 10 n)

-- a decimal digit and a hex digit behind those before them
decimal-snoc : (acc v n : ℕ) (s : List ℕ) → n < 10 → value_from Decimal acc s ≡ Some v → value_from Decimal acc (s ++ ((48 + n) ∷ [])) ≡ Some (v * 10 + n)
unfolding radix
decimal-snoc acc v n s h e =
    let d = decimal_digit_lem n h in
    snoc Decimal acc (48 + n) v s (omega arith) e ∙ ap (λ (x : ℕ). Some (v * 10 + x)) d

hex-snoc : (acc v n : ℕ) (s : List ℕ) → n < 16 → value_from Hex acc s ≡ Some v → value_from Hex acc (s ++ (capital n ∷ [])) ≡ Some (v * 16 + n)
unfolding radix
hex-snoc acc v n s h e =
    let d = capital-digit n h in
    snoc Hex acc (capital n) v s (omega arith) e ∙ ap (λ (x : ℕ). Some (v * 16 + x)) d

pub decimal-value : (n : ℕ) → n < 10 ^ 20 → value_from Decimal 0 (decimal n) ≡ Some n
decimal-value n h = go n n h (omega arith)
  where
    small : (n : ℕ) → n < 10 → value_from Decimal 0 (decimal n) ≡ Some n
    small n g = rw (decimal-small n g) (decimal-snoc 0 0 (n % 10) [] (omega arith) (value_none Decimal 0) ∙ ap Some (omega arith))

    go : (k n : ℕ) → n < 10 ^ 20 → n ≤ k → value_from Decimal 0 (decimal n) ≡ Some n
    go zero n b h = small n (omega arith)
    go (suc k) n b h = ⊎_elim
        (λ (g : 10 ≤ n). rw (decimal-more n g b) (decimal-snoc 0 (n / 10) (n % 10) (decimal (n / 10)) (omega arith) (go k (n / 10) (omega arith) (omega arith)) ∙ ap Some (omega arith)))
        (λ (g : n < 10). small n g)
        (le-or-lt 10 n)

pub hex-value : (w v : ℕ) → v < 16 ^ w → value_from Hex 0 (hex w v) ≡ Some v
unfolding hex
hex-value zero v h = value_none Hex 0 ∙ ap Some (omega arith)
hex-value (suc w) v h =
    let p : v < 16 ^ w * 16 = rw (pow-suc 16 w) at h in
    hex-snoc 0 (v / 16) (v % 16) (hex w (v / 16)) (omega arith) (hex-value w (v / 16) (omega arith)) ∙ ap Some (omega arith)

-- n below 10 ^ suc w has at most suc w digits
pub decimal-length : (w n : ℕ) → n < 10 ^ 20 → n < 10 ^ suc w → length (decimal n) ≤ suc w
decimal-length zero n b h = rw (decimal-small n h) (omega arith)
decimal-length (suc w) n b h = ⊎_elim
    (λ (g : 10 ≤ n). let p : n < 10 ^ suc w * 10 = rw (pow-suc 10 (suc w)) at h in let r = decimal-length w (n / 10) (omega arith) (omega arith) in rw (decimal-more n g b) (simp length-append (omega arith)))
    (λ (g : n < 10). rw (decimal-small n g) (omega arith))
    (le-or-lt 10 n)

pub read-decimal : (w n : ℕ) → n < 10 ^ 20 → n < 10 ^ suc w → read_decimal (suc w) (decimal n) ≡ Some n
read-decimal w n b h = sym (read_decimal-is (suc w) (decimal n) (decimal-some n) (decimal-length w n b h)) ∙ decimal-value n b

pub read-size : (n : ℕ) → n ≤ 99999999 → read_size (decimal n) ≡ Some n
read-size n h = read-decimal 7 n (omega arith) (omega arith)

pub read-crc : (n : ℕ) → n ≤ 65535 → read_crc (decimal n) ≡ Some n
read-crc n h = sym (read_crc-is (decimal n) n (read-decimal 4 n (omega arith) (omega arith)) h)

pub read-hex : (v : ℕ) → v < 16 ^ 8 → read_hex (hex 8 v) ≡ Some v
read-hex v h = sym (read_hex-is (hex 8 v) (hex-length 8 v)) ∙ hex-value 8 v h

pub little-value : (w v : ℕ) → v < 256 ^ w → little_value (little w v) ≡ v
unfolding little little_value
little-value zero v h = omega arith
little-value (suc w) v h =
    let p : v < 256 ^ w * 256 = rw (pow-suc 256 w) at h in
    rw (little-value w (v / 256) (omega arith)) (omega arith)

pub read-little : (w v : ℕ) → w ≤ 4 → v < 256 ^ w → read_little (little w v) ≡ Some v
read-little w v k h = sym (read_little-is (little w v) (rw (little-length w v) k)) ∙ ap Some (little-value w v h)

-- Read, and written back

-- a digit behind a number that is not 0 is written behind its digits
decimal-behind : (acc v : ℕ) (s : List ℕ) → 0 < acc → v < 10 ^ 20 → value_from Decimal acc s ≡ Some v → decimal v ≡ decimal acc ++ s
unfolding radix
decimal-behind acc v [] h b e = let w : acc ≡ v = cc (value_none Decimal acc) in rw (← w) (sym (append-nil (decimal acc)))
decimal-behind acc v (c ∷ s) h b e =
    let d = value-digit Decimal acc c v s e in
    let g = value_grows Decimal _ v s d.1 in
    let r = decimal-byte c d.0 in
    let i = decimal-is c r.0 r.1 in
    let q : (acc * 10 + decimal_digit c) / 10 ≡ acc = omega arith in
    let m : 48 + (acc * 10 + decimal_digit c) % 10 ≡ c = omega arith in
    decimal-behind (acc * 10 + decimal_digit c) v s (omega arith) b d.1
    ∙ rw (decimal-more (acc * 10 + decimal_digit c) (omega arith) (omega arith), q, m) (append_assoc (decimal acc) (c ∷ []) s)

pub decimal-back : (w v : ℕ) (s : List ℕ) → w ≤ 20 → read_decimal w s ≡ Some v → plain s ≡ true → decimal v ≡ s
unfolding plain radix
decimal-back w v [] k e p = let f = decimal-form w v [] e in absurd (omega arith)
decimal-back w v (c ∷ s) k e p =
    let b = decimal-below w v (c ∷ s) e in
    let t = pow-le-pow_right {n = 10} (omega arith) {i = w} {j = 20} k in
    let d = value-digit Decimal 0 c v s (decimal-form w v (c ∷ s) e).2 in
    let r = decimal-byte c d.0 in
    let i = decimal-is c r.0 r.1 in
    first s (omega arith) (0 * 10 + decimal_digit c) (omega arith) (omega arith) d.1 p
  where
    first : (s : List ℕ) → v < 10 ^ 20 → (n : ℕ) → n < 10 → 48 + n ≡ c → value_from Decimal n s ≡ Some v → plain (c ∷ s) ≡ true → decimal v ≡ c ∷ s
    first [] b n h q e p =
        let m : n ≡ v = cc (value_none Decimal n) in
        let x : 48 + v % 10 ≡ c = omega arith in
        rw (decimal-small v (omega arith), x)
    first (a ∷ s) b n h q e p =
        let u : leb (suc (suc (length s))) 1 ≡ false = lt-leb (suc (suc (length s))) 1 (omega arith) in
        let z : c ≡ 48 → ⊥ = eqb-false c 48 (not-true (eqb c 48) (simp u at p)) in
        let x : 48 + n % 10 ≡ c = omega arith in
        decimal-behind n v (a ∷ s) (omega arith) b e ∙ rw (decimal-small n h, x)

pub size_back : (v : ℕ) (s : List ℕ) → read_size s ≡ Some v → plain s ≡ true → decimal v ≡ s
size_back v s e p = decimal-back 8 v s (omega arith) e p

pub crc-back : (v : ℕ) (s : List ℕ) → read_crc s ≡ Some v → plain s ≡ true → decimal v ≡ s
crc-back v s e p = decimal-back 5 v s (omega arith) (crc-form v s e).1 p

-- a hex digit in capitals is the capital of its value
capital-back : (c : ℕ) → hex_digit c < 16 → is_capital c ≡ true → capital (hex_digit c) ≡ c
capital-back c h f = ⊎_elim
    (λ (p : c ≤ 57). ⊎_elim
    (λ (q : 48 ≤ c). rw (hex-is c q p) (capital-number (c - 48) (omega arith) ∙ omega arith))
    (λ (q : c < 48). absurd (omega (arith, hex-low c q))) (le-or-lt 48 c))
    (λ (p : 57 < c). ⊎_elim
    (λ (q : c ≤ 70). ⊎_elim
    (λ (r : 65 ≤ c). rw (hex-upper c r q) (capital-letter (c - 55) (omega arith) ∙ omega arith))
    (λ (r : c < 65). absurd (omega (arith, hex-past-nine c p r))) (le-or-lt 65 c))
    (λ (q : 70 < c). ⊎_elim
    (λ (r : c ≤ 102). ⊎_elim
    (λ (u : 97 ≤ c). let z : false ≡ true = simp (le-leb 48 c (omega arith), lt-leb c 57 p, le-leb 65 c (omega arith), lt-leb c 70 q) at f in let y : ◌≡◌ {A = ℕ} 0 1 = cc in absurd (omega arith))
    (λ (u : c < 97). absurd (omega (arith, hex-past-upper c q u))) (le-or-lt 97 c))
    (λ (r : 102 < c). absurd (omega (arith, hex-past-lower c r))) (le-or-lt c 102)) (le-or-lt c 70))
    (le-or-lt c 57)

hex-last : (k acc c : ℕ) (s : List ℕ) → hex_digit c < 16 → is_capital c ≡ true → hex (suc k) (acc * 16 + hex_digit c) ++ s ≡ hex k acc ++ (c ∷ s)
unfolding hex
hex-last k acc c s h g =
    let q : (acc * 16 + hex_digit c) / 16 ≡ acc = omega arith in
    let m : (acc * 16 + hex_digit c) % 16 ≡ hex_digit c = omega arith in
    rw (q, m, capital-back c h g) (append_assoc (hex k acc) (c ∷ []) s)

-- digits behind k others are written behind them
hex-behind : (k acc v : ℕ) (s : List ℕ) → value_from Hex acc s ≡ Some v → capitals s ≡ true → hex (k + length s) v ≡ hex k acc ++ s
unfolding radix all
hex-behind k acc v [] e f = let w : acc ≡ v = cc (value_none Hex acc) in rw (← w, add-zero k) (sym (append-nil (hex k acc)))
hex-behind k acc v (c ∷ s) e f =
    let d = value-digit Hex acc c v s e in
    let g = both _ _ f in
    let n : k + suc (length s) ≡ suc k + length s = omega arith in
    rw n (hex-behind (suc k) (acc * 16 + hex_digit c) v s d.1 g.1 ∙ hex-last k acc c s d.0 g.0)

-- over the width
pub hex-digits-back : (v : ℕ) (s : List ℕ) → value_from Hex 0 s ≡ Some v → capitals s ≡ true → hex (length s) v ≡ s
unfolding hex
hex-digits-back v s e f = rw (zero-add (length s)) at (hex-behind 0 0 v s e f)

pub hex-back : (v : ℕ) (s : List ℕ) → read_hex s ≡ Some v → capitals s ≡ true → hex 8 v ≡ s
hex-back v s e f = let g = hex-form v s e in rw g.0 at (hex-digits-back v s g.1 f)

pub little-bytes-back : (s : List ℕ) → all is_byte s ≡ true → little (length s) (little_value s) ≡ s
unfolding little little_value all is_byte
little-bytes-back [] f = refl
little-bytes-back (c ∷ s) f =
    let g = both _ _ f in
    let h = ltb-true c 256 g.0 in
    let q : (little_value s * 256 + c) / 256 ≡ little_value s = omega arith in
    let m : (little_value s * 256 + c) % 256 ≡ c = omega arith in
    rw (q, m, little-bytes-back s g.1)

-- as many bytes bound the number
pub little-below : (s : List ℕ) → all is_byte s ≡ true → little_value s < 256 ^ length s
unfolding little_value all is_byte
little-below [] f = below_none 256
little-below (c ∷ s) f =
    let g = both _ _ f in
    rw add-one at (below 256 (length s) (little_value s) c (little-below s g.1) (ltb-true c 256 g.0))

pub little-back : (v : ℕ) (s : List ℕ) → read_little s ≡ Some v → all is_byte s ≡ true → little (length s) v ≡ s
little-back v s e f = rw (little-form v s e).1 at (little-bytes-back s f)

-- ---- what is written is in that form

-- the first digit of what is not 0
decimal-first : (k n : ℕ) → n ≤ k → 0 < n → n < 10 ^ 20 → 48 < get_or (decimal n) 0 0
decimal-first zero n h p b = absurd (omega arith)
decimal-first (suc k) n h p b = ⊎_elim
    (λ (g : 10 ≤ n). rw (decimal-more n g b, get_or-append (decimal (n / 10)) ((48 + n % 10) ∷ []) 0 0 (decimal-some (n / 10))) (decimal-first k (n / 10) (omega arith) (omega arith) (omega arith)))
    (λ (g : n < 10). rw (decimal-small n g) (omega arith))
    (le-or-lt 10 n)

pub decimal-plain : (n : ℕ) → n < 10 ^ 20 → plain (decimal n) ≡ true
unfolding plain
decimal-plain n b = ⊎_elim
    (λ (g : 10 ≤ n). let f = decimal-first n n (omega arith) (omega arith) b in let z : get_or (decimal n) 0 0 ≡ 48 → ⊥ = λ e. omega arith in
    rw (ne_eqb (get_or (decimal n) 0 0) 48 z) (or-true (leb (length (decimal n)) 1)))
    (λ (g : n < 10). rw (decimal-small n g))
    (le-or-lt 10 n)
  where
    or-true : (a : Bool) → a || true ≡ true
    or-true true = refl
    or-true false = refl

pub little-bytes : (w v : ℕ) → all is_byte (little w v) ≡ true
unfolding little all is_byte
little-bytes zero v = refl
little-bytes (suc w) v = rw (lt-ltb (v % 256) 256 (omega arith), little-bytes w (v / 256))
