-- Laws of numbers that are read. A loop over digits cites the law of one turn, at the place i of the list s, that of a byte that is no
-- digit, and that of the end. Assumes nothing.
use Rattle.std.specs.Prelude.{None, Option, Some, ℕ}
use mathlib.Core.Path.{◌≡◌, refl, sym, ap, ◌∙◌}
use mathlib.Core.List.{List, [], ◌∷◌, ◌++◌}
use mathlib.Core.Logic.{◌⊎◌, ⊎_elim}
use Prim.Native.Nat.{ℕ, suc, ◌+◌, ◌-◌, ◌*◌, ◌^◌, ◌≤◌, ◌<◌}
use native.Mathlib.Nat.{add-zero, pow-zero, pow-suc, pow-le-pow_right, suc-mul, mul-le-mul_right}
use native.Mathlib.Numerals.{add-one}
use native.Mathlib.Omega.{arith}
use lib.ListN.{length, drop, get_or, drop_of_length-le}
use borrow.Author.Tests.{lt-ltb, le-ltb, le-leb, lt-leb, eq-eqb, ne_eqb, eqb-true}
use lib.Dec.{eqb, ltb}
use mathlib.Core.Bool.{Bool, true, false, cond}
use Rattle.std.specs.Char.{digit_value}
use Rattle.std.specs.Int.{from_le_bytes, w32}
use Rattle.std.specs.Option.{SomeIff, unwrap_or}
use Rattle.std.proofs.lemmas.Bool.Decides.{nat_tests}
use Rattle.numbers.specs.declared.Base.{Base}
use Rattle.numbers.specs.declared.Base.TheVariants.{Decimal, Hex}
use Rattle.fields.specs.Pick.{pick}
use Rattle.fields.specs.Lists.{up_to}
use Rattle.numbers.specs.Reading.{radix, decimal_digit, hex_digit, digit, value_from, read_decimal, read_size, at_most, read_crc, read_hex, little_value, read_little}
use Rattle.fields.proofs.Lists.{le-or-lt, drop-one}

-- a number of i digits to the base r, with one digit more
pub below : (r i v d : ℕ) → v < r ^ i → d < r → v * r + d < r ^ (i + 1)
below r i v d h g = rw (add-one, pow-suc) (omega (arith, suc-mul v r, mul-le-mul_right r h))

pub below_none : (r : ℕ) → 0 < r ^ 0
below_none r = rw (pow-zero r) (omega arith)

-- it fits where all n digits fit
pub fits : (r n m i v d : ℕ) → v < r ^ i → d < r → i < n → r ^ n ≤ m → v * r + d < m
fits r n m i v d h g k b = omega (arith, below r i v d h g, pow-le-pow_right {n = r} (omega arith) {i = i + 1} {j = n} (omega arith))

-- Digits

-- the value of a decimal digit, and that another byte is none
pub decimal-is : (c : ℕ) → 48 ≤ c → c ≤ 57 → decimal_digit c ≡ c - 48
unfolding decimal_digit
decimal-is c h g = simp (le-leb 48 c h, le-leb c 57 g)

pub decimal-low : (c : ℕ) → c < 48 → decimal_digit c ≡ 10
unfolding decimal_digit
decimal-low c h = simp (lt-leb 48 c h)

pub decimal-high : (c : ℕ) → 57 < c → decimal_digit c ≡ 10
unfolding decimal_digit
decimal-high c h = simp (le-leb 48 c (omega arith), lt-leb c 57 h)

-- the same of hex digits
pub hex-is : (c : ℕ) → 48 ≤ c → c ≤ 57 → hex_digit c ≡ c - 48
unfolding hex_digit
hex-is c h g = simp (le-leb 48 c h, le-leb c 57 g)

pub hex-upper : (c : ℕ) → 65 ≤ c → c ≤ 70 → hex_digit c ≡ c - 55
unfolding hex_digit
hex-upper c h g = simp (le-leb 48 c (omega arith), lt-leb c 57 (omega arith), le-leb 65 c h, le-leb c 70 g)

pub hex-low : (c : ℕ) → c < 48 → hex_digit c ≡ 16
unfolding hex_digit
hex-low c h = simp (lt-leb 48 c h, lt-leb 65 c (omega arith), lt-leb 97 c (omega arith))

pub hex-past-nine : (c : ℕ) → 57 < c → c < 65 → hex_digit c ≡ 16
unfolding hex_digit
hex-past-nine c h g = simp (le-leb 48 c (omega arith), lt-leb c 57 h, lt-leb 65 c g, lt-leb 97 c (omega arith))

pub hex-past-upper : (c : ℕ) → 70 < c → c < 97 → hex_digit c ≡ 16
unfolding hex_digit
hex-past-upper c h g = simp (le-leb 48 c (omega arith), lt-leb c 57 (omega arith), le-leb 65 c (omega arith), lt-leb c 70 h, lt-leb 97 c g)

pub hex-past-lower : (c : ℕ) → 102 < c → hex_digit c ≡ 16
unfolding hex_digit
hex-past-lower c h = simp (le-leb 48 c (omega arith), lt-leb c 57 (omega arith), le-leb 65 c (omega arith), lt-leb c 70 (omega arith), le-leb 97 c (omega arith), lt-leb c 102 h)

-- what `to_digit` reads
pub decimal_value : (c : ℕ) → decimal_digit c ≡ cond (ltb (digit_value c) 10) (digit_value c) 10
unfolding decimal_digit
decimal_value c = grind (arith, nat_tests)

pub hex_value : (c : ℕ) → hex_digit c ≡ cond (ltb (digit_value c) 16) (digit_value c) 16
unfolding hex_digit
hex_value c = grind (arith, nat_tests)

-- a digit d of the base m is v where that is below m
module _ (m v d : ℕ) (e : d ≡ cond (ltb v m) v m) where
  digit-there : v < m → d ≡ v
  digit-there h = simp (lt-ltb v m h) at e

  digit-absent : m ≤ v → d ≡ m
  digit-absent h = simp (le-ltb v m h) at e

  some-digit : (r : Option ℕ) → SomeIff r (v < m) v → SomeIff r (d < m) d
  some-digit None h = λ k. ⊎_elim (λ (a : m ≤ v). absurd (omega (arith, digit-absent a, k))) (λ (a : v < m). h a) (le-or-lt m v)
  some-digit (Some x) h = let q = digit-there h.0 in (rw q h.0, h.1 ∙ sym q)

  digit-or : (r : Option ℕ) (n : ℕ) → SomeIff r (v < m) v → n ≡ unwrap_or r m → n ≡ d
  digit-or None n h q = ⊎_elim (λ (a : m ≤ v). q ∙ sym (digit-absent a)) (λ (a : v < m). absurd (h a)) (le-or-lt m v)
  digit-or (Some x) n h q = q ∙ h.1 ∙ sym (digit-there h.0)

pub digit_is : (b : Base) (c : ℕ) (r : Option ℕ) → SomeIff r (digit_value c < radix b) (digit_value c) → SomeIff r (digit b c < radix b) (digit b c)
unfolding radix
digit_is Decimal c r h = some-digit 10 _ _ (decimal_value c) r h
digit_is Hex c r h = some-digit 16 _ _ (hex_value c) r h

pub hex-read : (c : ℕ) (r : Option ℕ) (n : ℕ) → SomeIff r (digit_value c < 16) (digit_value c) → n ≡ unwrap_or r 16 → n ≡ hex_digit c
hex-read c r n h e = digit-or 16 _ _ (hex_value c) r n h e

-- the bytes that have the value of a digit
pub decimal-byte : (c : ℕ) → decimal_digit c < 10 → (48 ≤ c) × (c ≤ 57)
decimal-byte c h = ⊎_elim
    (λ (p : 48 ≤ c). ⊎_elim (λ (q : c ≤ 57). (p, q)) (λ (q : 57 < c). absurd (omega (arith, decimal-high c q))) (le-or-lt c 57))
    (λ (p : c < 48). absurd (omega (arith, decimal-low c p)))
    (le-or-lt 48 c)

pub radix-some : (b : Base) → 0 < radix b
unfolding radix
radix-some Decimal = omega arith
radix-some Hex = omega arith

-- Digits one behind another

module _ (b : Base) (acc : ℕ) where
  pub value_none : value_from b acc [] ≡ Some acc
  unfolding value_from
  value_none = refl

  pub value-one : (c : ℕ) (s : List ℕ) → digit b c < radix b → value_from b acc (c ∷ s) ≡ value_from b (acc * radix b + digit b c) s
  unfolding value_from
  value-one c s h = rw (lt-ltb (digit b c) (radix b) h)

  pub value-bad : (c : ℕ) (s : List ℕ) → radix b ≤ digit b c → value_from b acc (c ∷ s) ≡ None
  unfolding value_from
  value-bad c s h = rw (le-ltb (digit b c) (radix b) h)

  -- where all has a value, the first byte is a digit, and the rest has that value
  pub value-digit : (c v : ℕ) (s : List ℕ) → value_from b acc (c ∷ s) ≡ Some v
      → (digit b c < radix b) × (value_from b (acc * radix b + digit b c) s ≡ Some v)
  value-digit c v s e = ⊎_elim
      (λ (h : radix b ≤ digit b c). let z : ◌≡◌ {A = ℕ} 0 1 = cc (value-bad c s h) in absurd (omega arith))
      (λ (h : digit b c < radix b). (h, sym (value-one c s h) ∙ e))
      (le-or-lt (radix b) (digit b c))

  module _ (s : List ℕ) (i : ℕ) where
    pub value_on : i < length s → digit b (get_or s i 0) < radix b
        → value_from b (acc * radix b + digit b (get_or s i 0)) (drop (i + 1) s) ≡ value_from b acc (drop i s)
    value_on h g = sym (ap (value_from b acc) (drop-one s i h) ∙ value-one _ _ g)

    pub value-stop : i < length s → radix b ≤ digit b (get_or s i 0) → None ≡ value_from b acc (drop i s)
    value-stop h g = sym (ap (value_from b acc) (drop-one s i h) ∙ value-bad _ _ g)

    pub value-end : length s ≤ i → Some acc ≡ value_from b acc (drop i s)
    value-end h = sym (ap (value_from b acc) (drop_of_length-le s h) ∙ value_none)

-- as many digits bound the number
pub value-below : (b : Base) (i acc v : ℕ) (s : List ℕ) → acc < radix b ^ i → value_from b acc s ≡ Some v → v < radix b ^ (i + length s)
value-below b i acc v [] h e = let w : acc ≡ v = cc (value_none b acc) in rw (← w, add-zero) h
value-below b i acc v (c ∷ s) h e =
    let d = value-digit b acc c v s e in
    let n : i + suc (length s) ≡ i + 1 + length s = omega arith in
    rw n (value-below b (i + 1) _ v s (below _ i acc _ h d.0) d.1)

-- digits behind a number do not make it less
pub value_grows : (b : Base) (acc v : ℕ) (s : List ℕ) → value_from b acc s ≡ Some v → acc ≤ v
value_grows b acc v [] e = let w : acc ≡ v = cc (value_none b acc) in omega arith
value_grows b acc v (c ∷ s) e =
    let d = value-digit b acc c v s e in
    omega (arith, value_grows b (acc * radix b + digit b c) v s d.1, mul-le-mul_right acc (radix-some b))

-- a byte that is no digit stands nowhere in what has a value
pub value-without : (b : Base) (x acc v : ℕ) (s : List ℕ) → radix b ≤ digit b x → value_from b acc s ≡ Some v → up_to x s ≡ s
unfolding up_to
value-without b x acc v [] h e = refl
value-without b x acc v (c ∷ s) h e =
    let d = value-digit b acc c v s e in
    let n : c ≡ x → ⊥ = λ q. omega (arith, d.0, ap (digit b) q) in
    rw (ne_eqb c x n, value-without b x (acc * radix b + digit b c) v s h d.1)

-- Each field, case by case

pub read_decimal-none : (w : ℕ) (s : List ℕ) → length s < 1 → None ≡ read_decimal w s
unfolding read_decimal
read_decimal-none w s h = simp (lt-leb 1 (length s) h)

pub read_decimal-long : (w : ℕ) (s : List ℕ) → 1 ≤ length s → w < length s → None ≡ read_decimal w s
unfolding read_decimal
read_decimal-long w s h g = simp (le-leb 1 (length s) h, lt-leb (length s) w g)

pub read_decimal-is : (w : ℕ) (s : List ℕ) → 1 ≤ length s → length s ≤ w → value_from Decimal 0 s ≡ read_decimal w s
unfolding read_decimal
read_decimal-is w s h g = simp (le-leb 1 (length s) h, le-leb (length s) w g)

-- as many decimal digits as a u32 holds, and as many hex digits
pub decimal-fits : (n : ℕ) → n ≤ 9 → radix Decimal ^ n ≤ 4294967296
unfolding radix
decimal-fits n h = omega (arith, pow-le-pow_right {n = 10} (omega arith) {i = n} {j = 9} h)

pub hex-fits : (n : ℕ) → n ≡ 8 → radix Hex ^ n ≤ 4294967296
unfolding radix
hex-fits n h = rw h (omega arith)

module _ (s : List ℕ) where
  -- a CRC
  pub read_crc-bad : read_decimal 5 s ≡ None → None ≡ read_crc s
  unfolding read_crc
  read_crc-bad e = rw e

  pub read_crc-high : (v : ℕ) → read_decimal 5 s ≡ Some v → 65535 < v → None ≡ read_crc s
  unfolding read_crc
  read_crc-high v e h = simp (e, lt-leb v 65535 h)

  pub read_crc-is : (v : ℕ) → read_decimal 5 s ≡ Some v → v ≤ 65535 → Some v ≡ read_crc s
  unfolding read_crc
  read_crc-is v e h = simp (e, le-leb v 65535 h)

  -- hex digits
  pub read_hex-bad : (length s ≡ 8 → ⊥) → None ≡ read_hex s
  unfolding read_hex
  read_hex-bad h = rw (ne_eqb (length s) 8 h)

  pub read_hex-is : length s ≡ 8 → value_from Hex 0 s ≡ read_hex s
  unfolding read_hex
  read_hex-is h = rw (eq-eqb (length s) 8 h)

  -- little-endian bytes, from the last on: the one before i goes behind all from i on
  module _ (i acc x : ℕ) (some : 0 < i) (inside : i ≤ length s) where
    pub little-on : acc ≡ little_value (drop i s) → x ≡ get_or s (i - 1) 0 → acc * 256 + x ≡ little_value (drop (i - 1) s)
    unfolding little_value
    little-on e q =
        let n : i - 1 + 1 ≡ i = omega arith in
        rw (drop-one s (i - 1) (omega arith), n, e, q)

  pub read_little-is : length s ≤ 4 → Some (little_value s) ≡ read_little s
  unfolding read_little
  read_little-is h = rw (le-leb (length s) 4 h)

  pub read_little-bad : 4 < length s → None ≡ read_little s
  unfolding read_little
  read_little-bad h = rw (lt-leb (length s) 4 h)

-- What is known of a field that was read

never : {A : Type 0} (v : ℕ) → None ≡ Some v → A
never v e = let z : ◌≡◌ {A = ℕ} 0 1 = cc in absurd (omega arith)

-- how many digits there are, and their value
pub decimal-form : (w v : ℕ) (s : List ℕ) → read_decimal w s ≡ Some v → (1 ≤ length s) × (length s ≤ w) × (value_from Decimal 0 s ≡ Some v)
decimal-form w v s e = ⊎_elim
    (λ (h : 1 ≤ length s). ⊎_elim
    (λ (g : length s ≤ w). (h, g, read_decimal-is w s h g ∙ e))
    (λ (g : w < length s). never v (read_decimal-long w s h g ∙ e)) (le-or-lt (length s) w))
    (λ (h : length s < 1). never v (read_decimal-none w s h ∙ e))
    (le-or-lt 1 (length s))

pub hex-form : (v : ℕ) (s : List ℕ) → read_hex s ≡ Some v → (length s ≡ 8) × (value_from Hex 0 s ≡ Some v)
unfolding read_hex
hex-form v s e = go (eqb (length s) 8) refl e
  where
    go : (t : Bool) → eqb (length s) 8 ≡ t → pick t (value_from Hex 0 s) None ≡ Some v → (length s ≡ 8) × (value_from Hex 0 s ≡ Some v)
    go true q r = (eqb-true (length s) 8 q, r)
    go false q r = never v r

at-most : (m v : ℕ) (n : Option ℕ) → at_most m n ≡ Some v → (v ≤ m) × (n ≡ Some v)
at-most m v (Some u) e = ⊎_elim
    (λ (h : u ≤ m). let w : Some u ≡ Some v = simp (le-leb u m h) at e in let q : u ≡ v = cc in (rw (← q) h, w))
    (λ (h : m < u). never v (simp (lt-leb u m h) at e))
    (le-or-lt u m)
at-most m v None e = never v e

pub crc-form : (v : ℕ) (s : List ℕ) → read_crc s ≡ Some v → (v ≤ 65535) × (read_decimal 5 s ≡ Some v)
unfolding read_crc
crc-form v s e = at-most 65535 v (read_decimal 5 s) e

pub little-form : (v : ℕ) (s : List ℕ) → read_little s ≡ Some v → (length s ≤ 4) × (little_value s ≡ v)
little-form v s e = ⊎_elim
    (λ (h : length s ≤ 4). (h, cc (read_little-is s h)))
    (λ (h : 4 < length s). never v (read_little-bad s h ∙ e))
    (le-or-lt (length s) 4)

pub decimal-below : (w v : ℕ) (s : List ℕ) → read_decimal w s ≡ Some v → v < 10 ^ w
unfolding radix
decimal-below w v s e =
    let f = decimal-form w v s e in
    omega (arith, value-below Decimal 0 0 v s (below_none 10) f.2, pow-le-pow_right {n = 10} (omega arith) {i = 0 + length s} {j = w} (omega arith))

pub size_below : (v : ℕ) (s : List ℕ) → read_size s ≡ Some v → v ≤ 99999999
size_below v s e = omega (arith, decimal-below 8 v s e)

pub crc-below : (v : ℕ) (s : List ℕ) → read_crc s ≡ Some v → v ≤ 65535
crc-below v s e = (crc-form v s e).0

pub hex-below : (v : ℕ) (s : List ℕ) → read_hex s ≡ Some v → v < 16 ^ 8
unfolding radix
hex-below v s e =
    let f = hex-form v s e in
    let n : 0 + length s ≡ 8 = omega arith in
    rw n at (value-below Hex 0 0 v s (below_none 16) f.1)

-- a byte that is no digit stands nowhere in a number
pub decimal-without : (w x v : ℕ) (s : List ℕ) → (x < 48) ⊎ (57 < x) → read_decimal w s ≡ Some v → up_to x s ≡ s
unfolding radix
decimal-without w x v s h e =
    let d : 10 ≤ decimal_digit x = ⊎_elim (λ (g : x < 48). omega (arith, decimal-low x g)) (λ (g : 57 < x). omega (arith, decimal-high x g)) h in
    value-without Decimal x 0 v s d (decimal-form w v s e).2

-- little-endian bytes with zeros behind them
little-zeros : (s : List ℕ) → length s ≤ 4 → from_le_bytes w32 (s ++ drop (length s) (0 ∷ 0 ∷ 0 ∷ 0 ∷ [])) ≡ little_value s
unfolding little_value
little-zeros [] h = omega arith
little-zeros (a ∷ []) h = omega arith
little-zeros (a ∷ b ∷ []) h = omega arith
little-zeros (a ∷ b ∷ c ∷ []) h = omega arith
little-zeros (a ∷ b ∷ c ∷ d ∷ []) h = omega arith
little-zeros (a ∷ b ∷ c ∷ d ∷ e ∷ s) h = absurd (omega arith)

pub little_is : (s p : List ℕ) (n : ℕ) → length s ≤ 4 → p ≡ s → n ≡ from_le_bytes w32 (p ++ drop (length s) (0 ∷ 0 ∷ 0 ∷ 0 ∷ [])) → Some n ≡ read_little s
unfolding read_little
little_is s p n h q e = rw (le-leb (length s) 4 h) (ap Some (e ∙ rw q (little-zeros s h)))
