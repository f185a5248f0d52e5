-- The laws of decimal and hex digits and of little-endian bytes that are written.
-- Assumes nothing.
use mathlib.Core.Path.{◌≡◌, refl, ap, ◌∙◌}
use mathlib.Core.List.{List, [], ◌∷◌, ◌++◌}
use Prim.Native.Nat.{ℕ, zero, suc, ◌+◌, ◌-◌, ◌*◌, ◌/◌, ◌%◌, ◌^◌, ◌≤◌, ◌<◌}
use native.Mathlib.Nat.{pow-suc}
use native.Mathlib.Numerals.{sub-one}
use native.Mathlib.Omega.{arith}
use lib.ListN.{length, length-append}
use mathlib.Core.Logic.{⊎_elim}
use Rattle.fields.proofs.Lists.{le-or-lt}
use borrow.Author.Tests.{lt-ltb, le-ltb}
use Rattle.numbers.specs.Writing.{digits, decimal, capital, hex, little}

-- the bound on the recursion does not matter where it is large enough
fuel : (k j n : ℕ) → n < 10 ^ suc k → n < 10 ^ suc j → digits k n ≡ digits j n
unfolding digits
fuel zero zero n h g = refl
fuel zero (suc j) n h g = simp (lt-ltb n 10 h)
fuel (suc k) zero n h g = simp (lt-ltb n 10 g)
fuel (suc k) (suc j) n h g =
    let p : n < 10 ^ suc k * 10 = rw (pow-suc 10 (suc k)) at h in
    let q : n < 10 ^ suc j * 10 = rw (pow-suc 10 (suc j)) at g in
    rw (fuel k j (n / 10) (omega arith) (omega arith))

digits_more : (k n : ℕ) → 10 ≤ n → digits (suc k) n ≡ digits k (n / 10) ++ ((48 + n % 10) ∷ [])
unfolding digits
digits_more k n h = simp (le-ltb n 10 h)

pub decimal-small : (n : ℕ) → n < 10 → decimal n ≡ (48 + n % 10) ∷ []
unfolding decimal digits
decimal-small n h = simp (lt-ltb n 10 h)

pub decimal-more : (n : ℕ) → 10 ≤ n → n < 10 ^ 20 → decimal n ≡ decimal (n / 10) ++ ((48 + n % 10) ∷ [])
unfolding decimal
decimal-more n h g = digits_more 18 n h ∙ decimal-rest
  where
    decimal-rest : digits 18 (n / 10) ++ ((48 + n % 10) ∷ []) ≡ decimal (n / 10) ++ ((48 + n % 10) ∷ [])
    decimal-rest = ap (λ (l : List ℕ). l ++ ((48 + n % 10) ∷ [])) (fuel 18 19 (n / 10) (omega arith) (omega arith))

pub digits-some : (k n : ℕ) → 0 < length (digits k n)
unfolding digits
digits-some zero n = omega arith
digits-some (suc k) n = ⊎_elim (λ h. simp (le-ltb n 10 h, length-append) (omega arith)) (λ h. simp (lt-ltb n 10 h) (omega arith)) (le-or-lt 10 n)

pub decimal-some : (n : ℕ) → 0 < length (decimal n)
unfolding decimal
decimal-some n = digits-some 19 n

-- hex digits
hex-suc : (n v : ℕ) → 0 < n → hex n v ≡ hex (n - 1) (v / 16) ++ (capital (v % 16) ∷ [])
unfolding hex
hex-suc zero v h = absurd (omega arith)
hex-suc (suc n) v h = rw (sub-one (suc n))

pub hex-length : (w v : ℕ) → length (hex w v) ≡ w
unfolding hex
hex-length zero v = refl
hex-length (suc w) v = simp (length-append, hex-length w (v / 16)) (omega arith)

pub hex_none : (d : List ℕ) (v : ℕ) → length d ≡ 0 → d ≡ hex (length d) v
unfolding hex
hex_none [] v h = refl
hex_none (x ∷ d) v h = absurd (omega arith)

-- the digits but the last are in p, and x is the last
pub hex_more : (d p : List ℕ) (v x n : ℕ) → p ≡ hex n (v / 16) → x ≡ capital (v % 16) → length d ≡ n + 1 → p ++ x ∷ [] ≡ hex (length d) v
hex_more d p v x n e q l = let m : length d - 1 ≡ n = omega arith in simp (hex-suc (length d) v (omega arith), m, e, q)

-- little-endian bytes
pub little-length : (w v : ℕ) → length (little w v) ≡ w
unfolding little
little-length zero v = refl
little-length (suc w) v = ap suc (little-length w (v / 256))

little-suc : (n v : ℕ) → 0 < n → little n v ≡ v % 256 ∷ little (n - 1) (v / 256)
unfolding little
little-suc zero v h = absurd (omega arith)
little-suc (suc n) v h = rw (sub-one (suc n))

pub little_none : (d : List ℕ) (v : ℕ) → length d ≡ 0 → d ≡ little (length d) v
unfolding little
little_none [] v h = refl
little_none (x ∷ d) v h = absurd (omega arith)

-- the first byte, and the others in p
pub little_more : (d p : List ℕ) (v n : ℕ) → p ≡ little n (v / 256) → length d ≡ n + 1 → v % 256 ∷ p ≡ little (length d) v
little_more d p v n e l = let m : length d - 1 ≡ n = omega arith in simp (little-suc (length d) v (omega arith), m, e)
