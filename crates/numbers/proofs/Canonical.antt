-- What is written is in the form that `Canonical` says.
-- Assumes nothing.
use mathlib.Core.Path.{◌≡◌, refl}
use mathlib.Core.Bool.{true, false}
use mathlib.Core.List.{[], ◌∷◌}
use Prim.Native.Nat.{ℕ, zero, suc, ◌+◌, ◌/◌, ◌%◌, ◌<◌}
use native.Mathlib.Omega.{arith}
use mathlib.Core.Logic.{⊎_elim}
use borrow.Author.Tests.{lt-ltb, le-ltb, le-leb, lt-leb}
use Rattle.fields.proofs.Lists.{le-or-lt, all_append, all-up_to}
use Rattle.fields.specs.Lists.{all, up_to}
use Rattle.numbers.specs.Writing.{digits, decimal, capital, hex}
use Rattle.numbers.specs.Reading.{is_digit}
use Rattle.numbers.specs.Canonical.{is_capital, capitals}

-- only digits are written, and so any other byte is not among them
digit-all : (n : ℕ) → all is_digit ((48 + n % 10) ∷ []) ≡ true
unfolding all
digit-all n = simp (le-leb 48 (48 + n % 10) (omega arith), le-leb (48 + n % 10) 57 (omega arith))

digits-all : (k n : ℕ) → all is_digit (digits k n) ≡ true
unfolding digits
digits-all zero n = digit-all n
digits-all (suc k) n =
    ⊎_elim (λ h. rw (le-ltb n 10 h) (all_append is_digit (digits k (n / 10)) ((48 + n % 10) ∷ []) (digits-all k (n / 10)) (digit-all n)))
    (λ h. rw (lt-ltb n 10 h) (digit-all n))
    (le-or-lt 10 n)

pub decimal-all : (n : ℕ) → all is_digit (decimal n) ≡ true
unfolding decimal
decimal-all n = digits-all 19 n

pub decimal-free : (x n : ℕ) → is_digit x ≡ false → up_to x (decimal n) ≡ decimal n
decimal-free x n h = all-up_to is_digit x (decimal n) h (decimal-all n)

pub capital-is : (n : ℕ) → n < 16 → is_capital (capital n) ≡ true
unfolding capital
capital-is n h =
    ⊎_elim
    (λ g. simp (le-ltb n 10 g, lt-leb (55 + n) 57 (omega arith), le-leb 48 (55 + n) (omega arith), le-leb 65 (55 + n) (omega arith), le-leb (55 + n) 70 (omega arith)))
    (λ g. simp (lt-ltb n 10 g, le-leb 48 (48 + n) (omega arith), le-leb (48 + n) 57 (omega arith)))
    (le-or-lt 10 n)

pub hex-capitals : (w v : ℕ) → capitals (hex w v) ≡ true
unfolding hex all
hex-capitals zero v = refl
hex-capitals (suc w) v =
    all_append is_capital (hex w (v / 16)) (capital (v % 16) ∷ []) (hex-capitals w (v / 16)) (rw (capital-is (v % 16) (omega arith)))
