-- Multiplication by x^k modulo the divisor is linear.
-- Assumes nothing.
use mathlib.Core.Path.{◌≡◌, refl, sym, ap, ap₂, ◌∙◌}
use mathlib.Core.Logic.{◌⊎◌, inl, inr, ⊎_elim}
use Prim.Native.Nat.{ℕ, zero, suc, ◌+◌, ◌*◌, ◌/◌, ◌^◌, ◌≤◌, ◌<◌}
use mathlib.Core.Bool.{Bool, true, false}
use lib.Dec.{leb}
use native.Mathlib.Nat.{zero-add, suc-add}
use native.Mathlib.Omega.{arith}
use lib.Bits.{bit_xor, xor_shr, xor_lt, xor_comm, xor_zero_r}
use borrow.Author.Tests.{leb-true, leb-false}
use Rattle.crc.specs.Crc.{divisor, reduced}
use Rattle.crc.specs.Rows.{times}
use Rattle.crc.proofs.Xor.{xor_assoc, xor-double, xor-cancel}
use Rattle.crc.proofs.Laws.{reduced-lt}

le-or-lt : (a b : ℕ) → (a ≤ b) ⊎ (b < a)
le-or-lt a b = go (leb a b) refl
  where
    go : (t : Bool) → leb a b ≡ t → (a ≤ b) ⊎ (b < a)
    go true e = inl (leb-true a b e)
    go false e = inr (leb-false a b e)

-- r times x, where that has the term x^16 and where not
small : (r : ℕ) → r < 0x8000 → reduced (r * 2) ≡ r * 2
unfolding reduced
small r h =
    let e : r * 2 / 0x10000 * divisor ≡ 0 = omega arith in
    rw e (xor_zero_r (r * 2))

large : (r : ℕ) → 0x8000 ≤ r → r < 2 ^ 16 → reduced (r * 2) ≡ bit_xor (r * 2) divisor
unfolding reduced
large r h k =
    let e : r * 2 / 0x10000 * divisor ≡ divisor = omega arith in
    ap (bit_xor (r * 2)) e

-- the top bit of a xor is the xor of the top bits
top : (a b x y : ℕ) → a / 2 ^ 15 ≡ x → b / 2 ^ 15 ≡ y → bit_xor a b / 2 ^ 15 ≡ bit_xor x y
top a b x y p q = xor_shr a b 15 ∙ ap₂ bit_xor p q

linear : (a b : ℕ) → a < 2 ^ 16 → b < 2 ^ 16 → reduced (bit_xor a b * 2) ≡ bit_xor (reduced (a * 2)) (reduced (b * 2))
linear a b ha hb =
    ⊎_elim (λ (p : 0x8000 ≤ a). ⊎_elim (λ (q : 0x8000 ≤ b). both p q) (λ (q : b < 0x8000). left p q) (le-or-lt 0x8000 b))
    (λ (p : a < 0x8000). ⊎_elim (λ (q : 0x8000 ≤ b). right p q) (λ (q : b < 0x8000). neither p q) (le-or-lt 0x8000 b)) (le-or-lt 0x8000 a)
  where
    both : 0x8000 ≤ a → 0x8000 ≤ b → reduced (bit_xor a b * 2) ≡ bit_xor (reduced (a * 2)) (reduced (b * 2))
    both p q =
        let t : bit_xor a b / 2 ^ 15 ≡ 0 = top a b 1 1 (omega arith) (omega arith) in
        rw (small (bit_xor a b) (omega arith), large a p ha, large b q hb, xor-cancel (a * 2) (b * 2) divisor, xor-double a b) refl

    left : 0x8000 ≤ a → b < 0x8000 → reduced (bit_xor a b * 2) ≡ bit_xor (reduced (a * 2)) (reduced (b * 2))
    left p q =
        let t : bit_xor a b / 2 ^ 15 ≡ 1 = top a b 1 0 (omega arith) (omega arith) in
        rw (large (bit_xor a b) (omega arith) (xor_lt 16 a b ha hb), large a p ha, small b q, ← xor-double a b, xor_assoc (a * 2) (b * 2) divisor, xor_comm (b * 2) divisor, ← xor_assoc (a * 2) divisor (b * 2)) refl

    right : a < 0x8000 → 0x8000 ≤ b → reduced (bit_xor a b * 2) ≡ bit_xor (reduced (a * 2)) (reduced (b * 2))
    right p q =
        let t : bit_xor a b / 2 ^ 15 ≡ 1 = top a b 0 1 (omega arith) (omega arith) in
        rw (large (bit_xor a b) (omega arith) (xor_lt 16 a b ha hb), small a p, large b q hb, ← xor-double a b, xor_assoc (a * 2) (b * 2) divisor) refl

    neither : a < 0x8000 → b < 0x8000 → reduced (bit_xor a b * 2) ≡ bit_xor (reduced (a * 2)) (reduced (b * 2))
    neither p q = rw (small (bit_xor a b) (xor_lt 15 a b p q), small a p, small b q, xor-double a b) refl

pub times-lt : (k r : ℕ) → r < 2 ^ 16 → times k r < 2 ^ 16
unfolding times
times-lt zero r h = h
times-lt (suc k) r h =
    let l : times k r < 2 ^ 16 = times-lt k r h in
    reduced-lt (times k r * 2) (omega arith)

pub times-xor : (k a b : ℕ) → a < 2 ^ 16 → b < 2 ^ 16 → times k (bit_xor a b) ≡ bit_xor (times k a) (times k b)
unfolding times
times-xor zero a b ha hb = refl
times-xor (suc k) a b ha hb = ap (λ (n : ℕ). reduced (n * 2)) (times-xor k a b ha hb) ∙ linear (times k a) (times k b) (times-lt k a ha) (times-lt k b hb)

pub times-add : (j k r : ℕ) → times j (times k r) ≡ times (j + k) r
unfolding times
times-add zero k r = ap (λ (n : ℕ). times n r) (sym (zero-add k))
times-add (suc j) k r = ap (λ (n : ℕ). reduced (n * 2)) (times-add j k r) ∙ ap (λ (n : ℕ). times n r) (sym (suc-add j k))
