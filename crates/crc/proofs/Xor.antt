-- Laws of xor that the kit's `lib.Bits` lacks: it is associative, and a doubling passes through it.
-- Assumes nothing.
use mathlib.Core.Path.{◌≡◌, refl, sym, ap, ◌∙◌}
use mathlib.Core.List.{List, [], ◌∷◌}
use Prim.Native.Nat.{ℕ, zero, suc, ◌*◌, ◌/◌, ◌%◌, ◌<◌}
use native.Mathlib.Nat.{add-zero}
use native.Mathlib.Omega.{arith}
use lib.Arith.{bin_ind}
use lib.Dec.{lit<}
use lib.Bits.{bit_xor, differ, xor_step, xor_block, xor_comm, xor_self, xor_zero_r}

differ-lt : (x y : ℕ) → x < 2 → y < 2 → differ x y < 2
differ-lt zero y p q = q
differ-lt (suc zero) zero p q = p
differ-lt (suc zero) (suc zero) p q = omega arith
differ-lt (suc zero) (suc (suc y)) p q = absurd (omega arith)
differ-lt (suc (suc x)) y p q = absurd (omega arith)

differ-assoc : (x y z : ℕ) → x < 2 → y < 2 → z < 2 → differ (differ x y) z ≡ differ x (differ y z)
differ-assoc zero y z p q r = refl
differ-assoc (suc zero) zero z p q r = refl
differ-assoc (suc zero) (suc zero) zero p q r = refl
differ-assoc (suc zero) (suc zero) (suc zero) p q r = refl
differ-assoc (suc zero) (suc zero) (suc (suc z)) p q r = absurd (omega arith)
differ-assoc (suc zero) (suc (suc y)) z p q r = absurd (omega arith)
differ-assoc (suc (suc x)) y z p q r = absurd (omega arith)

bit : (a b : ℕ) → differ (a % 2) (b % 2) < 2
bit a b = differ-lt (a % 2) (b % 2) (omega arith) (omega arith)

half : (a b : ℕ) → bit_xor a b / 2 ≡ bit_xor (a / 2) (b / 2)
half a b = omega (arith, xor_step a b, bit a b)

odd : (a b : ℕ) → bit_xor a b % 2 ≡ differ (a % 2) (b % 2)
odd a b = omega (arith, xor_step a b, bit a b)

pub xor_assoc : (a b c : ℕ) → bit_xor (bit_xor a b) c ≡ bit_xor a (bit_xor b c)
xor_assoc a =
    bin_ind (λ (n : ℕ). (b c : ℕ) → bit_xor (bit_xor n b) c ≡ bit_xor n (bit_xor b c)) (λ b c. refl)
    (λ n ih b c. xor_step (bit_xor n b) c
    ∙ rw (half n b, odd n b, ih (b / 2) (c / 2), differ-assoc (n % 2) (b % 2) (c % 2) (omega arith) (omega arith) (omega arith), ← half b c, ← odd b c)
    (sym (xor_step n (bit_xor b c)))) a

pub xor-double : (a b : ℕ) → bit_xor (a * 2) (b * 2) ≡ bit_xor a b * 2
xor-double a b = simp add-zero at (xor_block 1 a b 0 0 (lit< tt) (lit< tt))

pub xor-swap : (a b c : ℕ) → bit_xor (bit_xor a b) c ≡ bit_xor (bit_xor a c) b
xor-swap a b c = xor_assoc a b c ∙ ap (bit_xor a) (xor_comm b c) ∙ sym (xor_assoc a c b)

-- a xor d, xor b xor d: the two d go
pub xor-cancel : (a b d : ℕ) → bit_xor (bit_xor a d) (bit_xor b d) ≡ bit_xor a b
xor-cancel a b d = rw (xor_assoc a d (bit_xor b d), xor_comm d (bit_xor b d), xor_assoc b d d, xor_self d, xor_zero_r b) refl

-- xors one after the other, from o on; and o taken last
abbrev pub mix : ℕ → List ℕ → ℕ
mix o [] = o
mix o (x ∷ l) = mix (bit_xor o x) l

pub mix-late : (o x : ℕ) (l : List ℕ) → mix o (x ∷ l) ≡ bit_xor (mix x l) o
mix-late o x [] = xor_comm o x
mix-late o x (y ∷ l) = mix-late (bit_xor o x) y l ∙ ap (bit_xor (mix y l)) (xor_comm o x) ∙ sym (xor_assoc (mix y l) x o) ∙ ap (λ (n : ℕ). bit_xor n o) (sym (mix-late x y l))
