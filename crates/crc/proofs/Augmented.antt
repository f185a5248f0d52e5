-- The two readings of request 2026-06: the new one of a file is the old one of the file with two zero bytes behind it.
-- Assumes nothing.
use mathlib.Core.Path.{◌≡◌, refl, sym, ap, ◌∙◌}
use mathlib.Core.List.{List, [], ◌∷◌, ◌++◌}
use Prim.Native.Nat.{ℕ, suc, ◌^◌, ◌<◌}
use lib.Dec.{lit<}
use lib.ListN.{get_or}
use lib.Bits.{bit_xor}
use Rattle.crc.specs.declared.Reading.TheVariants.{Bare, Augmented}
use Rattle.crc.specs.Crc.{reduced, byte_step, walk_from, crc_by}
use Rattle.crc.specs.Rows.{times}
use Rattle.crc.proofs.Laws.{step-lt, crc-append, crc-lt}
use Rattle.crc.proofs.Times.{times-lt, times-add}
use Rattle.crc.proofs.Eight.{step-times, times-step, step-zero}

-- the new walk from r times x^16 is the old one from r, times x^16
step-augmented : (r c : ℕ) → r < 2 ^ 16 → c < 256 → byte_step Augmented (times 16 r) c ≡ times 16 (byte_step Bare r c)
step-augmented r c h k =
    step-times Augmented (times 16 r) c (times-lt 16 r h) k ∙ ap (λ (n : ℕ). bit_xor n (times 16 c)) (times-add 8 16 r)
    ∙ sym (times-step Bare 16 r c h k)

walk-augmented : (s : List ℕ) (r : ℕ) → ((i : ℕ) → get_or s i 0 < 256) → r < 2 ^ 16 → walk_from Augmented (times 16 r) s ≡ times 16 (walk_from Bare r s)
unfolding walk_from
walk-augmented [] r b h = refl
walk-augmented (c ∷ s) r b h = rw (step-augmented r c h (b 0)) (walk-augmented s (byte_step Bare r c) (λ i. b (suc i)) (step-lt Bare r c (b 0)))

two-zeros : (r : ℕ) → r < 2 ^ 16 → walk_from Bare r (0 ∷ 0 ∷ []) ≡ times 16 r
unfolding walk_from
two-zeros r h = rw (step-zero r h, step-zero (times 8 r) (times-lt 8 r h)) (times-add 8 8 r)

zero-times : times 16 0 ≡ 0
unfolding times reduced
zero-times = refl

pub augmented : (s : List ℕ) → ((i : ℕ) → get_or s i 0 < 256) → crc_by Augmented s ≡ crc_by Bare (s ++ (0 ∷ 0 ∷ []))
augmented s b =
    ap (λ (r : ℕ). walk_from Augmented r s) (sym zero-times) ∙ walk-augmented s 0 b (lit< tt) ∙ sym (two-zeros (crc_by Bare s) (crc-lt Bare s b))
    ∙ sym (crc-append Bare s (0 ∷ 0 ∷ []))
