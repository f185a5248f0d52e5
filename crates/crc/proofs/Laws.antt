-- Laws of the CRC, for the crates above: over two pieces, its bound.
-- Assumes nothing.
use mathlib.Core.Path.{◌≡◌, refl, sym, ap, ◌∙◌}
use mathlib.Core.List.{List, [], ◌∷◌, ◌++◌}
use Prim.Native.Nat.{ℕ, zero, suc, ◌+◌, ◌*◌, ◌/◌, ◌%◌, ◌^◌, ◌<◌}
use native.Mathlib.Omega.{arith}
use lib.Dec.{lit<}
use lib.ListN.{get_or, take, drop}
use Rattle.std.proofs.lemmas.List.{take-append-drop}
use lib.Bits.{bit_xor, xor_shr, xor_self, xor_lt}
use Rattle.crc.specs.declared.Reading.{Reading}
use Rattle.crc.specs.declared.Reading.TheVariants.{Bare, Augmented}
use Rattle.crc.specs.Crc.{divisor, reduced, remainder, entry, byte_step, walk_from, crc_by}

-- the walk over two pieces, one after the other
pub walk-append : (q : Reading) (r : ℕ) (a b : List ℕ) → walk_from q r (a ++ b) ≡ walk_from q (walk_from q r a) b
unfolding walk_from
walk-append q r [] b = refl
walk-append q r (c ∷ a) b = walk-append q (byte_step q r c) a b

-- over nothing, and over one byte more
pub walk-none : (q : Reading) (r : ℕ) → walk_from q r [] ≡ r
unfolding walk_from
walk-none q r = refl

pub walk-more : (q : Reading) (r : ℕ) (s : List ℕ) (c : ℕ) → walk_from q r (s ++ (c ∷ [])) ≡ byte_step q (walk_from q r s) c
unfolding walk_from
walk-more q r s c = walk-append q r s (c ∷ [])

-- over the first bytes and over those behind them
pub walk-cut : (q : Reading) (r n : ℕ) (s : List ℕ) → walk_from q r s ≡ walk_from q (walk_from q r (take n s)) (drop n s)
walk-cut q r n s = ap (walk_from q r) (sym (take-append-drop n s)) ∙ walk-append q r (take n s) (drop n s)

-- the CRC of a ++ b is the walk over b from the CRC of a
pub crc-append : (q : Reading) (a b : List ℕ) → crc_by q (a ++ b) ≡ walk_from q (crc_by q a) b
crc-append q a b = walk-append q 0 a b

-- what is taken off has the term x^16 where n has it
pub reduced-lt : (n : ℕ) → n < 2 ^ 17 → reduced n < 2 ^ 16
unfolding reduced
reduced-lt n h =
    let t = n / 0x10000 in
    let e : t * divisor / 2 ^ 16 ≡ t = omega arith in
    let z : bit_xor n (t * divisor) / 2 ^ 16 ≡ 0 = xor_shr n (t * divisor) 16 ∙ ap (bit_xor t) e ∙ xor_self t in
    omega arith

pub remainder-lt : (bits n : ℕ) → remainder bits n < 2 ^ 16
unfolding remainder
remainder-lt zero n = lit< tt
remainder-lt (suc bits) n =
    let h : remainder bits (n / 2) < 2 ^ 16 = remainder-lt bits (n / 2) in
    reduced-lt (remainder bits (n / 2) * 2 + n % 2) (omega arith)

pub entry_lt : (i : ℕ) → entry i < 2 ^ 16
entry_lt i = remainder-lt _ _

-- a step by a byte, the walk over bytes and their CRC are below 65,536
pub step-lt : (q : Reading) (r c : ℕ) → c < 256 → byte_step q r c < 2 ^ 16
unfolding byte_step
step-lt Bare r c h =
    let l = r % 256 * 256 in
    let e = entry (r / 256) in
    xor_lt 16 (bit_xor e l) c (xor_lt 16 e l (entry_lt (r / 256)) (omega arith)) (omega arith)
step-lt Augmented r c h = xor_lt 16 (entry (bit_xor (r / 256) c)) (r % 256 * 256) (entry_lt (bit_xor (r / 256) c)) (omega arith)

pub walk-lt : (q : Reading) (r : ℕ) (s : List ℕ) → r < 2 ^ 16 → ((i : ℕ) → get_or s i 0 < 256) → walk_from q r s < 2 ^ 16
unfolding walk_from
walk-lt q r [] h b = h
walk-lt q r (c ∷ s) h b = walk-lt q (byte_step q r c) s (step-lt q r c (b 0)) (λ i. b (suc i))

pub crc-lt : (q : Reading) (s : List ℕ) → ((i : ℕ) → get_or s i 0 < 256) → crc_by q s < 2 ^ 16
crc-lt q s b = walk-lt q 0 s (lit< tt) b
