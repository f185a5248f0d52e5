-- The checksum as the code sums it: byte after byte, modulo 256. Assumes nothing.
use mathlib.Core.Path.{◌≡◌, sym, ◌∙◌}
use mathlib.Core.List.{List, [], ◌∷◌, sum}
use Prim.Native.Nat.{ℕ, ◌+◌, ◌%◌, ◌<◌}
use native.Mathlib.Nat.{mod-add-mod, mod-eq_of_lt, mod-lt, zero-add, add-zero, add_assoc}
use native.Mathlib.Omega.{arith}
use Rattle.std.specs.List.{fold}
use Rattle.packets.specs.Packet.{checksum}

summed : (s : List ℕ) (a : ℕ) → a < 256 → fold (λ (t x : ℕ). (t + x) % 256) a s ≡ (a + sum ◌+◌ 0 s) % 256
unfolding sum
summed [] a h = rw add-zero (sym (mod-eq_of_lt h))
summed (x ∷ s) a h = summed s ((a + x) % 256) (mod-lt _ (omega arith)) ∙ rw (mod-add-mod, add_assoc)

pub checksum_is : (s : List ℕ) → fold (λ (t x : ℕ). (t + x) % 256) 0 s ≡ checksum s
unfolding checksum
checksum_is s = summed s 0 (omega arith) ∙ rw zero-add
