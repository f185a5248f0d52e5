-- How many bytes stand before and in the data.
-- Assumes nothing.
use mathlib.Core.Path.{◌≡◌, refl}
use mathlib.Core.Bool.{Bool, true, false, ◌&&◌}
use Prim.Native.Nat.{ℕ, ◌≤◌, ◌<◌}
use native.Mathlib.Omega.{arith}
use lib.Dec.{eqb}
use borrow.Author.Tests.{eqb-false}
use Rattle.fields.specs.Pick.{pick}
use Rattle.packets.specs.Span.{data_length, lead}

-- what holds of both holds of the one that is picked
pub either : {A : Type 0} (P : A → Type 0) (b : Bool) (x y : A) → P x → P y → P (pick b x y)
either P true x y p q = p
either P false x y p q = q

-- a DT has 1 to 256 bytes of data
pub data-length : (b : ℕ) → b < 256 → (1 ≤ data_length b) × (data_length b ≤ 256)
unfolding data_length
data-length b h = go (eqb b 0) refl
  where
    go : (t : Bool) → eqb b 0 ≡ t → (1 ≤ pick t 256 b) × (pick t 256 b ≤ 256)
    go true e = (omega arith, omega arith)
    go false e = (omega (arith, eqb-false b 0 e), omega arith)

pub lead-least : (a b : ℕ) → 2 ≤ lead a b
unfolding lead
lead-least a b = either (λ n. 2 ≤ n) (eqb a 5 && eqb b 2) 3 2 (omega arith) (omega arith)
