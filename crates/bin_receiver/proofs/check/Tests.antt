-- How long a frame for display is. Assumes nothing.
use mathlib.Core.Path.{◌≡◌, ap, ◌∙◌}
use mathlib.Core.Bool.{true}
use mathlib.Core.List.{List}
use Prim.Native.Nat.{ℕ, ◌≤◌}
use native.Mathlib.Omega.{arith}
use lib.ListN.{length, take, length-take}
use Rattle.fields.proofs.Lists.{same-eq}
use Rattle.lines.specs.Frame.{starts, display_mark}

-- it has the four bytes of its mark
pub display_long : (f : List ℕ) → starts display_mark f ≡ true → 4 ≤ length f
unfolding starts
display_long f h = let e : 4 ≡ length (take 4 f) = ap length (same-eq display_mark (take 4 f) h) in omega (arith, e ∙ length-take 4 f)
