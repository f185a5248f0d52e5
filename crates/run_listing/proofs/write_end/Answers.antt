-- `write_end` is safe: the last lines are within the buffer.
use Rattle.std.proofs.Common.{◌≡◌, ◌≤◌, List, ℕ, length, length-take}
use native.Mathlib.Omega.{arith}
use Rattle.fields.specs.Buffer.{over}
use Rattle.listing.proofs.Steps.{within}
use Rattle.run_listing.proofs.write_end.Goals as goal

fits : (bs d : List ℕ) {new : List ℕ} {n : ℕ} → (n ≡ length bs) × (new ≡ over 0 bs d) → n ≤ length new
fits bs d e = rw (e.0, e.1) (within bs d)

pub slice_bounds-last-end : goal.slice_bounds-last-end
slice_bounds-last-end g c = fits _ _ c.end-n.ensures

pub slice_bounds-put-end : goal.slice_bounds-put-end
slice_bounds-put-end g c = simp length-take (omega (arith, fits _ _ c.end-n.ensures))
