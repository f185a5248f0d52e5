-- `list::write_end` is safe: the last lines are within the buffer. Assumes nothing.
use Rattle.std.proofs.Common.{arith, ◌≤◌, length, length-take}
use Rattle.listing.proofs.Steps.{within}
use Rattle.list.proofs.write_end.Goals as goal

pub slice_bounds-last-end : goal.slice_bounds-last-end
slice_bounds-last-end g c = rw (c.end-n.ensures.0, c.end-n.ensures.1) (within _ _)

pub slice_bounds-write-end : goal.slice_bounds-write-end
slice_bounds-write-end g c =
    let fits : c.end-n.result ≤ length c.end-n.new.out = rw (c.end-n.ensures.0, c.end-n.ensures.1) (within _ _) in
    simp length-take (omega arith)
