-- The walk from the start over all is the walk from here over the rest.
use Rattle.std.proofs.Common.{◌≡◌, length}
use Rattle.crc.specs.Crc.{walk_from}
use Rattle.crc.proofs.rows.Rows.walk.Given as goal

abbrev pub invariant-loop-eight : goal.invariant-loop-eight
invariant-loop-eight l = walk_from l.reading l.r l.s ≡ walk_from l.reading l.crc l.rest

abbrev pub decreases-loop-eight : goal.decreases-loop-eight
decreases-loop-eight l = length l.rest
