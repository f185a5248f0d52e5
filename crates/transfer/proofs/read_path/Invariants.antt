-- `read_path` stays within the buffer and ends: each turn takes a byte at least from what is left of it. Assumes nothing.
use Rattle.std.proofs.Common.{◌≡◌, ◌≤◌, length}
use Rattle.transfer.proofs.read_path.Given as goal

abbrev pub invariant-loop-source : goal.invariant-loop-source
invariant-loop-source l = length l.rest ≤ l.room

abbrev pub decreases-loop-source : goal.decreases-loop-source
decreases-loop-source l = length l.rest
