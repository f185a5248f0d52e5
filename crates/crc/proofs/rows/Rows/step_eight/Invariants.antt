-- What is looked up for the bytes before i is there.
use Rattle.std.proofs.Common.{◌≡◌}
use Rattle.crc.proofs.Eight.{looked_up}
use Rattle.crc.proofs.rows.Rows.step_eight.Given as goal

abbrev pub invariant-loop-i : goal.invariant-loop-i
invariant-loop-i l = l.bytes ≡ looked_up l.last l.eight l.i
