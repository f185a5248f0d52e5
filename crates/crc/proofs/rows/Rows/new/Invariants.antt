-- The rows before j are there.
use Rattle.std.proofs.Common.{◌≡◌, length}
use Rattle.crc.specs.Rows.{AreRows}
use Rattle.crc.proofs.rows.Rows.new.Given as goal

abbrev pub invariant-loop-j : goal.invariant-loop-j
invariant-loop-j l = (length l.rows ≡ 10) × AreRows l.j l.rows
