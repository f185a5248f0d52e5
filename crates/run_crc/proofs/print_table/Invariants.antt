use Rattle.std.specs.Io.KnownBytes.{Appends}
use Rattle.run_crc.specs.Text.{printed_first}
use Rattle.run_crc.proofs.print_table.Given as goal

abbrev pub invariant-loop-i : goal.invariant-loop-i
invariant-loop-i g l = Appends (g.W.Write.contents l.initial.out) (g.W.Write.contents l.out) (printed_first l.i)
