use Rattle.std.proofs.Common.{take}
use Rattle.std.specs.Io.KnownBytes.{Appends}
use Rattle.std.specs.List.{flat_map}
use Rattle.script.specs.Printing.{pair}
use Rattle.script.proofs.printing.put_hex.Given as goal

abbrev pub invariant-loop-c : goal.invariant-loop-c
invariant-loop-c g l = Appends (g.W.Write.contents l.initial.out) (g.W.Write.contents l.out) (flat_map pair (take l.c-index l.s))
