use Rattle.script.specs.Printing.{IsChanged}
use Rattle.script.proofs.printing.change_of.Given as goal

abbrev pub invariant-loop-i : goal.invariant-loop-i
invariant-loop-i l = IsChanged l.i l.a l.b l.changed
