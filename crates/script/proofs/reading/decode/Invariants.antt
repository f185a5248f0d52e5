-- `decode` lays down what the definition says, a byte of the word each turn. Assumes nothing.
use Rattle.script.proofs.Script.{Decoding}
use Rattle.script.proofs.reading.decode.Given as goal

abbrev pub invariant-loop-i : goal.invariant-loop-i
invariant-loop-i l = Decoding l.s l.initial.out l.out l.i l.n l.left
