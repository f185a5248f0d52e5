-- `decode` lays down what the definition says, a byte of the word each turn. Assumes nothing.
use native.Mathlib.Omega.{arith}
use Rattle.script.proofs.Script.{decoding-start, decoding-more, decoding-end}
use Rattle.script.proofs.reading.decode.Goals as goal

pub loop-i-init : goal.loop-i-init
loop-i-init c = let a = c.args in decoding-start a.s.now a.out.now (omega arith)

pub loop-i-preserved : goal.loop-i-preserved
loop-i-preserved c =
    let a = c.args in
    let l = c.loop-i in
    decoding-more a.s.now a.out.now l.out _ c.part.result.now l.i l.n l.left _ _ l.invariant c.loop-i-test.true
    c.part.ensures c.append_first-n.ensures c.left_behind-left.ensures

pub returns : goal.returns
returns c =
    let a = c.args in
    let l = c.loop-i in
    decoding-end a.s.now a.out.now l.out l.i l.n l.left l.invariant c.loop-i-test.false
