-- `value_of`: what is read so far is below radix ^ c-index, and the definition of all is that of the rest behind it.
use Prim.Native.Nat.{◌<◌, ◌+◌, ◌*◌}
use mathlib.Core.Path.{◌∙◌}
use native.Mathlib.Omega.{arith}
use Rattle.numbers.specs.Reading.{radix}
use Rattle.numbers.proofs.Reading.{fits, below, radix-some, value_on, value-stop, value-end}
use Rattle.numbers.proofs.digit_reader.value_of.Goals as goal

pub overflow_mul-acc : goal.overflow_mul-acc
overflow_mul-acc c =
    let l = c.loop-c in
    let b = radix c.args.base in
    let h : l.acc * b + 0 < 4294967296 = fits _ _ 4294967296 l.c-index l.acc 0 l.invariant.0 (radix-some c.args.base) c.loop-c-test.true c.requires in
    rw c.radix.ensures (omega arith)

pub returns-in_err-acc : goal.returns-in_err-acc
returns-in_err-acc c =
    let l = c.loop-c in
    c.from_residual.ensures ∙ value-stop _ l.acc _ l.c-index c.loop-c-test.true (omega (arith, c.in_err-acc.ensures)) ∙ l.invariant.1

pub overflow_add-acc : goal.overflow_add-acc
overflow_add-acc c =
    let l = c.loop-c in
    let d = c.in_ok-acc.ensures in
    let b = radix c.args.base in
    let h : l.acc * b + c.in_ok-acc.field-0 < 4294967296 =
    fits _ _ 4294967296 l.c-index l.acc _ l.invariant.0 (rw d.1 d.0) c.loop-c-test.true c.requires in
    rw c.radix.ensures (omega arith)

pub loop-c-preserved : goal.loop-c-preserved
loop-c-preserved c =
    let l = c.loop-c in
    let d = c.in_ok-acc.ensures in
    rw (c.radix.ensures, d.1) (below _ l.c-index l.acc _ l.invariant.0 d.0, value_on _ l.acc _ l.c-index c.loop-c-test.true d.0 ∙ l.invariant.1)

pub returns : goal.returns
returns c = let l = c.loop-c in value-end _ l.acc _ l.c-index c.loop-c-test.false ∙ l.invariant.1
