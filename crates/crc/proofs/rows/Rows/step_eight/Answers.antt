-- `step_eight` meets its contract, by the law of eight bytes.
-- Assumes nothing.
use Rattle.std.proofs.Common.{◌≡◌, refl, ap, ◌∙◌}
use native.Mathlib.Omega.{arith}
use Rattle.std.proofs.lemmas.Grind.{common_steps}
use Rattle.crc.proofs.Eight.{shifted, looked_up, looked_more, eight-rows, walk-eight}
use Rattle.crc.proofs.rows.Rows.step_eight.Goals as goal

pub loop-i-init : goal.loop-i-init
loop-i-init c = refl

pub loop-i-preserved : goal.loop-i-preserved
loop-i-preserved c =
    let l = c.loop-i in
    looked_more c.last_row-last.result c.args.eight.now l.i l.bytes c.at-bytes.result l.invariant (grind (arith, common_steps))

pub returns : goal.returns
returns c =
    let s = c.args.eight.now in
    let q = c.args.reading in
    let r = c.args.r in
    let l = c.loop-i in
    let last = c.last_row-last in
    let n : l.i ≡ 8 = omega arith in
    let e =
    eight-rows q r s last.result l.bytes _ last.ensures (omega arith) (λ k. omega arith) (l.invariant ∙ ap (looked_up last.result s) n)
    (shifted r c.at.result c.at-2.result (omega arith) c.at.ensures c.at-2.ensures) in
    record { steps = e; walked = e ∙ walk-eight q r s (omega arith) }
