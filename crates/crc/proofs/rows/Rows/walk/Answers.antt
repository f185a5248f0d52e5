-- `walk` of the rows meets its contract: eight bytes are walked, and then the rest.
-- Assumes nothing.
use Rattle.std.proofs.Common.{◌≡◌, ◌∙◌, ap₂, take, arith}
use Rattle.std.proofs.lemmas.Grind.{common_steps}
use Rattle.crc.specs.Crc.{walk_from}
use Rattle.crc.proofs.Laws.{walk-cut}
use Rattle.crc.proofs.rows.Rows.walk.Goals as goal

pub loop-eight-preserved : goal.loop-eight-preserved
loop-eight-preserved c =
    let l = c.loop-eight in
    let p = c.in-Some.ensures.cases in
    let a : walk_from c.args.reading l.crc (take 8 l.rest.now) ≡ c.step_eight-crc.result = cc in
    l.invariant ∙ walk-cut c.args.reading l.crc 8 l.rest.now ∙ ap₂ (walk_from c.args.reading) a (grind (arith, common_steps))
