-- `before` cuts where `find` says. Assumes nothing.
use Rattle.fields.proofs.Lists.{take-up_to}
use Rattle.script.proofs.reading.before.Goals as goal

pub returns : goal.returns
returns c =
    let a = c.args in
    take-up_to a.x a.s.now c.find.result c.find.ensures.0
