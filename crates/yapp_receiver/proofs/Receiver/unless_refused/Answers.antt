-- `unless_refused` checks the call. Assumes nothing.
use mathlib.Core.Path.{◌∙◌}
use Rattle.calls.proofs.Laws.{taken-room, taken-by}
use Rattle.yapp_receiver.proofs.Calls.{event-taken, event-refused}
use Rattle.yapp_receiver.proofs.Receiver.unless_refused.Goals as goal

pub replied-requires : goal.replied-requires
replied-requires c =
    (taken-room _ _ _ _ _ (taken-by c.check-status.ensures c.is_taken.ensures c.if-is_taken.true)).0

pub returns-then-is_taken : goal.returns-then-is_taken
returns-then-is_taken c v h =
    let g = c.args in
    event-taken g.self g.area.now g.reply.now v (taken-by c.check-status.ensures c.is_taken.ensures c.if-is_taken.true)
    ∙ c.replied.ensures v g.area.now h

pub returns : goal.returns
returns c v h =
    let g = c.args in
    event-refused g.self g.area.now g.reply.now v (taken-by c.check-status.ensures c.is_taken.ensures c.if-is_taken.false)
    ∙ (rw c.check-status.ensures at (c.unchanged.ensures g.area.now g.reply.now))
