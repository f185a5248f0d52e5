-- `unless_refused` checks the call. Assumes nothing.
use mathlib.Core.Path.{◌∙◌}
use Rattle.calls.proofs.Laws.{taken-room, taken-by}
use Rattle.yapp_sender.proofs.Calls.{event-taken, event-refused}
use Rattle.yapp_sender.proofs.Sender.unless_refused.Goals as goal

pub finish-requires : goal.finish-requires
finish-requires c =
    (taken-room _ _ _ _ _ (taken-by c.check-status.ensures c.is_taken.ensures c.if-is_taken.true)).0

pub returns-then-is_taken : goal.returns-then-is_taken
returns-then-is_taken c =
    let a = c.args in
    event-taken a.self a.file.now a.reply.now _ (taken-by c.check-status.ensures c.is_taken.ensures c.if-is_taken.true)
    ∙ c.finish.ensures

pub returns : goal.returns
returns c =
    let a = c.args in
    event-refused a.self a.file.now a.reply.now _ (taken-by c.check-status.ensures c.is_taken.ensures c.if-is_taken.false)
    ∙ (rw c.check-status.ensures at (c.refuse.ensures a.reply.now))
