-- `transmit` checks the call, and takes the step of a leave. Assumes nothing.
use mathlib.Core.Path.{ap, sym, ◌∙◌}
use Rattle.calls.proofs.Laws.{taken-room, taken-by}
use Rattle.fields.specs.Lists.{nowhere}
use Rattle.yapp.specs.Steps.{SenderMove}
use Rattle.yapp_sender.specs.Sender.{replied, transmit}
use Rattle.yapp_sender.proofs.Calls.{event-taken, event-refused}
use Rattle.yapp_sender.proofs.Sender.transmit.Goals as goal

pub transmit-step-requires : goal.transmit-step-requires
transmit-step-requires c =
    (taken-room _ _ _ _ _ (taken-by c.check-status.ensures c.is_taken.ensures c.if-is_taken.true)).2

pub finish-requires : goal.finish-requires
finish-requires c =
    (taken-room _ _ _ _ _ (taken-by c.check-status.ensures c.is_taken.ensures c.if-is_taken.true)).0

pub returns-then-is_taken : goal.returns-then-is_taken
unfolding transmit
returns-then-is_taken c =
    let a = c.args in
    event-taken a.self a.file.now a.reply.now _ (taken-by c.check-status.ensures c.is_taken.ensures c.if-is_taken.true)
    ∙ ap (λ (w : SenderMove). replied a.self a.self.reader 0 nowhere w a.reply.now) (sym c.transmit-step.ensures)
    ∙ c.finish.ensures

pub returns : goal.returns
unfolding transmit
returns c =
    let a = c.args in
    event-refused a.self a.file.now a.reply.now _ (taken-by c.check-status.ensures c.is_taken.ensures c.if-is_taken.false)
    ∙ (rw c.check-status.ensures at (c.refuse.ensures a.reply.now))
