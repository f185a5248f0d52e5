-- `receive` checks the call, reads, decides and answers. Assumes nothing.
use mathlib.Core.Path.{◌∙◌}
use Rattle.calls.proofs.Laws.{taken-room, taken-by}
use Rattle.yapp_receiver.proofs.Calls.{receive-taken, receive-refused}
use Rattle.yapp_receiver.proofs.Receiver.receive.Goals as goal

pub replied-requires : goal.replied-requires
replied-requires c =
    (taken-room _ _ _ _ _ (taken-by c.check-status.ensures c.is_taken.ensures c.if-is_taken.true)).0

pub returns-then-is_taken : goal.returns-then-is_taken
returns-then-is_taken c =
    let g = c.args in
    receive-taken g.self g.area.now g.reply.now g.chunk.now c.receive-received.result c.decide-step.result _ _ (taken-by c.check-status.ensures c.is_taken.ensures c.if-is_taken.true) c.receive-received.ensures c.decide-step.ensures (λ v. c.replied.ensures v _)

pub returns : goal.returns
returns c =
    let g = c.args in
    receive-refused g.self g.area.now g.reply.now g.chunk.now (taken-by c.check-status.ensures c.is_taken.ensures c.if-is_taken.false)
    ∙ (rw c.check-status.ensures at (c.unchanged.ensures g.area.now g.reply.now))
