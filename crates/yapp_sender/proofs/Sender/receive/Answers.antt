-- `receive` checks the call, reads, decides and answers. Assumes nothing.
use Rattle.calls.specs.declared.Refusal.{Refusal}
use Rattle.std.specs.Prelude.{Result}
use mathlib.Core.Path.{sym, ap, ◌∙◌}
use Rattle.yapp_sender.specs.Sender.{refused_call}
use Rattle.calls.proofs.Laws.{taken-room, taken-by}
use Rattle.yapp_sender.proofs.Calls.{receive-taken, receive-refused}
use Rattle.yapp_sender.proofs.Sender.receive.Goals as goal

pub finish-requires : goal.finish-requires
finish-requires c =
    (taken-room _ _ _ _ _ (taken-by c.check-status.ensures c.is_taken.ensures c.if-is_taken.true)).0

pub returns-then-is_taken : goal.returns-then-is_taken
returns-then-is_taken c =
    let a = c.args in
    let g = c.receive-got.result in
    receive-taken a.self a.file.now a.reply.now a.chunk.now g c.shown_in-shown.result _ _ (taken-by c.check-status.ensures c.is_taken.ensures c.if-is_taken.true) c.receive-got.ensures c.shown_in-shown.ensures (c.take-step.ensures a.file.now g.reader.pending) c.finish.ensures

pub returns : goal.returns
returns c =
    let a = c.args in
    receive-refused a.self a.file.now a.reply.now a.chunk.now (taken-by c.check-status.ensures c.is_taken.ensures c.if-is_taken.false)
    ∙ ap (λ (x : Result (Unit {0}) Refusal). refused_call a.self x a.reply.now) (sym c.check-status.ensures)
    ∙ c.refuse.ensures _
