-- A frame is checked, decided and answered. Assumes nothing.
use mathlib.Core.Path.{◌∙◌}
use native.Mathlib.Omega.{arith}
use Rattle.calls.proofs.Laws.{taken-room, taken-by, unless-taken}
use Rattle.bin_sender.specs.Sender.{receive}
use Rattle.bin_sender.proofs.Calls.{file-fits}
use Rattle.bin_sender.proofs.Sender.receive.Goals as goal

pub invariant_of-lent : goal.invariant_of-lent
invariant_of-lent c =
    let g = c.args in
    record { counted = file-fits g.self _ g.file.now g.reply.now (taken-by c.check-status.ensures c.is_taken.ensures c.if-is_taken.true) (omega arith) }

pub finish-requires : goal.finish-requires
finish-requires c = (taken-room _ _ _ _ _ (taken-by c.check-status.ensures c.is_taken.ensures c.if-is_taken.true)).0

pub returns-then-is_taken : goal.returns-then-is_taken
unfolding receive
returns-then-is_taken c =
    unless-taken _ _ _ (taken-by c.check-status.ensures c.is_taken.ensures c.if-is_taken.true)
    ∙ rw (← c.receive.ensures) c.finish.ensures
