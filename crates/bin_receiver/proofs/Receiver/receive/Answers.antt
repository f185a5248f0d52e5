-- `receive` checks the call, decides and answers. Assumes nothing.
use mathlib.Core.Path.{◌∙◌}
use Rattle.calls.proofs.Laws.{taken-room, taken-by, unless-taken}
use Rattle.bin_receiver.specs.Receiver.{receive}
use Rattle.bin_receiver.proofs.Receiver.receive.Goals as goal

pub finish-requires : goal.finish-requires
finish-requires c =
    (taken-room _ _ _ _ _ (taken-by c.check-status.ensures c.is_taken.ensures c.if-is_taken.true)).0

pub returns-then-is_taken : goal.returns-then-is_taken
unfolding receive
returns-then-is_taken c =
    unless-taken _ _ _ (taken-by c.check-status.ensures c.is_taken.ensures c.if-is_taken.true)
    ∙ rw (← c.shown_in-shown.ensures, c.take-step.ensures) (c.finish.ensures _)
