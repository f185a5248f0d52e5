-- Timer or operator's stop is checked, and answered with the stop frame. Assumes nothing.
use mathlib.Core.Path.{◌∙◌}
use Rattle.calls.proofs.Laws.{taken-room, taken-open, taken-by, unless-taken}
use Rattle.bin_sender.proofs.Calls.{fails-stops}
use Rattle.bin_sender.proofs.Sender.fail.Goals as goal

pub finish-requires : goal.finish-requires
finish-requires c = (taken-room _ _ _ _ _ (taken-by c.check-status.ensures c.is_taken.ensures c.if-is_taken.true)).0

pub returns-then-is_taken : goal.returns-then-is_taken
returns-then-is_taken c =
    let g = c.args in
    let h = taken-by c.check-status.ensures c.is_taken.ensures c.if-is_taken.true in
    unless-taken _ _ _ h ∙ rw (fails-stops g.outcome g.self.core.state (taken-open _ _ _ _ _ h)) (rw c.stops.ensures at c.finish.ensures)
