-- `take` leaves all as it is where the frame is empty. Assumes nothing.
use mathlib.Core.Path.{sym, ◌∙◌}
use borrow.Author.Tests.{eqb-true}
use Rattle.bin_receiver.proofs.arrivals.Laws.{takes_none}
use Rattle.bin_receiver.proofs.arrivals.take.Goals as goal

pub returns-then-is_empty : goal.returns-then-is_empty
returns-then-is_empty c =
    takes_none _ _ _ _ _ (eqb-true _ _ (sym c.is_empty.ensures ∙ c.if-is_empty.true)) ∙ rw c.stays.ensures
