-- A session by its turns: so many were done. Assumes nothing.
use Rattle.transfer.specs.Session.{turn, is_over, Reached}
use Rattle.transfer.proofs.ends.session.Given as goal

abbrev pub invariant-loop : goal.invariant-loop
invariant-loop g l =
    Reached (turn g.E.Ends.sends g.E.Ends.takes l.file) (is_over g.E.Ends.ended)
    (record { ends = l.initial.e.ends; link = l.initial.e.link; area = l.initial.area }) l.counter
    (record { ends = l.e.ends; link = l.e.link; area = l.area })
