-- What a frame does, by the state. Assumes nothing.
use mathlib.Core.Path.{sym, ◌∙◌}
use Rattle.bin.specs.Steps.{sender_sends}
use Rattle.bin_sender.proofs.arrivals.Cases.{taken, idle}
use Rattle.bin_sender.proofs.arrivals.receive.Goals as goal

pub returns-then-is_stop : goal.returns-then-is_stop
unfolding sender_sends
returns-then-is_stop c = taken _ _ _ _ _ _ c.in-Send.is (rw (c.ends.ensures, sym c.is_stop.ensures ∙ c.if-is_stop.true))

pub returns-in-Wait : goal.returns-in-Wait
returns-in-Wait c = taken _ _ _ _ _ _ c.in-Wait.is c.hear.ensures

pub returns-else-is_stop : goal.returns-else-is_stop
unfolding sender_sends
returns-else-is_stop c = taken _ _ _ _ _ _ c.in-Send.is (rw (c.stays.ensures, sym c.is_stop.ensures ∙ c.if-is_stop.false, c.in-Send.is))

pub returns-in-Start : goal.returns-in-Start
returns-in-Start c = rw c.stays-in-Start.ensures (idle _ _ _ _ c.in-Start.is)
