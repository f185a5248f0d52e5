-- `timeout` is its event's step. Assumes nothing.
use Rattle.yapp.specs.Steps.{receiver_times_out}
use Rattle.yapp_receiver.specs.Receiver.{now_of, timeout}
use Rattle.yapp_receiver.proofs.Receiver.timeout.Goals as goal

pub returns : goal.returns
unfolding timeout
returns c =
    let g = c.args in
    c.unless_refused.ensures (receiver_times_out (now_of g.self) g.area.now g.self.core.state) (c.timeout.ensures g.area.now g.self.reader.pending)
