-- `cancel` is its event's step. Assumes nothing.
use Rattle.yapp.specs.Steps.{receiver_cancels}
use Rattle.yapp_receiver.specs.Receiver.{now_of, cancel}
use Rattle.yapp_receiver.proofs.Receiver.cancel.Goals as goal

pub returns : goal.returns
unfolding cancel
returns c =
    let g = c.args in
    c.unless_refused.ensures (receiver_cancels (now_of g.self) g.area.now g.self.core.state) (c.cancel.ensures g.area.now g.self.reader.pending)
