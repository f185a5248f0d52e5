-- `transmit` changes nothing. Assumes nothing.
use Rattle.yapp_receiver.specs.Receiver.{transmit}
use Rattle.yapp_receiver.proofs.Receiver.transmit.Goals as goal

pub returns : goal.returns
unfolding transmit
returns c = rw c.check.ensures at (c.unchanged.ensures c.args.area.now c.args.reply.now)
