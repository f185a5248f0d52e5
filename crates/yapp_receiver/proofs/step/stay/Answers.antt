-- `stay` leaves the record as it is held. Assumes nothing.
use Rattle.calls.proofs.Names.{keep-own}
use Rattle.yapp_receiver.proofs.step.stay.Goals as goal

pub returns : goal.returns
returns c a p = rw (c.held.ensures, c.checked.ensures, keep-own c.args.receiver.now.core.keeping c.args.receiver.now.name)
