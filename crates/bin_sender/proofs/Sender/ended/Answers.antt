-- A refused beginning has no name. Assumes nothing.
use Rattle.bin_sender.proofs.Calls.{no_name}
use Rattle.bin_sender.proofs.Sender.ended.Goals as goal

pub returns : goal.returns
returns c = rw no_name
