-- `with_none` has no name. Assumes nothing.
use lib.ListN.{replicate}
use Rattle.calls.proofs.Names.{keep-none}
use Rattle.bin_receiver.proofs.Receiver.with_none.Goals as goal

pub returns : goal.returns
returns c = rw (keep-none (replicate 64 0))
