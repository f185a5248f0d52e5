-- `file_space` is as long as it says. Assumes nothing.
use Rattle.transfer.proofs.Zeros.{zeros-long}
use Rattle.transfer.proofs.file_space.Goals as goal

pub returns : goal.returns
returns c = zeros-long _
