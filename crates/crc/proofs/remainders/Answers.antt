-- `crc::remainders` meets its contract: that the constant is the table of the remainders is computed, once for all entries.
-- Assumes nothing.
use mathlib.Core.Path.{refl}
use Rattle.crc.specs.Crc.{reduced, remainder, table}
use Rattle.crc.proofs.remainders.Goals as goal

pub returns : goal.returns
unfolding table remainder reduced
returns c = refl
