-- The measure is the length of buf.
use Rattle.std.proofs.Common.{length}
use Rattle.numbers.proofs.hex_writer.+fill_hex.Given as goal

abbrev pub decreases-fill_hex : goal.decreases-fill_hex
decreases-fill_hex l = length l.buf.now
