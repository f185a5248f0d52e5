-- The measure is the length of buf.
use Rattle.std.proofs.Common.{length}
use Rattle.numbers.proofs.little_writer.+fill_little.Given as goal

abbrev pub decreases-fill_little : goal.decreases-fill_little
decreases-fill_little l = length l.buf.now
