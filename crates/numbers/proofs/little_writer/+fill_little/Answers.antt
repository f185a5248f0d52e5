-- The first byte is stored, and the bytes of the quotient fill the rest.
use Rattle.std.proofs.Common.{rules}
use Rattle.numbers.proofs.numerals.Writing.{little_more}
use Rattle.numbers.proofs.little_writer.+fill_little.Goals as goal

pub returns-in-Some : goal.returns-in-Some
returns-in-Some t c = little_more _ _ _ _ c.fill_little.ensures (search rules)
