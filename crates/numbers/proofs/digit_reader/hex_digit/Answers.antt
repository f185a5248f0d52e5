-- `hex_digit` asks `to_digit`, and answers 16 for None.
use Rattle.numbers.proofs.Reading.{hex-read}
use Rattle.numbers.proofs.digit_reader.hex_digit.Goals as goal

pub returns : goal.returns
returns c = rw c.from.ensures at (hex-read c.from.result _ _ c.to_digit.ensures.value c.unwrap_or.ensures)
