-- `read_hex` tests the length, and then asks for the digits' value.
use Rattle.numbers.proofs.Reading.{hex-fits}
use Rattle.numbers.proofs.digit_reader.read_hex.Goals as goal

pub value_of-requires : goal.value_of-requires
value_of-requires c = hex-fits _ c.if-s-eq8.true
