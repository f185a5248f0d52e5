-- `number_at` reads at most four bytes, which are always a number.
use Rattle.records.proofs.Laws.{number-read}
use Rattle.records.proofs.record_reader.number_at.Goals as goal

pub returns : goal.returns
returns c =
    let a = c.args in
    number-read a.from a.width a.b.now c.read_little.result _ c.requires (rw c.part.ensures at c.read_little.ensures) c.unwrap_or.ensures
