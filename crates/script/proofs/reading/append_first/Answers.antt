-- `append_first` appends one byte or none. Assumes nothing.
use Rattle.fields.proofs.Buffer.{append-none}
use Rattle.script.proofs.Script.{first-none}
use Rattle.script.proofs.reading.append_first.Goals as goal

pub returns-else-left-eq0 : goal.returns-else-left-eq0
returns-else-left-eq0 c =
    let a = c.args in
    rw (first-none a.left a.s.now c.if-left-eq0.false) (append-none a.n a.out.now)
