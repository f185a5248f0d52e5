-- `append_stamp` writes the four bytes of a stamp, or nothing. Assumes nothing.
use mathlib.Core.Path.{refl}
use native.Mathlib.Omega.{arith}
use Rattle.records.proofs.Laws.{stamp-bytes, stamp-none, stamp_in_range}
use Rattle.fields.proofs.Buffer.{append-none}
use Rattle.records.proofs.record_writer.append_stamp.Goals as goal

pub returns-in-Some : goal.returns-in-Some
returns-in-Some c =
    let a = c.args in
    let e = c.in-Some.is in
    (rw (e, stamp-bytes) c.append_little.ensures.0, rw (e, stamp-bytes) c.append_little.ensures.1, stamp_in_range a.stamp _ e (omega arith))

pub returns-in-None : goal.returns-in-None
returns-in-None c =
    let a = c.args in
    let e = c.in-None.is in
    let p = append-none a.at a.buf.now in
    (rw (e, stamp-none) p.0, rw (e, stamp-none) p.1, rw e refl)
