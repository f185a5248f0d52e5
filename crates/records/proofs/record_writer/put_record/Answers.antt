-- `put_record` writes the fields one after the other. Assumes nothing.
use native.Mathlib.Omega.{arith}
use Rattle.records.proofs.Laws.{stamp-length}
use Rattle.records.proofs.record_writer.Fields.{put_all}
use Rattle.records.proofs.record_writer.put_record.Goals as goal

pub overflow_cast-count : goal.overflow_cast-count
overflow_cast-count c = omega (arith, stamp-length c.args.stamp)

pub returns : goal.returns
returns c =
    let bytes-call = c in
    let little5 = bytes-call in
    let stamp-call = little5 in
    let little4 = stamp-call in
    let little3 = little4 in
    let little2 = little3 in
    let little1 = little2 in
    let counted = little1 in
    let start = counted in
    let a = start.args in
    let p =
    put_all a.name.now a.size a.kept a.stamp _ _ counted.count_of-count.ensures little2.kind_of.ensures
    a.buf.now start.requires.0 start.requires.1
    _ _ _ _ _ _ _ _ _ _ _ _ _ _
    little1.append_little-counted.ensures little2.append_little-sorted.ensures little3.append_little-sized.ensures little4.append_little-held.ensures
    (stamp-call.append_stamp-stamped.ensures.0, stamp-call.append_stamp-stamped.ensures.1) little5.append_little-named.ensures bytes-call.append_bytes.ensures in
    (p.0, p.1, stamp-call.append_stamp-stamped.ensures.2)
