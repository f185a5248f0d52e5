-- `put_front` lays a 00 n 00 down. Assumes nothing.
use Rattle.packet_writer.proofs.files.Forms.{fronted}
use Rattle.packet_writer.proofs.files.put_front.Goals as goal

pub returns : goal.returns
returns c =
    let a = c.args in
    let pre = c.requires in
    let g = fronted a.a.now a.n a.room.now _ _ _ _ _ _ pre.0 pre.1 pre.2
    c.append_bytes-named.ensures c.append_byte-at.ensures (rw c.from.ensures at c.append_decimal.ensures) in
    (g.count, g.bytes)
