-- `put_line` lays the parts of a line one behind the other. Assumes nothing.
use Rattle.std.proofs.Common.{arith}
use Rattle.listing.proofs.lines.Lines.{line-written}
use Rattle.listing.proofs.lines.put_line.Goals as goal

pub returns : goal.returns
returns c =
    let a = c.args in
    let l = c.letters.ensures in
    line-written a.offset a.count _ a.out.now _ _ _ _ _ _ _ _ (omega (arith, c.ranges)) (rw (← l.0) l.1) c.requires
    c.append_decimal-a.ensures (rw l.0 at c.append_bytes-b.ensures) c.append_byte-c.ensures c.append_decimal.ensures
