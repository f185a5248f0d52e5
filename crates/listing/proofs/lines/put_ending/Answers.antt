-- `put_ending` lays the parts of the last lines one behind the other. Assumes nothing.
use Rattle.std.proofs.Common.{arith}
use Rattle.listing.proofs.lines.Lines.{ending-written}
use Rattle.listing.proofs.lines.put_ending.Goals as goal

pub returns : goal.returns
returns c =
    let a = c.args in
    let f = c.ranges in
    ending-written a.offset a.n a.total a.out.now _ _ _ _ _ _ (omega (arith, f)) (omega (arith, f)) (omega (arith, f)) c.requires
    c.put_cut-at.ensures c.append_bytes-a.ensures c.append_decimal.ensures
