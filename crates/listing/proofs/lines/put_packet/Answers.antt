-- `lines::put_packet` meets its contract: the count of a packet's data has at most five digits.
-- Assumes nothing.
use Rattle.std.proofs.Common.{arith}
use Rattle.listing.proofs.lines.Lines.{five-digits}
use Rattle.listing.proofs.lines.put_packet.Goals as goal

pub put_line-requires : goal.put_line-requires
put_line-requires c =
    omega (arith, five-digits c.saturating_sub.result (omega (arith, c.requires, c.saturating_sub.ensures)))
