-- `put_size` lays down `#BIN#`, a size and the byte behind it. Assumes nothing.
use Rattle.line_writer.proofs.Laying.{put-size}
use Rattle.line_writer.proofs.file_line.put_size.Goals as goal

pub returns : goal.returns
returns c = let p = c.requires in put-size _ p.1 _ _ p.0 c.put_bytes-start.ensures (rw c.from.ensures at c.append_decimal.ensures)
