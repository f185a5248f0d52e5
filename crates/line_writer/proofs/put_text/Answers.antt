-- `put_text` lays down a mark, a text and what follows it. Assumes nothing.
use Rattle.line_writer.proofs.Laying.{put_text}
use Rattle.line_writer.proofs.put_text.Goals as goal

pub returns : goal.returns
returns c = let p = c.requires in put_text _ p.1 _ _ _ p.0 c.put_bytes-text_start.ensures c.append_bytes-text_end.ensures c.append_bytes.ensures
