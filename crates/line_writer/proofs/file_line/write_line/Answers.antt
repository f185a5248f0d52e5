-- `write_line` writes an extended line. Assumes nothing.
use mathlib.Core.Path.{sym, ◌∙◌}
use native.Mathlib.Omega.{arith}
use borrow.Author.Tests.{le-leb, leb-true}
use Rattle.fields.proofs.Lists.{both}
use Rattle.fields.proofs.Buffer.{written}
use Rattle.lines.specs.Element.{line_form}
use Rattle.line_writer.proofs.Laying.{has_room, has_form, name_fits, put-line}
use Rattle.line_writer.proofs.file_line.write_line.Goals as goal

pub returns : goal.returns
unfolding line_form
returns c =
    let h = has_room _ (sym c.check_room.ensures ∙ c.in_ok-check_room.was) in
    let f = both _ _ (sym c.is_file.ensures ∙ has_form _ (sym c.check_form.ensures ∙ c.in_ok-check_form.was)) in
    let p = put-line _ h c.args.size c.args.crc c.args.stamp c.args.resumable c.args.name.now (leb-true _ _ f.0) (omega arith) (name_fits _ f.1) c.put_size-sized.ensures c.append_byte-crc_start.ensures
    (rw c.from.ensures at c.append_decimal-crc_end.ensures) c.append_byte-stamp_start.ensures c.append_hex-stamp_end.ensures c.append_resume-resume.ensures
    c.append_byte-name_start.ensures c.append_bytes-name_end.ensures c.append_byte.ensures in
    written 259 _ _ _ _ _ (rw (f.1, f.0, le-leb c.args.crc 65535 (omega arith), le-leb c.args.stamp 0xFFFFFFFF (omega arith))) h p.0 p.1
