-- `write_ok_kept` writes the third OK. Assumes nothing.
use mathlib.Core.Path.{sym, ◌∙◌}
use native.Mathlib.Omega.{arith}
use borrow.Author.Tests.{le-leb, leb-true}
use Rattle.fields.proofs.Lists.{both}
use Rattle.fields.proofs.Buffer.{written}
use Rattle.lines.specs.Element.{ok_kept_form}
use Rattle.line_writer.proofs.Laying.{has_room, has_form, name_fits, put-kept}
use Rattle.line_writer.proofs.ok_writer.write_ok_kept.Goals as goal

pub returns : goal.returns
unfolding ok_kept_form
returns c =
    let h = has_room _ (sym c.check_room.ensures ∙ c.in_ok-check_room.was) in
    let f = both _ _ (sym c.is_file.ensures ∙ has_form _ (sym c.check_form.ensures ∙ c.in_ok-check_form.was)) in
    let p = put-kept _ h c.args.name.now c.args.kept c.args.crc (name_fits _ f.1) (leb-true _ _ f.0) (omega arith) c.put_text-kept_start.ensures
    (rw c.from.ensures at c.append_decimal-crc_start.ensures) (rw c.from-2.ensures at c.append_decimal.ensures) in
    written 259 _ _ _ _ _ (rw (f.1, f.0, le-leb c.args.crc 65535 (omega arith))) h p.0 p.1
