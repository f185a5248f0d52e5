-- `write_re` writes RE, or refuses a position past the limit. Assumes nothing.
use mathlib.Core.Path.{◌≡◌, sym, ◌∙◌}
use mathlib.Core.List.{◌∷◌}
use native.Mathlib.Omega.{arith}
use lib.Dec.{leb}
use lib.ListN.{length, take, length-take}
use Rattle.fields.specs.Buffer.{form_if}
use Rattle.packets.specs.Content.{resume_data, resume_form}
use Rattle.packets.proofs.RoundTrip.{resume-length}
use Rattle.packet_writer.proofs.Laid.{laid_is, text_is}
use Rattle.packet_writer.proofs.files.Forms.{resume-is}
use Rattle.packet_writer.proofs.files.write_re.Goals as goal

pub slice_bounds-data-end : goal.slice_bounds-data-end
slice_bounds-data-end c =
    let short = resume-length c.args.position (omega arith) c.args.checked in
    omega (arith, c.put_resume-n.ensures.0)

pub slice_bounds-write_text-end-2 : goal.slice_bounds-write_text-end-2
slice_bounds-write_text-end-2 c =
    let short = resume-length c.args.position (omega arith) c.args.checked in
    simp length-take (omega (arith, c.put_resume-n.ensures.0))

pub returns : goal.returns
returns c =
    let a = c.args in
    let x = c.put_resume-n in
    let bs = resume_data a.position a.checked in
    let short = resume-length a.position (omega arith) a.checked in
    let s = take x.result x.new.room in
    let e : s ≡ bs = laid_is bs _ x.new.room x.result x.ensures in
    let f : form_if (leb (length s) 255) (0x15 ∷ length s ∷ s) ≡ resume_form a.position a.checked = rw e (text_is bs _ (omega arith) ∙ sym (resume-is a.position a.checked (omega arith))) in
    rw f at c.write_text.ensures
