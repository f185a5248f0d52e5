-- `write_hd` writes HD, or refuses a name or a size outside the limits. Assumes nothing.
use mathlib.Core.Path.{◌≡◌, sym, ◌∙◌}
use mathlib.Core.Bool.{true}
use mathlib.Core.List.{◌∷◌}
use native.Mathlib.Omega.{arith}
use lib.Dec.{leb}
use lib.ListN.{length, take, length-take}
use Rattle.fields.specs.Name.{is_name}
use Rattle.fields.specs.Buffer.{form_if}
use Rattle.fields.proofs.Lists.{name-length}
use Rattle.packets.specs.Content.{header_data, header_form}
use Rattle.packets.proofs.RoundTrip.{header-length}
use Rattle.packet_writer.proofs.Laid.{laid_is, text_is}
use Rattle.packet_writer.proofs.files.Forms.{header_is}
use Rattle.packet_writer.proofs.files.write_hd.Goals as goal

pub put_header-n-requires : goal.put_header-n-requires
put_header-n-requires c =
    let n = name-length c.args.name.now (sym c.is_name.ensures ∙ c.if-not-is_name.false) in
    (n.1, omega arith, omega arith)

pub slice_bounds-data-end : goal.slice_bounds-data-end
slice_bounds-data-end c =
    let a = c.args in
    let e = c.put_header-n.ensures in
    let short = header-length a.name.now a.size a.stamp (sym c.is_name.ensures ∙ c.if-not-is_name.false) (omega arith) e.2 in
    omega (arith, e.0)

pub slice_bounds-write_text-end-2 : goal.slice_bounds-write_text-end-2
slice_bounds-write_text-end-2 c =
    let a = c.args in
    let e = c.put_header-n.ensures in
    let short = header-length a.name.now a.size a.stamp (sym c.is_name.ensures ∙ c.if-not-is_name.false) (omega arith) e.2 in
    simp length-take (omega (arith, e.0))

pub returns : goal.returns
returns c =
    let a = c.args in
    let x = c.put_header-n in
    let named : is_name a.name.now ≡ true = sym c.is_name.ensures ∙ c.if-not-is_name.false in
    let bs = header_data a.name.now a.size a.stamp in
    let short = header-length a.name.now a.size a.stamp named (omega arith) x.ensures.2 in
    let s = take x.result x.new.room in
    let e : s ≡ bs = laid_is bs _ x.new.room x.result (x.ensures.0, x.ensures.1) in
    let f : form_if (leb (length s) 255) (1 ∷ length s ∷ s) ≡ header_form a.name.now a.size a.stamp = rw e (text_is bs _ (omega arith) ∙ sym (header_is a.name.now a.size a.stamp named (omega arith) x.ensures.2)) in
    rw f at c.write_text.ensures
