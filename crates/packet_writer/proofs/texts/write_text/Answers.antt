-- `write_text` lays down the leading bytes, the length and the text. Assumes nothing.
use mathlib.Core.List.{[], ◌∷◌, ◌++◌, append_assoc}
use native.Mathlib.Omega.{arith}
use lib.ListN.{length, length-append}
use Rattle.fields.proofs.Buffer.{grown-none, grown, grown-is, written}
use Rattle.packet_writer.proofs.Laid.{text_is}
use Rattle.packet_writer.proofs.texts.write_text.Goals as goal

pub returns : goal.returns
returns c =
    let a = c.args in
    let d = a.reply.now in
    let s = a.text.now in
    let x = grown (grown-none d) a.lead.now _ _ (omega arith) c.append_bytes-end.ensures in
    let y = grown x (length s ∷ []) _ _ (omega (arith, x.count)) c.append_byte-end.ensures in
    let l = length-append a.lead.now (length s ∷ []) in
    let z = grown y s _ _ (omega (arith, y.count)) c.append_bytes.ensures in
    let bs = a.lead.now ++ (length s ∷ s) in
    let g = grown-is bs z (append_assoc a.lead.now (length s ∷ []) s) in
    written 259 _ d bs _ _ (text_is s bs (omega arith)) c.in_ok-check_room.ensures g.0 g.1
