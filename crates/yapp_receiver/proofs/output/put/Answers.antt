-- `put` writes the one packet that is sent. Assumes nothing.
use mathlib.Core.Path.{◌∙◌}
use Rattle.packets.specs.Content.{content_of, form_of}
use Rattle.calls.proofs.Laws.{wrote}
use Rattle.yapp_receiver.specs.Step.{texts}
use Rattle.yapp_receiver.proofs.output.put.Goals as goal

pub returns : goal.returns
returns c =
    let g = c.args in
    let w = wrote (form_of g.checked (content_of texts c.packet_of-packet.result)) g.reply.now _ _ c.requires c.write-written.ensures in
    rw (← c.packet_of-packet.ensures) (c.count.ensures ∙ w.0, w.1)
