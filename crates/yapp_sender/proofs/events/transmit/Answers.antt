-- What a leave does, by the state. Assumes nothing.
use mathlib.Core.Path.{◌∙◌}
use Rattle.yapp_sender.specs.Sender.{settings_of}
use Rattle.yapp.specs.Steps.{sender_transmits}
use Rattle.yapp_sender.proofs.events.States.{transmit-none}
use Rattle.yapp_sender.proofs.events.transmit.Goals as goal

pub returns-in-S : goal.returns-in-S
unfolding sender_transmits
returns-in-S c = c.transmit_s.ensures (settings_of c.args.sender.now) _ ∙ rw c.in-S.is

pub returns-in-SD : goal.returns-in-SD
unfolding sender_transmits
returns-in-SD c = c.transmit_sd.ensures ∙ rw c.in-SD.is

pub returns-in-SH : goal.returns-in-SH
returns-in-SH c =
    let a = c.args in
    c.go.ensures (settings_of c.args.sender.now) _ ∙ transmit-none (settings_of c.args.sender.now) a.file.now a.sender.now.reader.checked a.sender.now.core.state c.in-SH.is
