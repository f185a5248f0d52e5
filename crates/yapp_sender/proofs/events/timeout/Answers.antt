-- What a timeout does, by the state. Assumes nothing.
use mathlib.Core.Path.{◌∙◌}
use Rattle.yapp_sender.specs.Sender.{settings_of}
use Rattle.yapp.specs.Steps.{sender_times_out}
use Rattle.yapp_sender.proofs.events.States.{timeout-abort, timeout-none}
use Rattle.yapp_sender.proofs.events.timeout.Goals as goal

pub returns-in-S : goal.returns-in-S
unfolding sender_times_out
returns-in-S c = λ file. c.timeout_s.ensures (settings_of c.args.sender.now) file ∙ rw c.in-S.is

pub returns-in-SH : goal.returns-in-SH
returns-in-SH c =
    let a = c.args in
    λ file. c.abort.ensures (settings_of c.args.sender.now) file ∙ timeout-abort a.sender.now.reader.checked a.sender.now.core.state c.in-SH.is

pub returns-in-ST : goal.returns-in-ST
unfolding sender_times_out
returns-in-ST c = λ file. c.end.ensures (settings_of c.args.sender.now) file ∙ rw c.in-ST.is

pub returns-in-CW : goal.returns-in-CW
unfolding sender_times_out
returns-in-CW c = λ file. c.end-in-CW.ensures (settings_of c.args.sender.now) file ∙ rw c.in-CW.is

pub returns-in-SD : goal.returns-in-SD
returns-in-SD c =
    let a = c.args in
    λ file. c.go.ensures (settings_of c.args.sender.now) file ∙ timeout-none a.sender.now.reader.checked a.sender.now.core.state c.in-SD.is
