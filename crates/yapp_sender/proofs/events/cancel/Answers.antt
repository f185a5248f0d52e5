-- What the operator's stop does, by the state. Assumes nothing.
use mathlib.Core.Path.{◌∙◌}
use Rattle.yapp_sender.specs.Sender.{settings_of}
use Rattle.yapp_sender.proofs.events.States.{cancel-none, cancel-abort}
use Rattle.yapp_sender.proofs.events.cancel.Goals as goal

pub returns-in-CW : goal.returns-in-CW
returns-in-CW c =
    let a = c.args in
    λ file. c.go.ensures (settings_of c.args.sender.now) file ∙ cancel-none a.sender.now.reader.checked a.sender.now.core.state c.in-CW.is

pub returns-in-S : goal.returns-in-S
returns-in-S c =
    let a = c.args in
    λ file. c.abort.ensures (settings_of c.args.sender.now) file ∙ cancel-abort a.sender.now.reader.checked a.sender.now.core.state c.in-S.is
