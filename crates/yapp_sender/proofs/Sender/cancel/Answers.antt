-- `cancel` is its event's step. Assumes nothing.
use mathlib.Core.Path.{ap, sym, ◌∙◌}
use Rattle.fields.specs.Lists.{nowhere}
use Rattle.yapp.specs.Steps.{SenderMove}
use Rattle.yapp_sender.specs.Sender.{cancel, replied, status_of, unless_refused}
use Rattle.yapp_sender.proofs.Sender.cancel.Goals as goal

pub returns : goal.returns
unfolding cancel
returns c =
    let a = c.args in
    ap (λ (w : SenderMove). unless_refused (status_of a.self a.file.now a.reply.now) a.self a.reply.now (replied a.self a.self.reader 0 nowhere w a.reply.now)) (sym (c.cancel.ensures a.file.now))
    ∙ c.unless_refused.ensures
