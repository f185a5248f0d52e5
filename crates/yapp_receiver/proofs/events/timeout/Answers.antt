-- `timeout` goes by the state. Assumes nothing.
use mathlib.Core.Path.{ap, ◌∙◌}
use Rattle.yapp_receiver.specs.Receiver.{now_of}
use Rattle.yapp_receiver.specs.Step.{reached}
use Rattle.yapp_receiver.proofs.events.Laws.{times_out, times_end}
use Rattle.yapp_receiver.proofs.events.timeout.Goals as goal

pub returns-in-R : goal.returns-in-R
returns-in-R c a p =
    let m = c.args.receiver.now in
    ap (reached m.name) (times_out (now_of m) a m.core.state c.in-R.is) ∙ c.fail.ensures a p

pub returns-in-CW : goal.returns-in-CW
returns-in-CW c a p =
    let m = c.args.receiver.now in
    ap (reached m.name) (times_end (now_of m) a m.core.state c.in-CW.outcome c.in-CW.is) ∙ c.end.ensures a p
