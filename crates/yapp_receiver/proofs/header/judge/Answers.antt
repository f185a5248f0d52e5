-- `judge` goes by the packet. Assumes nothing.
use mathlib.Core.Path.{ap, ◌∙◌}
use Rattle.fields.specs.declared.Fault.{Fault}
use Rattle.calls.specs.declared.Outcome.TheVariants.{Malformed}
use Rattle.packets.specs.Content.{content_of}
use Rattle.packets.specs.Data.{on_header, fault_of}
use Rattle.yapp.specs.Steps.{fails}
use Rattle.yapp_receiver.specs.Receiver.{now_of}
use Rattle.yapp_receiver.specs.Step.{reached}
use Rattle.yapp_receiver.proofs.header.Laws.{no_header}
use Rattle.yapp_receiver.proofs.header.judge.Goals as goal

pub returns-in-Malformed : goal.returns-in-Malformed
unfolding content_of on_header fault_of
returns-in-Malformed c a = rw c.in-Malformed.is (c.fail.ensures a c.args.pending.now)

pub returns-in_default : goal.returns-in_default
returns-in_default c a =
    let g = c.args in
    ap (reached g.receiver.now.name) (no_header g.pending.now _ (λ (f : Fault). fails (now_of g.receiver.now) a (Malformed f)) g.packet c.in_default.not-HD c.in_default.not-Malformed)
    ∙ c.fail-in_default.ensures a g.pending.now
