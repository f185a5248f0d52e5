-- `Reader::fill` meets its contract. The loop's invariant: what feeding the whole chunk gives from the start is what feeding the rest gives
-- from here.
-- Assumes nothing.
use mathlib.Core.Path.{◌≡◌, sym, ◌∙◌}
use native.Mathlib.Omega.{arith}
use lib.ListN.{length, drop_of_length-le}
use Rattle.packet_stream.specs.Pending.{feed}
use Rattle.packet_stream.proofs.Feeding.{feed-step, stopped}
use Rattle.packet_stream.proofs.Reader.fill.Goals as goal

pub loop-i-preserved : goal.loop-i-preserved
loop-i-preserved c =
    let l = c.loop-i in
    let turn = feed-step _ _ _ _ _ _ _ c.slot-at.ensures.0 c.loop-i-test.true (sym c.in-Open.is ∙ c.span_of.ensures) in
    record { mode = l.invariant.mode; fed = l.invariant.fed ∙ turn }

pub returns-in_default : goal.returns-in_default
returns-in_default c =
    let l = c.loop-i in
    let turn = feed-step _ _ _ _ _ _ _ c.slot-at.ensures.0 c.loop-i-test.true c.span_of.ensures in
    record { mode = l.invariant.mode; fed = l.invariant.fed ∙ turn ∙ stopped _ _ _ _ c.in_default.not-Open }

pub returns-clause-fed : goal.returns-clause-fed
unfolding feed
returns-clause-fed c =
    let l = c.loop-i in
    let n : l.i ≡ length c.args.chunk.now = omega arith in
    l.invariant.fed ∙ rw (drop_of_length-le c.args.chunk.now c.loop-i-test.false, n)
