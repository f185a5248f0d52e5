-- A session by its turns: so many were done. Assumes nothing.
use mathlib.Core.Logic.{inl, inr}
use mathlib.Core.Path.{refl, sym, ◌∙◌}
use native.Mathlib.Omega.{arith}
use Rattle.transfer.specs.Session.{turn, is_over, saved_at}
use Rattle.transfer.proofs.Turns.{starts, goes, breaks, ends}
use Rattle.transfer.proofs.ends.session.Goals.{else-loop-test, then-loop-test+then-is_over}
use Rattle.transfer.proofs.ends.session.Goals as goal

pub loop-init : goal.loop-init
loop-init g c = starts _ _ _

pub loop-preserved : goal.loop-preserved
loop-preserved g c =
    goes _ _ _ _ _ _ _ c.loop.invariant (omega (arith, c.loop-test.true)) c.is_over.ensures c.if-is_over.false c.turn-t.ensures

pub returns-in_err-show_turn : goal.returns-in_err-show_turn
returns-in_err-show_turn g c =
    let e = g.E.Ends in
    breaks (turn e.sends e.takes c.args.file.now) (is_over e.ended) (saved_at e.saves) _ _ _ _ _
    c.from_residual.ensures.0
    (goes _ _ _ _ _ _ _ c.loop.invariant (omega (arith, c.loop-test.true)) c.is_over.ensures c.if-is_over.false c.turn-t.ensures)
    refl

pub returns-in_err-end_sender : goal.returns-in_err-end_sender
returns-in_err-end_sender g c =
    let e = g.E.Ends in
    breaks (turn e.sends e.takes c.args.file.now) (is_over e.ended) (saved_at e.saves) _ _ _ _ _
    c.from_residual-in_err-end_sender.ensures.0
    c.loop.invariant
    refl

pub returns : goal.returns
returns g c =
    let e = g.E.Ends in
    ends (turn e.sends e.takes c.args.file.now) (is_over e.ended) (saved_at e.saves) _ _ _ _ _
    c.loop.invariant
    refl
    (elim c.loop-test.branch [ else-loop-test w ↦ inr (omega (arith, w.loop-test, c.loop.auto.counter-end)) | then-loop-test+then-is_over w ↦ inl (sym w.is_over.ensures ∙ w.if-is_over.true) ])
    c.end_receiver.ensures
