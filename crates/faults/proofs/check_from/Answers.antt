-- `check_from` goes on from byte to byte, and by what the end is. Assumes nothing.
use Rattle.std.proofs.Common.{ℕ, ◌+◌, length, drop, sym, ap, ◌∙◌, arith}
use native.Mathlib.Nat.{add-zero}
use Rattle.std.proofs.lemmas.List.{length_push}
use Rattle.faults.specs.Faults.{step_of, fault, end_by, check_from}
use Rattle.faults.proofs.Offsets.{offsets, offset_turn, offset_end}
use Rattle.faults.proofs.Turns.{go_on, go-wrong, go-end}
use Rattle.faults.proofs.check_from.Goals as goal

pub loop-offset-init : goal.loop-offset-init
loop-offset-init c =
    let e = c.enumerate.ensures in
    let k = c.skip-offset-items.ensures in (
      offsets c.iter.ensures.rest e.source e.count k.source k.count c.into_iter-offset-iterator.ensures.into_iter_gives,
      ap (λ (n : ℕ). check_from c.args.stage n (drop n c.args.s.now)) (sym (add-zero c.args.from)),
    )

pub loop-offset-preserved : goal.loop-offset-preserved
loop-offset-preserved c =
    let l = c.loop-offset in
    let s = c.args.s.now in
    let t = offset_turn l.invariant.0 l.yielded _ l.yielded_by _ _ (c.in-Some.offset, c.in-Some.field-0-1) c.in-Some.is c.next.ensures.steps in
    let e = length_push l.yielded (c.in-Some.offset, c.in-Some.field-0-1) in (
      l.invariant.0,
      l.invariant.1
          ∙ go_on l.at (c.args.from + length l.yielded) s c.in-Ok.next t.0 (ap (step_of l.at) (sym t.2) ∙ sym c.step.ensures ∙ c.in-Ok.is)
          ∙ ap (λ (k : ℕ). check_from c.in-Ok.next k (drop k s)) (omega (arith, e)),
    )

pub returns-in-Err : goal.returns-in-Err
returns-in-Err c =
    let l = c.loop-offset in
    let t = offset_turn l.invariant.0 l.yielded _ l.yielded_by _ _ (c.in-Some.offset, c.in-Some.field-0-1) c.in-Some.is c.next.ensures.steps in
    ap (fault c.in-Err.flaw) t.1 ∙ sym (l.invariant.1
    ∙ go-wrong l.at (c.args.from + length l.yielded) c.args.s.now c.in-Err.flaw t.0 (ap (step_of l.at) (sym t.2) ∙ sym c.step.ensures ∙ c.in-Err.is))

pub returns-in_err-flaw : goal.returns-in_err-flaw
returns-in_err-flaw c =
    let l = c.loop-offset in
    let n = c.args.from + length l.yielded in
    let t = offset_end l.invariant.0 l.yielded _ l.yielded_by _ _ c.in-None.is c.next.ensures.steps in
    c.from_residual.ensures
    ∙ sym (l.invariant.1 ∙ go-end l.at n c.args.s.now (omega (arith, t)) ∙ ap (λ m. end_by m n) (sym c.end_of.ensures ∙ c.in_err-flaw.was))

pub returns : goal.returns
returns c =
    let l = c.loop-offset in
    let n = c.args.from + length l.yielded in
    let t = offset_end l.invariant.0 l.yielded _ l.yielded_by _ _ c.in-None.is c.next.ensures.steps in
    ap (fault c.in_ok-flaw.flaw) (c.max.ensures ∙ omega (arith, t))
    ∙ sym (l.invariant.1 ∙ go-end l.at n c.args.s.now (omega (arith, t)) ∙ ap (λ m. end_by m n) (sym c.end_of.ensures ∙ c.in_ok-flaw.was))
