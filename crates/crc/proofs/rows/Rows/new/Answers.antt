-- `new` meets its contract: row after row.
-- Assumes nothing.
use Rattle.std.proofs.Common.{rules, arith, subst, length-append, length-set, ◌∙◌}
use Rattle.crc.specs.Rows.{AreRows}
use Rattle.crc.proofs.Eight.{rows_first, rows_more}
use Rattle.crc.proofs.rows.Rows.new.Goals as goal

pub loop-j-init : goal.loop-j-init
loop-j-init c = (length-set c.args.rows.now 0 c.from_fn.result ∙ omega arith, rows_first c.args.rows.now c.from_fn.result (omega arith) (λ b h. let made = c.from_fn.ensures.items.at b 0 h in search rules))

pub loop-j-preserved : goal.loop-j-preserved
loop-j-preserved c =
    let l = c.loop-j in
    let p = c.split_at_mut-before.result in
    let s = c.split_at_mut-before.ensures in
    (simp (length-append, length-set) (omega arith), rows_more p.0.now p.1.now l.j c.next_row.new.next (subst (AreRows l.j) s.value l.invariant.1) (omega arith) (omega arith) (omega arith) c.next_row.ensures)

pub invariant_of-result : goal.invariant_of-result
invariant_of-result c = record { made = λ j h. c.loop-j.invariant.1 j (omega arith) }
