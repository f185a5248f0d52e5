-- `printing::put_touched`: the change is that of the buffer as it was lent.
use Rattle.std.proofs.Common.{subst, length, []}
use Rattle.std.proofs.lemmas.Result.{on_ok_weaker}
use Rattle.script.specs.Printing.{IsChange, Touched, changed_from, changed_to}
use Rattle.script.proofs.Printed.{changed-is, change-is}
use Rattle.script.proofs.printing.put_touched.Goals as goal

pub returns : goal.returns
returns g c =
    let k = c.change_of-changed in
    let r = k.result in
    let b = c.args.buf.now in
    on_ok_weaker {Q = Touched [] c.args.label.now b (g.W.Write.contents c.args.out.now) (g.W.Write.contents c.put_change.new.out)} _
    (λ w. (
      changed_from r,
      changed_to r,
      subst (λ s. IsChange (length s) s b (changed_from r) (changed_to r)) c.part.ensures (changed-is _ _ b r k.ensures),
      rw (change-is _ _ b c.args.label.now r k.ensures) at w,
    ))
    c.put_change.ensures
