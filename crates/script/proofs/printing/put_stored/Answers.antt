-- `printing::put_stored`: the change is written, and behind it the bytes.
use Rattle.std.proofs.Common.{subst, [], ◌∷◌, codes}
use Rattle.std.proofs.lemmas.Result.{on_ok_weaker}
use Rattle.std.specs.Io.KnownBytes.{Appends}
use Rattle.std.proofs.KnownBytes.{Appends-trans}
use Rattle.script.specs.Printing.{text, Stored, changed_from, changed_to}
use Rattle.script.proofs.Printed.{changed-is, change-is}
use Rattle.script.proofs.printing.put_stored.Goals as goal

pub returns : goal.returns
returns g c =
    let k = c.change_of-changed in
    let r = k.result in
    let a = c.args in
    let held = g.W.Write.contents in
    on_ok_weaker {Q = Stored a.before.now a.after.now (held a.out.now) (held c.put_text.new.out)} _
    (λ w. (
      changed_from r,
      changed_to r,
      changed-is _ _ _ r k.ensures,
      Appends-trans _ _ _ _ _ (rw (change-is _ _ _ (codes "; area") r k.ensures) at c.in_ok-put_change.ensures) (
          subst (λ s. Appends (held c.put_change.new.out) (held c.put_text.new.out) (text (32 ∷ []) s)) c.bytes_of.ensures w),
    ))
    c.put_text.ensures
