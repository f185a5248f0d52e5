-- `put_resume` lays `R` 00 position 00, and with checksums `C` 00, down. Assumes nothing.
use mathlib.Core.List.{[], ◌∷◌}
use native.Mathlib.Omega.{arith}
use Rattle.fields.proofs.Buffer.{grown, grown-is}
use Rattle.packet_writer.proofs.files.Forms.{laid-grown, front_short, resume-checked, resume-plain}
use Rattle.packet_writer.proofs.files.put_resume.Goals as goal

pub returns-then-checked : goal.returns-then-checked
returns-then-checked c =
    let a = c.args in
    let b = front_short (82 ∷ []) a.position c.requires.0 in
    let x = laid-grown c.put_front-next.ensures in
    let g = grown x (67 ∷ 0 ∷ []) _ _ (omega (arith, x.count, c.requires)) c.append_bytes.ensures in
    grown-is _ g (resume-checked a.position a.checked c.if-checked.true)

pub returns-else-checked : goal.returns-else-checked
returns-else-checked c =
    grown-is _ (laid-grown c.put_front-next.ensures) (resume-plain c.args.position c.args.checked c.if-checked.false)
