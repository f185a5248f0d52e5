-- `put_header` lays name 00 size 00 option down. Assumes nothing.
use Prim.Native.Nat.{◌≤◌}
use native.Mathlib.Omega.{arith}
use borrow.Author.Tests.{le-leb}
use Rattle.numbers.specs.Writing.{hex}
use Rattle.numbers.proofs.numerals.Writing.{hex-length}
use Rattle.fields.proofs.Buffer.{grown-is}
use Rattle.packet_writer.proofs.files.Forms.{closed, laid-grown, front_short, header-stamp, header-plain}
use Rattle.packet_writer.proofs.files.put_header.Goals as goal

pub returns-in-Some : goal.returns-in-Some
returns-in-Some c =
    let a = c.args in
    let pre = c.requires in
    let x = c.append_hex-stamped in
    let y = c.append_byte in
    let b = front_short a.name.now a.size pre.1 in
    let l = hex-length 8 c.in-Some.v in
    let g = closed (laid-grown c.put_front-next.ensures) (hex 8 c.in-Some.v) x.new.buf y.new.buf x.result y.result (omega (arith, pre)) x.ensures y.ensures in
    let e = grown-is _ g (header-stamp a.name.now a.size a.stamp c.in-Some.v c.in-Some.is) in
    let v : c.in-Some.v ≤ 0xFFFFFFFF = omega arith in
    (e.0, e.1, rw (c.in-Some.is, le-leb c.in-Some.v 0xFFFFFFFF v))

pub returns-in-None : goal.returns-in-None
returns-in-None c =
    let a = c.args in
    let s = c.in-None.is in
    let e = grown-is _ (laid-grown c.put_front-next.ensures) (header-plain a.name.now a.size a.stamp s) in
    (e.0, e.1, rw s)
