-- `append_bytes` lays bytes over a buffer from an index on.
-- Assumes nothing.
use mathlib.Core.Path.{◌≡◌, refl}
use Prim.Native.Nat.{◌-◌}
use native.Mathlib.Omega.{arith}
use lib.ListN.{length, length-take, length-drop}
use borrow.Rule.Slice.PartMut.{mid_of}
use Rattle.fields.proofs.Buffer.{append-part, append-short, count-le}
use Rattle.fields.proofs.buffers.append_bytes.Goals as goal

pub overflow_add-result : goal.overflow_add-result
overflow_add-result c =
    let a = c.args in
    let d = a.buf.now in
    let k = length d - a.at in
    let call = c.put_bytes in
    let m : length (mid_of a.at k d) ≡ k = simp (length-take, length-drop) (omega arith) in
    omega (arith, call.ensures.0, count-le a.bytes.now (mid_of a.at k d))

pub returns : goal.returns
returns c =
    let a = c.args in
    let d = a.buf.now in
    let k = length d - a.at in
    let call = c.put_bytes in
    append-part a.at a.bytes.now d k call.result call.new.buf (omega arith) refl call.ensures.0 call.ensures.1

pub returns-then-buf-at : goal.returns-then-buf-at
returns-then-buf-at c =
    let a = c.args in
    append-short a.at a.bytes.now a.buf.now (omega arith)
