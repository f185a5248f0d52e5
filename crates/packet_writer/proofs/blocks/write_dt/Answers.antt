-- `write_dt` lays down the leading bytes, the data and, with checksums, theirs. Assumes nothing.
use mathlib.Core.List.{[], ◌∷◌}
use Prim.Native.Nat.{◌%◌, ◌≤◌}
use borrow.Author.Rules.{rules}
use native.Mathlib.Omega.{arith}
use lib.ListN.{length}
use Rattle.packets.specs.Packet.{checksum}
use Rattle.fields.proofs.Buffer.{grown-none, grown, written}
use Rattle.packet_writer.proofs.blocks.Forms.{block-checked, block-plain}
use Rattle.packet_writer.proofs.blocks.write_dt.Goals as goal

pub returns-then-checked : goal.returns-then-checked
returns-then-checked c =
    let d = c.args.reply.now in
    let s = c.args.block.now in
    let within : (1 ≤ length s) × (length s ≤ 256) = search rules in
    let x = grown (grown-none d) (2 ∷ length s % 256 ∷ []) _ _ (omega arith) c.append_bytes-end.ensures in
    let y = grown x s _ _ (omega (arith, x.count)) c.append_bytes-end-2.ensures in
    let z = grown y (checksum s ∷ []) _ _ (omega (arith, y.count)) (rw (← c.checksum.ensures) c.append_byte-end.ensures) in
    let f = block-checked c.args.checked s within.0 within.1 c.if-checked.true in
    written 259 _ d _ _ _ f c.in_ok-check_room.ensures z.count z.bytes

pub returns-else-checked : goal.returns-else-checked
returns-else-checked c =
    let d = c.args.reply.now in
    let s = c.args.block.now in
    let within : (1 ≤ length s) × (length s ≤ 256) = search rules in
    let x = grown (grown-none d) (2 ∷ length s % 256 ∷ []) _ _ (omega arith) c.append_bytes-end.ensures in
    let y = grown x s _ _ (omega (arith, x.count)) c.append_bytes-end-2.ensures in
    let f = block-plain c.args.checked s within.0 within.1 c.if-checked.false in
    written 259 _ d _ _ _ f c.in_ok-check_room.ensures y.count y.bytes
