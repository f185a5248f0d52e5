-- `write_two` writes two bytes. Assumes nothing.
use mathlib.Core.Path.{refl}
use mathlib.Core.List.{[], ◌∷◌}
use native.Mathlib.Omega.{arith}
use Rattle.fields.specs.Buffer.{bytes}
use Rattle.fields.proofs.Buffer.{grown-none, grown, written}
use Rattle.packet_writer.proofs.write_two.Goals as goal

pub returns : goal.returns
returns c =
    let d = c.args.reply.now in
    let bs = c.args.first ∷ c.args.second ∷ [] in
    let g = grown (grown-none d) bs _ _ (omega arith) c.append_bytes.ensures in
    written 259 (bytes bs) d bs _ _ refl c.in_ok-check_room.ensures g.count g.bytes
