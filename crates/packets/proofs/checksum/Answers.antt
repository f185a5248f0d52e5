-- `checksum` meets its contract: its sum is taken modulo 256 at each byte. Assumes nothing.
use mathlib.Core.Path.{◌≡◌, ◌∙◌}
use Prim.Native.Nat.{ℕ, ◌+◌, ◌%◌}
use borrow.Author.Rules.{rules}
use Rattle.std.specs.List.{fold}
use Rattle.packets.proofs.Sums.{checksum_is}
use Rattle.packets.proofs.checksum.Goals as goal

pub returns : goal.returns
returns c =
    let e : c.fold.result ≡ fold (λ (t x : ℕ). (t + x) % 256) 0 c.args.d.now = search rules in
    e ∙ checksum_is c.args.d.now
