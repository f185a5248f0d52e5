-- `split_at_zero` cuts where the first zero stands. Assumes nothing.
use Prim.Native.Nat.{◌+◌}
use native.Mathlib.Omega.{arith}
use Rattle.fields.proofs.Lists.{tail-is, take-up_to}
use Rattle.packets.proofs.split_at_zero.Goals as goal

pub returns-then-k-s : goal.returns-then-k-s
returns-then-k-s c =
    let s = c.args.s.now in
    let f = c.find-k in
    (take-up_to 0 s f.result f.ensures.0, rw (← f.ensures.0) (tail-is s (f.result + 1)), omega arith)
