-- `check_from` goes on from byte to byte. The invariant: the bytes come with their offsets, and what is left is judged as all of it. Assumes nothing.
use Rattle.std.proofs.Common.{◌≡◌, ◌+◌, length, drop}
use Rattle.faults.specs.Faults.{check_from}
use Rattle.faults.proofs.Offsets.{Offsets}
use Rattle.faults.proofs.check_from.Given as goal

abbrev pub invariant-loop-offset : goal.invariant-loop-offset
invariant-loop-offset l =
    let n = l.from + length l.yielded in
    Offsets l.s l.from l.initial.offset-iterator × (check_from l.initial.at l.from (drop l.from l.s) ≡ check_from l.at n (drop n l.s))
