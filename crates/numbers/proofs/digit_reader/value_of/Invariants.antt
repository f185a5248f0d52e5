-- `value_of`: what is read so far is below radix ^ c-index, and the definition of all is that of the rest behind it.
use Prim.Native.Nat.{◌<◌, ◌^◌}
use mathlib.Core.Path.{◌≡◌}
use lib.ListN.{drop}
use Rattle.numbers.specs.Reading.{radix, value_from}
use Rattle.numbers.proofs.digit_reader.value_of.Given as goal

abbrev pub invariant-loop-c : goal.invariant-loop-c
invariant-loop-c l = (l.acc < radix l.base ^ l.c-index) × (value_from l.base l.acc (drop l.c-index l.s) ≡ value_from l.base 0 l.s)
