-- `decimal_of` tests the length, and then asks for the digits' value.
use native.Mathlib.Omega.{arith}
use Rattle.std.proofs.Common.{rules}
use Prim.Native.Nat.{◌≤◌}
use lib.ListN.{length}
use Rattle.numbers.proofs.Reading.{decimal-fits}
use Rattle.numbers.proofs.digit_reader.decimal_of.Goals as goal

pub value_of-requires : goal.value_of-requires
value_of-requires c =
    let h : length c.args.s.now ≤ c.args.width = search rules in
    decimal-fits _ (omega arith)
