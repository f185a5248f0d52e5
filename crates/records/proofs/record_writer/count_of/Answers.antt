-- `count_of` counts the bytes of all fields but the length. Assumes nothing.
use native.Mathlib.Omega.{arith}
use Rattle.records.proofs.Laws.{stamp-present, stamp-absent}
use Rattle.records.proofs.record_writer.count_of.Goals as goal

pub returns-in-Some : goal.returns-in-Some
returns-in-Some c = let a = c.args in let l = stamp-present a.stamp _ c.in-Some.is in omega arith

pub returns-in-None : goal.returns-in-None
returns-in-None c = let a = c.args in let l = stamp-absent a.stamp c.in-None.is in omega arith
