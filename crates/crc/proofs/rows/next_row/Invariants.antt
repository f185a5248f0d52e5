-- The entries before b are there.
use Rattle.std.proofs.Common.{◌≡◌, ◌<◌, ℕ, length, get_or}
use Rattle.crc.specs.declared.Reading.TheVariants.{Bare}
use Rattle.crc.specs.Crc.{byte_step}
use Rattle.crc.proofs.rows.next_row.Given as goal

abbrev pub invariant-loop-b : goal.invariant-loop-b
invariant-loop-b l = (length l.next ≡ 256) × ((k : ℕ) → k < l.b → get_or l.next k 0 ≡ byte_step Bare (get_or l.row k 0) 0)
