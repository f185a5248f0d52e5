-- The number of every outcome and status. (Document 01, "Numbers that refuse or end", and change request 2026-02.)
use Rattle.calls.specs.declared.Refusal.TheVariants.{LongFrame, Over, SmallReply, WrongLength}
use Rattle.calls.specs.declared.Refusal.{Refusal}
use Rattle.std.specs.Prelude.{ℕ, Err, None, Ok, Option, Result, Some}
use Rattle.fields.specs.Faults.{flaw_number}
use Rattle.calls.specs.declared.Outcome.{Outcome}
use Rattle.calls.specs.declared.Outcome.TheVariants.{Success, RecordUnreadable, RecordOver, NameOutside, LengthOutside, BlockOutside, Unexpected, Malformed, NoRoom, HaveFile, Differs, CheckFailed, PastSize, Short, Refused, Cancelled, NotOurs, TimedOut, SecondFile, Stopped}

unfoldable pub outcome_number : Outcome → ℕ
outcome_number Success = 0
outcome_number RecordUnreadable = 1
outcome_number RecordOver = 2
outcome_number NameOutside = 3
outcome_number LengthOutside = 4
outcome_number BlockOutside = 5
outcome_number Unexpected = 6
outcome_number (Malformed f) = flaw_number f.flaw
outcome_number NoRoom = 8
outcome_number HaveFile = 9
outcome_number Differs = 10
outcome_number CheckFailed = 11
outcome_number PastSize = 12
outcome_number Short = 13
outcome_number Refused = 14
outcome_number Cancelled = 15
outcome_number NotOurs = 16
outcome_number TimedOut = 17
outcome_number SecondFile = 21
outcome_number Stopped = 23

-- where it was wrong: a malformed header, line or OK has a place, every other outcome none
unfoldable pub outcome_offset : Outcome → Option ℕ
outcome_offset Success = None
outcome_offset RecordUnreadable = None
outcome_offset RecordOver = None
outcome_offset NameOutside = None
outcome_offset LengthOutside = None
outcome_offset BlockOutside = None
outcome_offset Unexpected = None
outcome_offset (Malformed f) = Some f.offset
outcome_offset NoRoom = None
outcome_offset HaveFile = None
outcome_offset Differs = None
outcome_offset CheckFailed = None
outcome_offset PastSize = None
outcome_offset Short = None
outcome_offset Refused = None
outcome_offset Cancelled = None
outcome_offset NotOurs = None
outcome_offset TimedOut = None
outcome_offset SecondFile = None
outcome_offset Stopped = None

unfoldable pub status_number : Result (Unit {0}) Refusal → ℕ
status_number (Ok tt) = 0
status_number (Err Over) = 18
status_number (Err LongFrame) = 19
status_number (Err SmallReply) = 20
status_number (Err WrongLength) = 40
