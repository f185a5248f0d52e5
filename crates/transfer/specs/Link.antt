-- What the link lets pass.
use Rattle.std.specs.Prelude.{ℕ, ◌-◌, Bool, true, false, List, [], length, replicate, take, leb}
use Rattle.fields.specs.Pick.{pick}
use Rattle.calls.specs.declared.Outcome.{Outcome}
use Rattle.calls.specs.declared.Outcome.TheVariants.{Success, RecordUnreadable, RecordOver, NameOutside, LengthOutside, BlockOutside, Unexpected, Malformed, NoRoom, HaveFile, Differs, CheckFailed, PastSize, Short, Refused, Cancelled, NotOurs, TimedOut, SecondFile, Stopped}
use Rattle.transfer.specs.declared.link.Link.{Link}
use Rattle.transfer.specs.declared.link.Saved.{Saved}

-- the date and time of last change that the header and the line carry
abbrev pub file_stamp : ℕ
file_stamp = 0x5B6E_A3C0

-- before the first session
abbrev pub nothing : Saved
nothing = record { bytes = replicate 81 0; count = 0; whole = false }

-- a link that breaks after so many bytes
abbrev pub whole : ℕ → Bool → Link
whole left framed = record { left = left; broken = false; framed = framed; answered = 0; back = replicate 259 0 }

-- the link after n bytes were sent over it
abbrev pub after : Link → ℕ → Link
after l n = record {
  left = pick (leb n l.left) (l.left - n) 0;
  broken = pick (leb n l.left) l.broken true;
  framed = l.framed;
  answered = l.answered;
  back = l.back;
}

-- the link with what the receiver answered
abbrev pub with_answer : Link → ℕ → List ℕ → Link
with_answer l n back = record { left = l.left; broken = l.broken; framed = l.framed; answered = n; back = back }

-- whether an end that has ended so has succeeded
unfoldable pub is_success : Outcome → Bool
is_success Success = true
is_success RecordUnreadable = false
is_success RecordOver = false
is_success NameOutside = false
is_success LengthOutside = false
is_success BlockOutside = false
is_success Unexpected = false
is_success (Malformed f) = false
is_success NoRoom = false
is_success HaveFile = false
is_success Differs = false
is_success CheckFailed = false
is_success PastSize = false
is_success Short = false
is_success Refused = false
is_success Cancelled = false
is_success NotOurs = false
is_success TimedOut = false
is_success SecondFile = false
is_success Stopped = false

-- all of a frame, or none
abbrev pub of_frame : Link → List ℕ → List ℕ
of_frame l frame = pick (leb (length frame) l.left) frame []

-- what passes: of a packet as many bytes as the link still carries
abbrev pub passed : Link → List ℕ → List ℕ
passed l bytes = pick l.framed (of_frame l bytes) (take l.left bytes)
