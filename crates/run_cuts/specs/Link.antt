-- What a session over a link that breaks leaves, and what is asked of it.
use Rattle.std.specs.Prelude.{ℕ, zero, suc, ◌-◌, min, Bool, ◌&&◌, List, [], ◌∷◌, length, take, replicate, leb, eqb, Option, None, Some}
use Rattle.fields.specs.Pick.{pick}
use Rattle.fields.specs.Lists.{same}
use Rattle.fields.specs.Buffer.{Form, placed}
use Rattle.records.specs.Record.{number_at}
use Rattle.records.specs.Saved.{saved, record_bytes}
use Rattle.calls.specs.Count.{record_count}
use Rattle.calls.specs.Recording.{record_answer, record_left}
use Rattle.calls.specs.Numbers.{outcome_number}
use Rattle.calls.specs.declared.Outcome.{Outcome}
use Rattle.run_cuts.specs.declared.link.Ends.{Ends}
use Rattle.run_cuts.specs.declared.link.Moved.{Moved}
use Rattle.run_cuts.specs.declared.link.Saved.{Saved}
use Rattle.run_cuts.specs.declared.link.Link.{Link}

-- ---- the file that every session sends: its name `abc.txt`, and its date and time

abbrev pub file_name : List ℕ
file_name = 97 ∷ 98 ∷ 99 ∷ 46 ∷ 116 ∷ 120 ∷ 116 ∷ []

abbrev pub file_stamp : ℕ
file_stamp = 0x5A214800

-- ---- what a session leaves

-- an area that nothing was stored in
abbrev pub untouched : List ℕ
untouched = replicate 320 0xEE

-- stands in the place of document 01's number for an end that has not ended
abbrev pub running : ℕ
running = 255

-- before the first session
abbrev pub nothing : Saved
nothing = record { area = untouched; bytes = replicate 81 0; len = 0; sender = running; receiver = running }

-- the area, the record as its form is written into 81 bytes, and the numbers that the two ends ended with
abbrev pub saved_with : List ℕ → Option Form → ℕ → ℕ → Saved
saved_with area form sender receiver = record {
  area = area;
  bytes = record_left form (replicate 81 0);
  len = record_count (record_answer form (replicate 81 0));
  sender = sender;
  receiver = receiver;
}

-- ---- the link

-- before the first turn of a session, where the link breaks behind so many bytes
abbrev pub begin : Saved → ℕ → Link
begin before bytes = record { area = before.area; to = replicate 259 0; back = replicate 259 0; answered = 0; left = bytes }

-- the bytes that come of those sent, the first of a buffer, over a link that still carries so many
abbrev pub passed : ℕ → ℕ → List ℕ → List ℕ
passed sent left buffer = take (min sent left) buffer

-- what has come of the receiver's last answer
abbrev pub heard : Link → List ℕ
heard l = passed l.answered l.left l.back

-- how many bytes the link carries after that answer
abbrev pub carries : Link → ℕ
carries l = l.left - l.answered

-- n turns, one after the other
unfoldable pub turns : {A : Type 0} → (A → A) → ℕ → A → A
turns turn zero ends = ends
turns turn (suc n) ends = turn (turns turn n ends)

-- ---- a turn

-- what a call leaves of the sender, and of the buffer for what it sends
pub record Sent (S : Type 0) : Type 0 where
  pub moved : Moved S
  pub reply : List ℕ

-- what a call leaves of the receiver, of the area, and of the buffer for its answer
pub record Taken (R : Type 0) : Type 0 where
  pub moved : Moved R
  pub area : List ℕ
  pub reply : List ℕ

-- by what was answered, what came of it, the file and the buffer
abbrev pub Sends : Type 0 → Type 0
Sends S = S → ℕ → List ℕ → List ℕ → List ℕ → Sent S

-- by what came, the area and the buffer
abbrev pub Takes : Type 0 → Type 0
Takes R = R → List ℕ → List ℕ → List ℕ → Taken R

-- what stands after both calls, over a link that carries so many bytes after the receiver's last answer
abbrev pub standing : {S R : Type 0} → ℕ → Sent S → Taken R → Ends S R
standing left s r = record {
  sender = s.moved.end;
  receiver = r.moved.end;
  link = record { area = r.area; to = s.reply; back = r.reply; answered = r.moved.sent; left = left - s.moved.sent };
}

-- the receiver gets what came of what was sent
abbrev pub received : {S R : Type 0} → Takes R → Ends S R → ℕ → Sent S → Ends S R
received takes e left s = standing left s (takes e.receiver (passed s.moved.sent left s.reply) e.link.area e.link.back)

-- what was answered goes over the link, and then what the sender sends
unfoldable pub turn : {S R : Type 0} → Sends S → Takes R → List ℕ → Ends S R → Ends S R
turn sends takes file e = received takes e (carries e.link) (sends e.sender e.link.answered (heard e.link) file e.link.to)

-- ---- the end

-- what a receiver's record is
abbrev pub Records : Type 0 → Type 0
Records R = R → Option Form

-- how an end ended, if it has
abbrev pub Ended : Type 0 → Type 0
Ended E = E → Option Outcome

-- the number that an end ended with
abbrev pub number : Option Outcome → ℕ
number None = running
number (Some o) = outcome_number o

-- what the ends leave
unfoldable pub saved_after : {S R : Type 0} → Records R → Ended S → Ended R → Ends S R → Saved
saved_after records sender receiver e =
    saved_with e.link.area (records e.receiver) (number (sender e.sender)) (number (receiver e.receiver))

-- ---- what is asked

-- the record's bytes
abbrev pub record_in : Saved → List ℕ
record_in s = take s.len s.bytes

-- how many bytes a record says are kept
abbrev pub kept_in : List ℕ → ℕ
kept_in b = number_at 8 4 b

unfoldable pub kept : Saved → ℕ
kept s = kept_in (record_in s)

-- the file has n bytes; the area has those, where it has room for them, and behind them what it was
unfoldable pub holds : List ℕ → List ℕ → ℕ → Bool
holds area file n = leb n (length file) && same area (placed (take n file) untouched)

-- b is the record of the file, whatever it says is kept; a record has four bytes for the size
unfoldable pub is_of_file : List ℕ → List ℕ → Bool
is_of_file b file =
    leb (length file) 0xFFFFFFFF && same b (record_bytes (saved file_name (length file) (kept_in b) (Some file_stamp)))

-- the record, where there is one, is the file's, and the area holds as many bytes as it says are kept
unfoldable pub is_sound : Saved → List ℕ → Bool
is_sound s file =
    pick (eqb s.len 0) (holds s.area file 0) (is_of_file (record_in s) file && holds s.area file (kept s))

-- both ends ended with success
abbrev pub is_success : Saved → Bool
is_success s = eqb s.sender 0 && eqb s.receiver 0

-- they did, and the area has the whole file; an empty one needs no record
unfoldable pub is_whole : Saved → List ℕ → Bool
is_whole s file = is_success s && (eqb (kept s) (length file) && is_sound s file)
