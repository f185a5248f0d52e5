-- What the two ends of #BIN# do, over frames. (Document 01, "Lines of #BIN#".) Every CRC of an end, the line's, the third OK's, and those that
-- 16 and 11 judge by, is by the reading that its session is set to (request 2026-06).
use Rattle.std.specs.Prelude.{ℕ, ◌+◌, Bool, true, false, ◌&&◌, List, [], ◌∷◌, ◌++◌, length, take, drop, leb, eqb, None, Option, Some}
use Rattle.fields.specs.Pick.{pick}
use Rattle.fields.specs.Lists.{same}
use Rattle.fields.specs.Buffer.{appended}
use Rattle.crc.specs.declared.Reading.{Reading}
use Rattle.crc.specs.Crc.{crc_by}
use Rattle.lines.specs.Frame.{starts, display_mark, stop_frame, frame_of}
use Rattle.lines.specs.Element.{Element, basic, extended, malformed_line, ok, ok_name, ok_kept, malformed_ok, no, stop, display, other, content_of, form_of}
use Rattle.records.specs.Saved.{Saved}
use Rattle.calls.specs.declared.Outcome.{Outcome}
use Rattle.calls.specs.declared.Outcome.TheVariants.{Success, Malformed, NoRoom, HaveFile, Differs, CheckFailed, PastSize, Refused, Cancelled, NotOurs}
pub use Rattle.fields.specs.Buffer.{bytes_in}
pub use Rattle.calls.specs.Texts.{format_text, room_text, have_text, differs_text}
use Rattle.calls.specs.Saving.{kept_of, size_of, grown}
use Rattle.bin.specs.declared.Announce.{Announce}
use Rattle.bin.specs.declared.Announce.TheVariants.{Basic, Extended}
use Rattle.bin.specs.declared.SenderState.{SenderState}
use Rattle.bin.specs.declared.SenderState.TheVariants.{Start, Wait, Send, Ended}
use Rattle.bin.specs.declared.ReceiverState.{ReceiverState}
use Rattle.bin.specs.declared.ReceiverState.TheVariants.{Waiting, Basic as TakesBasic, Extended as Takes, Ended as Over}

-- ---- frames

-- frames one after the other
abbrev pub joined : List (List ℕ) → List ℕ
joined [] = []
joined (f ∷ l) = f ++ joined l

-- what a frame says, with its bytes
unfoldable pub heard : List ℕ → Element
heard f = content_of f (frame_of f)

-- Frames are as long as the block allows, but of one byte where the rest starts with `SP\-` or where the frame would equal the stop frame
unfoldable pub cut : ℕ → List ℕ → List ℕ
cut block rest = pick (starts display_mark rest) (take 1 rest) (pick (same stop_frame (take block rest)) (take 1 rest) (take block rest))

-- ---- the sender

pub record SenderSettings : Type 0 where
  pub announce : Announce
  pub name : List ℕ
  pub size : ℕ
  pub block : ℕ

-- where a sender goes, and the frames that it sends: one or none
pub record SenderMove : Type 0 where
  pub state : SenderState
  pub out : List (List ℕ)

abbrev pub goes : SenderState → List (List ℕ) → SenderMove
goes st l = record { state = st; out = l }

-- the stop frame is sent, and the end is reached
abbrev pub stops : Outcome → SenderMove
stops o = goes (Ended o) (stop_frame ∷ [])

-- the line: size, CRC of the whole file, stamp, `?` if resume is possible, name
abbrev pub line_by : SenderSettings → List ℕ → Announce → Element
line_by s file Basic = basic s.size
line_by s file (Extended stamp resumes reading) = extended s.size (crc_by reading file) stamp resumes s.name

abbrev pub line_of : SenderSettings → List ℕ → List ℕ
line_of s file = bytes_in (form_of (line_by s file s.announce))

-- the file goes on at n; after the last byte it ends, at once if none is left
unfoldable pub sends_from : List ℕ → ℕ → SenderState
sends_from file n = pick (leb (length file) n) (Ended Success) (Send n)

-- leave: the first sends the line; while waiting it changes nothing; then each sends the next frame
unfoldable pub sender_transmits : SenderSettings → List ℕ → SenderState → SenderMove
sender_transmits s file Start = goes Wait (line_of s file ∷ [])
sender_transmits s file Wait = goes Wait []
sender_transmits s file (Send n) =
    goes (sends_from file (n + length (cut s.block (drop n file)))) (cut s.block (drop n file) ∷ [])
sender_transmits s file (Ended o) = goes (Ended o) []

-- whether `?` was sent, a kept count is not over the size, and a CRC is that of the sender's own beginning
abbrev pub is_ours : SenderSettings → List ℕ → Announce → ℕ → ℕ → Bool
is_ours s file Basic kept crc = false
is_ours s file (Extended stamp resumes reading) kept crc =
    resumes && (leb kept s.size && eqb (crc_by reading (take kept file)) crc)

-- the third OK: a kept count over the size, a CRC unlike that of the sender's own beginning, or where no `?` was sent, is 16
unfoldable pub resumes_at : SenderSettings → List ℕ → ℕ → ℕ → SenderMove
resumes_at s file kept crc =
    pick (is_ours s file s.announce kept crc) (goes (sends_from file kept) []) (stops NotOurs)

-- while waiting: `#NO#` is 14, stop is 15, a malformed OK is 7 with its place; others not starting `#OK#` are ignored
unfoldable pub sender_hears : SenderSettings → List ℕ → Element → SenderMove
sender_hears s file (basic size) = goes Wait []
sender_hears s file (extended size crc stamp resumable name) = goes Wait []
sender_hears s file (malformed_line f) = goes Wait []
sender_hears s file ok = goes (sends_from file 0) []
sender_hears s file (ok_name name) = goes (sends_from file 0) []
sender_hears s file (ok_kept name kept crc) = resumes_at s file kept crc
sender_hears s file (malformed_ok f) = stops (Malformed f)
sender_hears s file (no text) = goes (Ended Refused) []
sender_hears s file stop = goes (Ended Cancelled) []
sender_hears s file (display text) = goes Wait []
sender_hears s file other = goes Wait []

-- while it sends, a stop frame ends it (15) and other frames are ignored
unfoldable pub sender_sends : ℕ → List ℕ → SenderMove
sender_sends n f = pick (same stop_frame f) (goes (Ended Cancelled) []) (goes (Send n) [])

-- a frame has come; an empty one changes nothing, and neither does one before the first leave
unfoldable pub sender_takes : SenderSettings → List ℕ → SenderState → List ℕ → SenderMove
sender_takes s file st [] = goes st []
sender_takes s file Start (x ∷ f) = goes Start []
sender_takes s file Wait (x ∷ f) = sender_hears s file (heard (x ∷ f))
sender_takes s file (Send n) (x ∷ f) = sender_sends n (x ∷ f)
sender_takes s file (Ended o) (x ∷ f) = goes (Ended o) []

-- timer or operator's stop before the end sends the stop frame and ends
unfoldable pub sender_fails : Outcome → SenderState → SenderMove
sender_fails o Start = stops o
sender_fails o Wait = stops o
sender_fails o (Send n) = stops o
sender_fails o (Ended e) = goes (Ended e) []

abbrev pub sender_ended : SenderState → Bool
sender_ended Start = false
sender_ended Wait = false
sender_ended (Send n) = false
sender_ended (Ended o) = true

-- ---- the receiver

pub record ReceiverSettings : Type 0 where
  pub room : ℕ
  pub resumes : Bool
  pub reading : Reading

-- where a receiver goes: its state, its record, the area, the frames that it sends, how many bytes it stored
pub record ReceiverMove : Type 0 where
  pub state : ReceiverState
  pub saved : Option Saved
  pub area : List ℕ
  pub out : List (List ℕ)
  pub stored : ℕ

abbrev pub answers : ReceiverState → Option Saved → List ℕ → List (List ℕ) → ℕ → ReceiverMove
answers st v a l n = record { state = st; saved = v; area = a; out = l; stored = n }

abbrev pub says : Element → List (List ℕ)
says e = bytes_in (form_of e) ∷ []

-- `#NO#` and the end; the record stands
abbrev pub refuses : Option Saved → List ℕ → Outcome → List ℕ → ReceiverMove
refuses v a o text = answers (Over o) v a (says (no text)) 0

-- n bytes were stored, and reply is what is said. At the announced size it ends, and the whole CRC must agree: else it is 11, the stop
-- frame goes out in place of the reply, and there is no record any more
unfoldable pub judge_whole : Reading → ℕ → Option Saved → List ℕ → List (List ℕ) → ℕ → ReceiverMove
judge_whole reading crc v a reply n =
    pick (eqb (kept_of v) (size_of v))
    (pick (eqb (crc_by reading (take (size_of v) a)) crc) (answers (Over Success) v a reply n)
    (answers (Over CheckFailed) None a (stop_frame ∷ []) n))
    (answers (Takes crc) v a reply n)

-- an extended line: a record, and no `?` or resume off, is 9; another name or size is 10; a matching record is answered with the third OK
-- and the CRC of the kept bytes; otherwise the second OK
unfoldable pub judge_record : ReceiverSettings → Option Saved → List ℕ → ℕ → ℕ → ℕ → Bool → List ℕ → ReceiverMove
judge_record t None a size crc stamp resumable name =
    judge_whole t.reading crc (Some (record { size = size; kept = 0; stamp = Some stamp; name = name })) a (says (ok_name name)) 0
judge_record t (Some v) a size crc stamp resumable name =
    pick (resumable && t.resumes)
    (pick (same v.name name && eqb v.size size)
    (judge_whole t.reading crc (Some (record { size = size; kept = v.kept; stamp = Some stamp; name = name })) a
    (says (ok_kept name v.kept (crc_by t.reading (take v.kept a)))) 0)
    (refuses (Some v) a Differs differs_text))
    (refuses (Some v) a HaveFile have_text)

unfoldable pub judge_extended : ReceiverSettings → Option Saved → List ℕ → ℕ → ℕ → ℕ → Bool → List ℕ → ReceiverMove
judge_extended t v a size crc stamp resumable name =
    pick (leb size t.room) (judge_record t v a size crc stamp resumable name) (refuses v a NoRoom room_text)

-- a basic transfer has no name and makes no record; n bytes were stored, and at the announced size it ends
unfoldable pub basic_at : ℕ → ℕ → Option Saved → List ℕ → List (List ℕ) → ℕ → ReceiverMove
basic_at size kept v a reply n =
    pick (eqb kept size) (answers (Over Success) v a reply n) (answers (TakesBasic size kept) v a reply n)

abbrev pub basic_over : Option Saved → List ℕ → ℕ → ReceiverMove
basic_over None a size = basic_at size 0 None a (says ok) 0
basic_over (Some v) a size = refuses (Some v) a HaveFile have_text

-- a basic line: with a record it is 9; else the first OK
unfoldable pub judge_basic : ReceiverSettings → Option Saved → List ℕ → ℕ → ReceiverMove
judge_basic t v a size = pick (leb size t.room) (basic_over v a size) (refuses v a NoRoom room_text)

-- while it waits, frames not starting with `#BIN#` are ignored; a malformed line is 71 to 76 or 7 with its place
unfoldable pub receiver_hears : ReceiverSettings → Option Saved → List ℕ → Element → ReceiverMove
receiver_hears t v a (basic size) = judge_basic t v a size
receiver_hears t v a (extended size crc stamp resumable name) = judge_extended t v a size crc stamp resumable name
receiver_hears t v a (malformed_line f) = refuses v a (Malformed f) format_text
receiver_hears t v a ok = answers Waiting v a [] 0
receiver_hears t v a (ok_name name) = answers Waiting v a [] 0
receiver_hears t v a (ok_kept name kept crc) = answers Waiting v a [] 0
receiver_hears t v a (malformed_ok f) = answers Waiting v a [] 0
receiver_hears t v a (no text) = answers Waiting v a [] 0
receiver_hears t v a stop = answers Waiting v a [] 0
receiver_hears t v a (display text) = answers Waiting v a [] 0
receiver_hears t v a other = answers Waiting v a [] 0

-- once a line is accepted: frames starting `SP\-` are for display; a whole frame equal to the stop frame ends (15); all others are file.
-- `file` says what a frame of the file does
abbrev pub sorted : ReceiverState → Option Saved → List ℕ → List ℕ → ReceiverMove → ReceiverMove
sorted st v a f file =
    pick (starts display_mark f) (answers st v a [] 0) (pick (same stop_frame f) (answers (Over Cancelled) v a [] 0) file)

-- stored directly behind the kept bytes and counted as kept in the same step; a frame past the size stores nothing (12)
unfoldable pub takes_frame : Reading → ℕ → Option Saved → List ℕ → List ℕ → ReceiverMove
takes_frame reading crc v a f =
    pick (leb (kept_of v + length f) (size_of v))
    (judge_whole reading crc (grown v (length f)) (appended (kept_of v) f a) [] (length f))
    (answers (Over PastSize) v a (stop_frame ∷ []) 0)

unfoldable pub takes_basic_frame : ℕ → ℕ → Option Saved → List ℕ → List ℕ → ReceiverMove
takes_basic_frame size kept v a f =
    pick (leb (kept + length f) size) (basic_at size (kept + length f) v (appended kept f a) [] (length f))
    (answers (Over PastSize) v a (stop_frame ∷ []) 0)

-- a frame has come; an empty one changes nothing
unfoldable pub receiver_takes : ReceiverSettings → ReceiverState → Option Saved → List ℕ → List ℕ → ReceiverMove
receiver_takes t st v a [] = answers st v a [] 0
receiver_takes t Waiting v a (x ∷ f) = receiver_hears t v a (heard (x ∷ f))
receiver_takes t (TakesBasic size kept) v a (x ∷ f) =
    sorted (TakesBasic size kept) v a (x ∷ f) (takes_basic_frame size kept v a (x ∷ f))
receiver_takes t (Takes crc) v a (x ∷ f) = sorted (Takes crc) v a (x ∷ f) (takes_frame t.reading crc v a (x ∷ f))
receiver_takes t (Over o) v a (x ∷ f) = answers (Over o) v a [] 0

-- timer or operator's stop before the end sends the stop frame and ends
unfoldable pub receiver_fails : Outcome → ReceiverState → Option Saved → List ℕ → ReceiverMove
receiver_fails o Waiting v a = answers (Over o) v a (stop_frame ∷ []) 0
receiver_fails o (TakesBasic size kept) v a = answers (Over o) v a (stop_frame ∷ []) 0
receiver_fails o (Takes crc) v a = answers (Over o) v a (stop_frame ∷ []) 0
receiver_fails o (Over e) v a = answers (Over e) v a [] 0

abbrev pub receiver_ended : ReceiverState → Bool
receiver_ended Waiting = false
receiver_ended (TakesBasic size kept) = false
receiver_ended (Takes crc) = false
receiver_ended (Over o) = true
