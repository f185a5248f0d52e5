-- The receiver of #BIN#: its beginnings, and what each call answers and leaves. (Document 01, "Lines of #BIN#", "The saved record", "Numbers
-- that refuse or end".)
use Rattle.calls.specs.declared.Entry.{Entry}
use Rattle.calls.specs.declared.Refusal.{Refusal}
use Rattle.records.specs.declared.Record.{Record}
use Rattle.std.specs.Prelude.{ℕ, Bool, true, false, ◌&&◌, List, length, replicate, leb, None, Ok, Option, Result, Some}
use Rattle.fields.specs.Pick.{pick}
pub use Rattle.fields.specs.Lists.{nowhere}
use Rattle.fields.specs.Buffer.{Form, over, appended}
use Rattle.fields.specs.declared.Place.{Place}
use Rattle.lines.specs.Frame.{starts, display_mark, shown_of}
use Rattle.records.specs.Record.{record_of}
use Rattle.records.specs.Saved.{Saved, saved_of}
use Rattle.calls.specs.declared.Outcome.{Outcome}
use Rattle.calls.specs.declared.Outcome.TheVariants.{RecordUnreadable, RecordOver, TimedOut, Stopped}
use Rattle.calls.specs.Checks.{check_of, unless}
use Rattle.calls.specs.Saving.{saved_by, keeping_of, name_of, form_by}
use Rattle.crc.specs.declared.Reading.{Reading}
use Rattle.bin.specs.declared.ReceiverState.{ReceiverState}
use Rattle.bin.specs.declared.ReceiverState.TheVariants.{Waiting, Basic, Extended, Ended}
use Rattle.bin.specs.Steps.{joined, ReceiverSettings, ReceiverMove, receiver_takes, receiver_fails, receiver_ended}
use Rattle.bin_receiver.specs.declared.step.ReceiverCore.{ReceiverCore}
use Rattle.bin_receiver.specs.declared.Receiver.{Receiver}
use Rattle.bin_receiver.specs.declared.ReceiverAnswer.{ReceiverAnswer}

-- ---- the beginnings: each session is set to a reading of the CRC (request 2026-06)

-- a receiver in a state, with a record or none
abbrev pub receiver_with : ReceiverState → ℕ → Bool → Reading → Option Saved → Receiver
receiver_with st room resumes reading v = record {
  name = appended 0 (name_of v) (replicate 64 0);
  core = record { state = st; room = room; resumes = resumes; reading = reading; keeping = keeping_of v };
}

-- with no record
unfoldable pub fresh : ℕ → Bool → Reading → Receiver
fresh room resumes reading = receiver_with Waiting room resumes reading None

-- kept over size, or size over area (2)
unfoldable pub with_saved : ℕ → Bool → Reading → Saved → Receiver
with_saved room resumes reading v =
    pick (leb v.kept v.size && leb v.size room) (receiver_with Waiting room resumes reading (Some v))
    (receiver_with (Ended RecordOver) room resumes reading None)

abbrev pub resume_by : ℕ → Bool → Reading → List ℕ → Option Record → Receiver
resume_by room resumes reading b (Some r) = with_saved room resumes reading (saved_of b r)
resume_by room resumes reading b None = receiver_with (Ended RecordUnreadable) room resumes reading None

-- from a record's bytes; one that is unreadable is 1
unfoldable pub resume : List ℕ → ℕ → Bool → Reading → Receiver
resume b room resumes reading = resume_by room resumes reading b (record_of b)

-- ---- the calls

-- what a call leaves: its answer, and every byte of area and reply buffer
pub record ReceiverAfter : Type 0 where
  pub answer : ReceiverAnswer
  pub area : List ℕ
  pub reply : List ℕ

-- what a receiver was begun with, as `bin` has it
abbrev pub settings_by : ReceiverCore → ReceiverSettings
settings_by c = record { room = c.room; resumes = c.resumes; reading = c.reading }

abbrev pub settings_of : Receiver → ReceiverSettings
settings_of m = settings_by m.core

abbrev pub saved_in : Receiver → Option Saved
saved_in m = saved_by m.core.keeping m.name

-- a refused call changes nothing anywhere
abbrev pub refused_call : Receiver → Result (Unit {0}) Refusal → List ℕ → List ℕ → ReceiverAfter
refused_call m s area reply =
    record { answer = record { receiver = m; status = s; sent = 0; stored = 0; shown = nowhere }; area = area; reply = reply }

-- a call that is taken: a name is kept at the front of its array, and the frame that is sent stands at the front of the reply buffer
abbrev pub replied_with : Receiver → Place → ReceiverState → Option Entry → List ℕ → List ℕ → ℕ → List ℕ → List ℕ → ReceiverAfter
replied_with m shown st k name said stored area reply = record {
  answer = record {
    receiver = record {
      name = appended 0 name m.name;
      core = record { state = st; room = m.core.room; resumes = m.core.resumes; reading = m.core.reading; keeping = k };
    };
    status = (Ok tt);
    sent = length said;
    stored = stored;
    shown = shown;
  };
  area = area;
  reply = over 0 said reply;
}

-- by where the receiver goes
abbrev pub replied : Receiver → Place → ReceiverMove → List ℕ → ReceiverAfter
replied m shown a reply =
    replied_with m shown a.state (keeping_of a.saved) (name_of a.saved) (joined a.out) a.stored a.area reply

abbrev pub status_of : Receiver → ℕ → List ℕ → List ℕ → Result (Unit {0}) Refusal
status_of m frame area reply = check_of (receiver_ended m.core.state) (length reply) frame (length area) m.core.room

abbrev pub unless_refused : Result (Unit {0}) Refusal → Receiver → List ℕ → List ℕ → ReceiverAfter → ReceiverAfter
unless_refused s m area reply after = unless s (λ (x : Result (Unit {0}) Refusal). refused_call m x area reply) after

-- leave changes nothing
unfoldable pub transmit : Receiver → List ℕ → List ℕ → ReceiverAfter
transmit m area reply = refused_call m (status_of m 0 area reply) area reply

-- whether a line was accepted
abbrev pub is_accepted : ReceiverState → Bool
is_accepted Waiting = false
is_accepted (Basic size kept) = true
is_accepted (Extended crc) = true
is_accepted (Ended o) = false

-- text to show, in a frame for display of an accepted transfer: what stands behind `SP\-`
unfoldable pub shown_in : ReceiverState → List ℕ → Place
shown_in st f = pick (is_accepted st && starts display_mark f) (shown_of f) nowhere

-- a frame has arrived
unfoldable pub receive : Receiver → List ℕ → List ℕ → List ℕ → ReceiverAfter
receive m frame area reply =
    unless_refused (status_of m (length frame) area reply) m area reply
    (replied m (shown_in m.core.state frame) (receiver_takes (settings_of m) m.core.state (saved_in m) area frame) reply)

-- timer or operator's stop
abbrev pub fails : Outcome → Receiver → List ℕ → List ℕ → ReceiverAfter
fails o m area reply =
    unless_refused (status_of m 0 area reply) m area reply
    (replied m nowhere (receiver_fails o m.core.state (saved_in m) area) reply)

-- the timer ran out
unfoldable pub timeout : Receiver → List ℕ → List ℕ → ReceiverAfter
timeout m area reply = fails TimedOut m area reply

-- the operator's stop
unfoldable pub cancel : Receiver → List ℕ → List ℕ → ReceiverAfter
cancel m area reply = fails Stopped m area reply

-- ---- the record

-- the record's bytes, in every state; none where there is none
abbrev pub record_by : Receiver → Option Form
record_by m = form_by (saved_in m)
