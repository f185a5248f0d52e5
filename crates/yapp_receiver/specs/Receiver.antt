-- The receiver: its beginnings, and what each call answers and leaves. (Document 01, "Steps of YAPP", "The saved record", "Numbers that
-- refuse or end".)
use Rattle.calls.specs.declared.Refusal.{Refusal}
use Rattle.records.specs.declared.Record.{Record}
use Rattle.std.specs.Prelude.{ℕ, Bool, false, List, length, replicate, None, Ok, Option, Result, Some}
use Rattle.fields.specs.Pick.{pick}
use Rattle.fields.specs.Buffer.{Form, over, appended}
use Rattle.packets.specs.Content.{content_of}
use Rattle.packet_stream.specs.declared.Reader.{Reader}
use Rattle.packet_stream.specs.declared.Received.{Received}
use Rattle.packet_stream.specs.Reader.{fresh as fresh_reader, checking, receive as reads}
use Rattle.records.specs.Record.{record_of}
use Rattle.records.specs.Saved.{Saved, saved_of}
use Rattle.calls.specs.declared.Outcome.TheVariants.{RecordUnreadable, RecordOver}
use Rattle.calls.specs.Checks.{check_of, unless}
use Rattle.calls.specs.Saving.{saved_by, keeping_of, name_of, is_within, form_by}
use Rattle.yapp.specs.declared.ReceiverState.{ReceiverState}
use Rattle.yapp.specs.declared.ReceiverState.TheVariants.{R, Ended}
use Rattle.yapp.specs.Steps.{writes, ReceiverSettings, ReceiverNow, ReceiverMove, receiver_takes, receiver_times_out, receiver_cancels, receiver_ended}
use Rattle.yapp_receiver.specs.declared.step.ReceiverCore.{ReceiverCore}
use Rattle.yapp_receiver.specs.declared.Receiver.{Receiver}
use Rattle.yapp_receiver.specs.declared.ReceiverAnswer.{ReceiverAnswer}

-- ---- the beginnings

-- a receiver in a state, with a record or none
abbrev pub receiver_with : ReceiverState → ℕ → Bool → Bool → Option Saved → Receiver
receiver_with st room resumes checks v = record {
  reader = fresh_reader false;
  name = appended 0 (name_of v) (replicate 64 0);
  core = record { state = st; room = room; resumes = resumes; checks = checks; keeping = keeping_of v };
}

-- with no record
unfoldable pub fresh : ℕ → Bool → Bool → Receiver
fresh room resumes checks = receiver_with R room resumes checks None

-- kept over size, or size over area (2)
unfoldable pub with_saved : ℕ → Bool → Bool → Saved → Receiver
with_saved room resumes checks v =
    pick (is_within v.kept v.size room) (receiver_with R room resumes checks (Some v))
    (receiver_with (Ended RecordOver) room resumes checks None)

abbrev pub resume_by : ℕ → Bool → Bool → List ℕ → Option Record → Receiver
resume_by room resumes checks b (Some r) = with_saved room resumes checks (saved_of b r)
resume_by room resumes checks b None = receiver_with (Ended RecordUnreadable) room resumes checks None

-- from a record's bytes; one that is unreadable is 1
unfoldable pub resume : List ℕ → ℕ → Bool → Bool → Receiver
resume b room resumes checks = resume_by room resumes checks b (record_of b)

-- ---- the calls

-- what a call leaves: its answer, and every byte of area and reply buffer
pub record ReceiverAfter : Type 0 where
  pub answer : ReceiverAnswer
  pub area : List ℕ
  pub reply : List ℕ

-- its settings
abbrev pub settings_by : ReceiverCore → ReceiverSettings
settings_by c = record { room = c.room; resumes = c.resumes; checks = c.checks }

abbrev pub settings_of : Receiver → ReceiverSettings
settings_of m = settings_by m.core

-- what else it is: its state, whether it is in YappC, and its record, whose name stands at the front of an array
abbrev pub now_by : ReceiverCore → Bool → List ℕ → ReceiverNow
now_by c checked name = record { state = c.state; checked = checked; saved = saved_by c.keeping name }

abbrev pub now_of : Receiver → ReceiverNow
now_of m = now_by m.core m.reader.checked m.name

-- a refused call changes nothing anywhere
abbrev pub refused_call : Receiver → Result (Unit {0}) Refusal → List ℕ → List ℕ → ReceiverAfter
refused_call m s area reply =
    record { answer = record { receiver = m; status = s; taken = 0; sent = 0; stored = 0 }; area = area; reply = reply }

abbrev pub moved : Receiver → Reader → ReceiverMove → Receiver
moved m r a = record {
  reader = checking a.checked r;
  name = appended 0 (name_of a.saved) m.name;
  core = record {
    state = a.state;
    room = m.core.room;
    resumes = m.core.resumes;
    checks = m.core.checks;
    keeping = keeping_of a.saved;
  };
}

-- what is sent stands at the front of the reply buffer
abbrev pub replied : Receiver → Reader → ℕ → ReceiverMove → List ℕ → ReceiverAfter
replied m r taken a reply = record {
  answer = record {
    receiver = moved m r a;
    status = (Ok tt);
    taken = taken;
    sent = length (writes a.checked a.out);
    stored = a.stored;
  };
  area = a.area;
  reply = over 0 (writes a.checked a.out) reply;
}

abbrev pub status_of : Receiver → List ℕ → List ℕ → Result (Unit {0}) Refusal
status_of m area reply = check_of (receiver_ended m.core.state) (length reply) 0 (length area) m.core.room

abbrev pub unless_refused : Result (Unit {0}) Refusal → Receiver → List ℕ → List ℕ → ReceiverAfter → ReceiverAfter
unless_refused s m area reply after = unless s (λ (x : Result (Unit {0}) Refusal). refused_call m x area reply) after

-- leave changes nothing
unfoldable pub transmit : Receiver → List ℕ → List ℕ → ReceiverAfter
transmit m area reply = refused_call m (status_of m area reply) area reply

abbrev pub arrived : Receiver → Received → List ℕ → List ℕ → ReceiverAfter
arrived m g area reply =
    replied m g.reader g.taken (receiver_takes (settings_of m) (now_of m) area (content_of g.reader.pending g.packet)) reply

-- bytes have arrived
unfoldable pub receive : Receiver → List ℕ → List ℕ → List ℕ → ReceiverAfter
receive m chunk area reply =
    unless_refused (status_of m area reply) m area reply (arrived m (reads m.reader chunk) area reply)

-- the timer ran out
unfoldable pub timeout : Receiver → List ℕ → List ℕ → ReceiverAfter
timeout m area reply =
    unless_refused (status_of m area reply) m area reply
    (replied m m.reader 0 (receiver_times_out (now_of m) area m.core.state) reply)

-- the operator's stop
unfoldable pub cancel : Receiver → List ℕ → List ℕ → ReceiverAfter
cancel m area reply =
    unless_refused (status_of m area reply) m area reply
    (replied m m.reader 0 (receiver_cancels (now_of m) area m.core.state) reply)

-- ---- the record

-- the record's bytes, in every state; none where there is none
abbrev pub record_by : Receiver → Option Form
record_by m = form_by (now_of m).saved
