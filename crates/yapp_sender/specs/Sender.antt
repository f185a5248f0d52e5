-- The sender: its beginning, and what each call answers and leaves. (Document 01, "Steps of YAPP", "Numbers that refuse or end".)
use Rattle.calls.specs.declared.Refusal.{Refusal}
use Rattle.std.specs.Prelude.{ℕ, Bool, true, false, ◌&&◌, List, length, take, replicate, leb, eqb, None, Ok, Option, Result}
use Rattle.fields.specs.Pick.{pick}
use Rattle.fields.specs.Lists.{nowhere}
use Rattle.fields.specs.Name.{is_name}
use Rattle.fields.specs.Buffer.{over, appended}
use Rattle.fields.specs.declared.Place.{Place}
use Rattle.packets.specs.Span.{size_of}
use Rattle.packets.specs.Packet.{place_of}
use Rattle.packets.specs.Kind.{TX, kind_of}
use Rattle.packets.specs.Content.{Content, content_of}
use Rattle.packet_stream.specs.declared.Reader.{Reader}
use Rattle.packet_stream.specs.declared.Received.{Received}
use Rattle.packet_stream.specs.Reader.{fresh, checking, receive as reads}
use Rattle.calls.specs.declared.Outcome.{Outcome}
use Rattle.calls.specs.declared.Outcome.TheVariants.{NameOutside, LengthOutside, BlockOutside}
use Rattle.calls.specs.Checks.{check_of, unless}
use Rattle.yapp.specs.declared.SenderState.{SenderState}
use Rattle.yapp.specs.declared.SenderState.TheVariants.{S, SH, SD, SE, ST, CW, Ended}
use Rattle.yapp.specs.Steps.{writes, SenderSettings, SenderMove, sender_takes, sender_transmits, sender_times_out, sender_cancels, sender_ended}
use Rattle.yapp_sender.specs.declared.Sender.{Sender}
use Rattle.yapp_sender.specs.declared.SenderAnswer.{SenderAnswer}

-- ---- the beginning

-- a sender that has ended before it began
abbrev pub refused_begin : Outcome → Sender
refused_begin o = record {
  reader = fresh false;
  name = replicate 64 0;
  core = record { state = Ended o; named = 0; size = 0; block = 0; stamp = None; resumes = false };
}

abbrev pub begun_sender : List ℕ → ℕ → ℕ → Option ℕ → Bool → Sender
begun_sender name size block stamp resumes = record {
  reader = fresh false;
  name = appended 0 name (replicate 64 0);
  core = record { state = S false 0; named = length name; size = size; block = block; stamp = stamp; resumes = resumes };
}

-- 3, 4, 5 in this order
unfoldable pub begin : List ℕ → ℕ → ℕ → Option ℕ → Bool → Sender
begin name size block stamp resumes =
    pick (is_name name)
    (pick (leb size 99999999)
    (pick (leb 1 block && leb block 256) (begun_sender name size block stamp resumes) (refused_begin BlockOutside))
    (refused_begin LengthOutside))
    (refused_begin NameOutside)

-- ---- the calls

-- what a call leaves: its answer, and every byte of the reply buffer
pub record SenderAfter : Type 0 where
  pub answer : SenderAnswer
  pub reply : List ℕ

abbrev pub settings_of : Sender → SenderSettings
settings_of m = record {
  name = take m.core.named m.name;
  size = m.core.size;
  block = m.core.block;
  stamp = m.core.stamp;
  resumes = m.core.resumes;
}

-- a refused call changes nothing anywhere
abbrev pub refused_call : Sender → Result (Unit {0}) Refusal → List ℕ → SenderAfter
refused_call m s reply = record { answer = record { sender = m; status = s; taken = 0; sent = 0; shown = nowhere }; reply = reply }

-- the sender with another reader, state and mode
abbrev pub moved : Sender → Reader → SenderMove → Sender
moved m r a = record {
  reader = checking a.checked r;
  name = m.name;
  core = record {
    state = a.state;
    named = m.core.named;
    size = m.core.size;
    block = m.core.block;
    stamp = m.core.stamp;
    resumes = m.core.resumes;
  };
}

-- what is sent stands at the front of the reply buffer
abbrev pub replied : Sender → Reader → ℕ → Place → SenderMove → List ℕ → SenderAfter
replied m r taken shown a reply = record {
  answer = record {
    sender = moved m r a;
    status = (Ok tt);
    taken = taken;
    sent = length (writes a.checked a.out);
    shown = shown;
  };
  reply = over 0 (writes a.checked a.out) reply;
}

abbrev pub status_of : Sender → List ℕ → List ℕ → Result (Unit {0}) Refusal
status_of m file reply = check_of (sender_ended m.core.state) (length reply) 0 (length file) m.core.size

abbrev pub unless_refused : Result (Unit {0}) Refusal → Sender → List ℕ → SenderAfter → SenderAfter
unless_refused s m reply after = unless s (λ (x : Result (Unit {0}) Refusal). refused_call m x reply) after

-- a chance to send (leave)
unfoldable pub transmit : Sender → List ℕ → List ℕ → SenderAfter
transmit m file reply =
    unless_refused (status_of m file reply) m reply
    (replied m m.reader 0 nowhere (sender_transmits (settings_of m) file m.core.state m.reader.checked) reply)

-- what a reader has found
abbrev pub heard : Received → Content
heard g = content_of g.reader.pending g.packet

abbrev pub is_sd : SenderState → Bool
is_sd (S begun timeouts) = false
is_sd SH = false
is_sd (SD n) = true
is_sd SE = false
is_sd ST = false
is_sd (CW o) = false
is_sd (Ended o) = false

-- SD passes TX on for display: where the text stands in the pending bytes
unfoldable pub shown_in : SenderState → Content → Received → Place
shown_in st c g =
    pick (is_sd st && eqb (kind_of c) TX) (place_of g.reader.checked (take (size_of g.found) g.reader.pending)) nowhere

abbrev pub arrived : Sender → Received → List ℕ → SenderAfter
arrived m g reply =
    replied m g.reader g.taken (shown_in m.core.state (heard g) g)
    (sender_takes (settings_of m) m.core.state m.reader.checked (heard g)) reply

-- bytes have arrived
unfoldable pub receive : Sender → List ℕ → List ℕ → List ℕ → SenderAfter
receive m chunk file reply = unless_refused (status_of m file reply) m reply (arrived m (reads m.reader chunk) reply)

-- the timer ran out
unfoldable pub timeout : Sender → List ℕ → List ℕ → SenderAfter
timeout m file reply =
    unless_refused (status_of m file reply) m reply
    (replied m m.reader 0 nowhere (sender_times_out m.core.state m.reader.checked) reply)

-- the operator's stop
unfoldable pub cancel : Sender → List ℕ → List ℕ → SenderAfter
cancel m file reply =
    unless_refused (status_of m file reply) m reply
    (replied m m.reader 0 nowhere (sender_cancels m.core.state m.reader.checked) reply)
