-- The sender of #BIN#: its beginnings, and what each call answers and leaves. (Document 01, "Lines of #BIN#", "Numbers that refuse or end".)
use Rattle.calls.specs.declared.Refusal.{Refusal}
use Rattle.std.specs.Prelude.{ℕ, Bool, ◌&&◌, List, [], length, take, replicate, leb, Ok, Result}
use Rattle.fields.specs.Pick.{pick}
use Rattle.fields.specs.Name.{is_name}
use Rattle.fields.specs.Buffer.{over, appended}
use Rattle.calls.specs.declared.Outcome.{Outcome}
use Rattle.calls.specs.declared.Outcome.TheVariants.{NameOutside, LengthOutside, BlockOutside, TimedOut, Stopped}
use Rattle.calls.specs.Checks.{check_of, unless}
use Rattle.crc.specs.declared.Reading.{Reading}
use Rattle.bin.specs.declared.Announce.{Announce}
use Rattle.bin.specs.declared.Announce.TheVariants.{Basic, Extended}
use Rattle.bin.specs.declared.SenderState.{SenderState}
use Rattle.bin.specs.declared.SenderState.TheVariants.{Start, Ended}
use Rattle.bin_sender.specs.declared.Sender.{Sender}
use Rattle.bin_sender.specs.declared.SenderAnswer.{SenderAnswer}
use Rattle.bin.specs.Steps.{joined, SenderSettings, SenderMove, sender_takes, sender_transmits, sender_fails, sender_ended}

-- ---- the beginnings: 3, 4, 5 in this order

-- a sender in a state; the name stands at the front of its array
abbrev pub sender_with : SenderState → Announce → List ℕ → ℕ → ℕ → Sender
sender_with st announce name size block = record {
  name = appended 0 name (replicate 64 0);
  core = record { state = st; announce = announce; named = length name; size = size; block = block };
}

-- a beginning that is refused: a sender that has ended
abbrev pub refused_begin : Outcome → Sender
refused_begin o = sender_with (Ended o) Basic [] 0 0

-- the limits of size (4) and block (5), once the name is within its own (3)
abbrev pub within : Announce → List ℕ → ℕ → ℕ → Sender
within announce name size block =
    pick (leb size 99999999)
    (pick (leb 1 block && leb block 256) (sender_with Start announce name size block) (refused_begin BlockOutside))
    (refused_begin LengthOutside)

-- a basic transfer has no name
unfoldable pub begin_basic : ℕ → ℕ → Sender
begin_basic size block = within Basic [] size block

-- an extended transfer; resumes says whether `?` is sent, and the session is set to a reading of the CRC (request 2026-06)
unfoldable pub begin : List ℕ → ℕ → ℕ → ℕ → Bool → Reading → Sender
begin name size block stamp resumes reading =
    pick (is_name name) (within (Extended stamp resumes reading) name size block) (refused_begin NameOutside)

-- ---- the calls

-- what a call leaves: its answer, and every byte of the reply buffer
pub record SenderAfter : Type 0 where
  pub answer : SenderAnswer
  pub reply : List ℕ

-- a block is 1 to 256 bytes; no beginning gives a longer one, and it would count as 256
abbrev pub block_of : ℕ → ℕ
block_of block = pick (leb block 256) block 256

-- what a sender was begun with, as `bin` has it
abbrev pub settings_of : Sender → SenderSettings
settings_of m = record {
  announce = m.core.announce;
  name = take m.core.named m.name;
  size = m.core.size;
  block = block_of m.core.block;
}

-- a refused call changes nothing anywhere
abbrev pub refused_call : Sender → Result (Unit {0}) Refusal → List ℕ → SenderAfter
refused_call m s reply = record { answer = record { sender = m; status = s; sent = 0 }; reply = reply }

-- the frame that is sent stands at the front of the reply buffer
abbrev pub replied : Sender → SenderMove → List ℕ → SenderAfter
replied m a reply = record {
  answer = record {
    sender = record {
      name = m.name;
      core = record {
        state = a.state;
        announce = m.core.announce;
        named = m.core.named;
        size = m.core.size;
        block = m.core.block;
      };
    };
    status = (Ok tt);
    sent = length (joined a.out);
  };
  reply = over 0 (joined a.out) reply;
}

-- the checks of a call, with a frame of so many bytes
abbrev pub status_of : Sender → ℕ → List ℕ → List ℕ → Result (Unit {0}) Refusal
status_of m frame file reply = check_of (sender_ended m.core.state) (length reply) frame (length file) m.core.size

abbrev pub unless_refused : Result (Unit {0}) Refusal → Sender → List ℕ → SenderAfter → SenderAfter
unless_refused s m reply after = unless s (λ (x : Result (Unit {0}) Refusal). refused_call m x reply) after

-- what a call leaves that makes the move a where it is taken; frame is how many bytes have come with it
abbrev pub answered : Sender → ℕ → List ℕ → List ℕ → SenderMove → SenderAfter
answered m frame file reply a = unless_refused (status_of m frame file reply) m reply (replied m a reply)

-- a chance to send (leave)
unfoldable pub transmit : Sender → List ℕ → List ℕ → SenderAfter
transmit m file reply = answered m 0 file reply (sender_transmits (settings_of m) file m.core.state)

-- a frame has arrived
unfoldable pub receive : Sender → List ℕ → List ℕ → List ℕ → SenderAfter
receive m frame file reply = answered m (length frame) file reply (sender_takes (settings_of m) file m.core.state frame)

-- timer or operator's stop, by its number
abbrev pub fail : Outcome → Sender → List ℕ → List ℕ → SenderAfter
fail o m file reply = answered m 0 file reply (sender_fails o m.core.state)

-- the timer ran out
unfoldable pub timeout : Sender → List ℕ → List ℕ → SenderAfter
timeout m file reply = fail TimedOut m file reply

-- the operator's stop
unfoldable pub cancel : Sender → List ℕ → List ℕ → SenderAfter
cancel m file reply = fail Stopped m file reply
