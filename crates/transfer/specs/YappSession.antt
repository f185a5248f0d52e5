-- A session of YAPP over the program's link: what its ends do in a turn, the beginning, and what is left at the end. The reply buffers are 259 zeros each time.
use Rattle.std.specs.Prelude.{ℕ, ◌&&◌, Bool, true, false, List, length, take, replicate, eqb, None, Option, Result, Some}
use Rattle.fields.specs.Pick.{pick}
use Rattle.calls.specs.Recording.{record_answer, record_left}
use Rattle.yapp.specs.declared.ReceiverState.{ReceiverState}
use Rattle.yapp.specs.declared.ReceiverState.TheVariants.{R, RH, RD, CW, Ended}
use Rattle.yapp.specs.Steps.{sender_ended, receiver_ended}
use Rattle.yapp_sender.specs.declared.Sender.{Sender}
use Rattle.yapp_sender.specs.Sender.{SenderAfter, begin as begin_sender, transmit, receive as sender_receives}
use Rattle.yapp_receiver.specs.declared.Receiver.{Receiver}
use Rattle.yapp_receiver.specs.Receiver.{ReceiverAfter, fresh, resume, receive as receiver_receives, timeout, record_by}
use Rattle.calls.specs.Count.{record_count}
use Rattle.transfer.specs.Link.{file_stamp, whole, is_success as outcome_is_success}
use Rattle.packets.specs.Packet.{packet_of}
use Rattle.transfer.specs.Words.{packet_word}
use Rattle.transfer.specs.Session.{Sent, Taken, turn, is_over, saved_at, Answered}
use Rattle.transfer.specs.declared.link.Saved.{Saved}
use Rattle.transfer.specs.declared.yapp_link.YappEnds.{YappEnds}

-- ---- a turn

-- the sender takes what came of the receiver's answer; where there was none, it has its chance to send
abbrev pub sends : Sender → ℕ → List ℕ → List ℕ → List ℕ → SenderAfter
sends m answered came file reply = pick (eqb answered 0) (transmit m file reply) (sender_receives m came file reply)

abbrev pub sent_by : Receiver → SenderAfter → Sent YappEnds
sent_by m s = record { ends = record { sender = s.answer.sender; receiver = m }; count = s.answer.sent; bytes = s.reply }

unfoldable pub sent : YappEnds → ℕ → List ℕ → List ℕ → Sent YappEnds
sent e answered came file = sent_by e.receiver (sends e.sender answered came file (replicate 259 0))

-- the receiver takes what came of what the sender sent
abbrev pub taken_by : Sender → ReceiverAfter → Taken YappEnds
taken_by m r = record { ends = record { sender = m; receiver = r.answer.receiver }; count = r.answer.sent; bytes = r.reply; area = r.area }

unfoldable pub taken : YappEnds → List ℕ → List ℕ → Taken YappEnds
taken e came area = taken_by e.sender (receiver_receives e.receiver came area (replicate 259 0))

-- ---- the beginning

-- from the record that the session before left, if any
abbrev pub receiver_of : Saved → ℕ → Bool → Receiver
receiver_of before room checks =
    pick (eqb before.count 0) (fresh room true checks) (resume (take before.count before.bytes) room true checks)

-- only YappC has a date and time
abbrev pub stamp_of : Bool → Option ℕ
stamp_of checks = pick checks (Some file_stamp) None

-- blocks of 256 bytes, and both ends resume
unfoldable pub begin : Saved → Bool → List ℕ → ℕ → ℕ → YappEnds
begin before checks name size room = record {
  sender = begin_sender name size 256 (stamp_of checks) true;
  receiver = receiver_of before room checks;
}

-- ---- the words of what is sent and of what is answered, which a line shows

abbrev pub sent_word : YappEnds → List ℕ → List ℕ
sent_word e b = packet_word (packet_of e.receiver.reader.checked b)

abbrev pub answer_word : List ℕ → List ℕ
answer_word b = packet_word (packet_of false b)

-- ---- the end

-- both ends have ended
unfoldable pub have_ended : YappEnds → Bool
have_ended e = receiver_ended e.receiver.core.state && sender_ended e.sender.core.state

-- the receiver has ended with success
abbrev pub is_success : ReceiverState → Bool
is_success R = false
is_success (RH whole) = false
is_success RD = false
is_success (CW o) = false
is_success (Ended o) = outcome_is_success o

-- a receiver's record, and whether it ended with success
abbrev pub saved_of : Receiver → Saved
saved_of m = record {
  bytes = record_left (record_by m) (replicate 81 0);
  count = record_count (record_answer (record_by m) (replicate 81 0));
  whole = is_success m.core.state;
}

-- the timer of a receiver whose link is broken ..
abbrev pub timed_out : Receiver → List ℕ → Receiver
timed_out m area = (timeout m area (replicate 259 0)).answer.receiver

-- .. runs out twice: it aborts, and ends when nothing answers
unfoldable pub saved_after : Receiver → List ℕ → Saved
saved_after m area = saved_of (timed_out (timed_out m area) area)

-- a session from what the one before left; the link carries any number of a packet's bytes
abbrev pub Session : {F : Type 0} → Saved → Bool → List ℕ → ℕ → List ℕ → List ℕ → Result Saved F → List ℕ → Type 0
Session before checks name bytes file area result kept =
    Answered (turn sent taken file) (is_over have_ended) (saved_at (λ e. saved_after e.receiver))
    (record { ends = begin before checks name (length file) (length area); link = whole bytes false; area = area }) result kept
