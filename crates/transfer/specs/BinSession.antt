-- A session of #BIN# over the program's link: what its ends do in a turn, the beginning, and what is left at the end. The reply buffers are 259 zeros each time.
use Rattle.std.specs.Prelude.{ℕ, ◌&&◌, Bool, true, false, List, codes, length, take, replicate, eqb, Result}
use Rattle.fields.specs.Pick.{pick}
use Rattle.calls.specs.Recording.{record_answer, record_left}
use Rattle.lines.specs.Frame.{frame_of}
use Rattle.bin.specs.declared.SenderState.{SenderState}
use Rattle.bin.specs.declared.SenderState.TheVariants.{Start, Wait, Send, Ended as SenderEnded}
use Rattle.bin.specs.declared.ReceiverState.{ReceiverState}
use Rattle.bin.specs.declared.ReceiverState.TheVariants.{Waiting, Basic, Extended, Ended}
use Rattle.bin.specs.Steps.{sender_ended, receiver_ended}
use Rattle.bin_sender.specs.declared.Sender.{Sender}
use Rattle.crc.specs.declared.Reading.TheVariants.{Bare}
use Rattle.bin_sender.specs.Sender.{SenderAfter, begin as begin_sender, transmit, receive as sender_receives}
use Rattle.bin_receiver.specs.declared.Receiver.{Receiver}
use Rattle.bin_receiver.specs.Receiver.{ReceiverAfter, fresh, resume, receive as receiver_receives, timeout, record_by}
use Rattle.calls.specs.Count.{record_count}
use Rattle.transfer.specs.Link.{file_stamp, whole, is_success as outcome_is_success}
use Rattle.transfer.specs.Words.{frame_word}
use Rattle.transfer.specs.Session.{Sent, Taken, turn, is_over, saved_at, Answered}
use Rattle.transfer.specs.declared.link.Saved.{Saved}
use Rattle.transfer.specs.declared.bin_link.BinEnds.{BinEnds}

-- ---- a turn

-- the sender takes what came of the receiver's answer; where there was none, it has its chance to send
abbrev pub sends : Sender → ℕ → List ℕ → List ℕ → List ℕ → SenderAfter
sends m answered came file reply = pick (eqb answered 0) (transmit m file reply) (sender_receives m came file reply)

abbrev pub sent_by : Receiver → SenderAfter → Sent BinEnds
sent_by m s = record { ends = record { sender = s.answer.sender; receiver = m }; count = s.answer.sent; bytes = s.reply }

unfoldable pub sent : BinEnds → ℕ → List ℕ → List ℕ → Sent BinEnds
sent e answered came file = sent_by e.receiver (sends e.sender answered came file (replicate 259 0))

-- the receiver takes what came of what the sender sent
abbrev pub taken_by : Sender → ReceiverAfter → Taken BinEnds
taken_by m r = record { ends = record { sender = m; receiver = r.answer.receiver }; count = r.answer.sent; bytes = r.reply; area = r.area }

unfoldable pub taken : BinEnds → List ℕ → List ℕ → Taken BinEnds
taken e came area = taken_by e.sender (receiver_receives e.receiver came area (replicate 259 0))

-- ---- the beginning

-- from the record that the session before left, if any
abbrev pub receiver_of : Saved → ℕ → Receiver
receiver_of before room = pick (eqb before.count 0) (fresh room true Bare) (resume (take before.count before.bytes) room true Bare)

-- blocks of 256 bytes, a line with date and time, document 01's reading of the CRC, and both ends resume
unfoldable pub begin : Saved → List ℕ → ℕ → ℕ → BinEnds
begin before name size room = record {
  sender = begin_sender name size 256 file_stamp true Bare;
  receiver = receiver_of before room;
}

-- ---- the words of what is sent and of what is answered, which a line shows

-- in the midst of the file all is data
abbrev pub word_in : SenderState → List ℕ → List ℕ
word_in Start b = frame_word (frame_of b)
word_in Wait b = frame_word (frame_of b)
word_in (Send at) b = codes "data"
word_in (SenderEnded o) b = frame_word (frame_of b)

abbrev pub sent_word : BinEnds → List ℕ → List ℕ
sent_word e b = word_in e.sender.core.state b

abbrev pub answer_word : List ℕ → List ℕ
answer_word b = frame_word (frame_of b)

-- ---- the end

-- both ends have ended
unfoldable pub have_ended : BinEnds → Bool
have_ended e = receiver_ended e.receiver.core.state && sender_ended e.sender.core.state

-- the receiver has ended with success
abbrev pub is_success : ReceiverState → Bool
is_success Waiting = false
is_success (Basic size kept) = false
is_success (Extended crc) = false
is_success (Ended o) = outcome_is_success o

-- a receiver's record, and whether it ended with success
abbrev pub saved_of : Receiver → Saved
saved_of m = record {
  bytes = record_left (record_by m) (replicate 81 0);
  count = record_count (record_answer (record_by m) (replicate 81 0));
  whole = is_success m.core.state;
}

-- the timer of a receiver whose link is broken runs out
unfoldable pub saved_after : Receiver → List ℕ → Saved
saved_after m area = saved_of (timeout m area (replicate 259 0)).answer.receiver

-- a session from what the one before left; the link carries a frame whole or not at all
abbrev pub Session : {F : Type 0} → Saved → List ℕ → ℕ → List ℕ → List ℕ → Result Saved F → List ℕ → Type 0
Session before name bytes file area result kept =
    Answered (turn sent taken file) (is_over have_ended) (saved_at (λ e. saved_after e.receiver))
    (record { ends = begin before name (length file) (length area); link = whole bytes true; area = area }) result kept
