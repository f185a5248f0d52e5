-- A session of #BIN# over a link that breaks, by what the two ends' calls are defined to leave. A frame that is cut is handed over as a frame.
use Rattle.std.specs.Prelude.{ℕ, true, List, length, eqb, Option, None, Some}
use Rattle.fields.specs.Pick.{pick}
use Rattle.calls.specs.declared.Outcome.{Outcome}
use Rattle.crc.specs.declared.Reading.{Reading}
use Rattle.bin.specs.declared.SenderState.{SenderState}
use Rattle.bin.specs.declared.SenderState.TheVariants.{Start, Wait, Send, Ended}
use Rattle.bin.specs.declared.ReceiverState.{ReceiverState}
use Rattle.bin.specs.declared.ReceiverState.TheVariants.{Waiting, Basic, Extended, Ended as ReceiverEnded}
use Rattle.bin_sender.specs.declared.Sender.{Sender}
use Rattle.bin_sender.specs.Sender.{SenderAfter, begin as begin_sender, transmit, receive as sender_receives}
use Rattle.bin_receiver.specs.declared.Receiver.{Receiver}
use Rattle.bin_receiver.specs.Receiver.{ReceiverAfter, fresh, resume, receive as receiver_receives, record_by}
use Rattle.run_cuts.specs.Link.{file_name, file_stamp, record_in, begin as begin_link, Sent, Taken, turn as turn_by, saved_after as saved_by, turns}
use Rattle.run_cuts.specs.declared.link.Saved.{Saved}
use Rattle.run_cuts.specs.declared.bin_link.Readings.{Readings}
use Rattle.run_cuts.specs.declared.link.Ends.{Ends}

-- ---- the beginning

-- with the record, where there is one
unfoldable pub receiver_of : Saved → Reading → Receiver
receiver_of s reading = pick (eqb s.len 0) (fresh 320 true reading) (resume (record_in s) 320 true reading)

-- the ends of a file of `size` bytes in frames of block bytes, over a link that breaks behind `bytes` bytes
unfoldable pub begin : Saved → ℕ → ℕ → Readings → ℕ → Ends Sender Receiver
begin before bytes block readings size = record {
  sender = begin_sender file_name size block file_stamp true readings.sender;
  receiver = receiver_of before readings.receiver;
  link = begin_link before bytes;
}

-- ---- a turn

-- the sender hears what came of the answer; where nothing was answered, it may send
abbrev pub send : Sender → ℕ → List ℕ → List ℕ → List ℕ → SenderAfter
send m answered heard file reply = pick (eqb answered 0) (transmit m file reply) (sender_receives m heard file reply)

-- of that, what the link goes on with
abbrev pub sent : SenderAfter → Sent Sender
sent s = record { moved = record { end = s.answer.sender; sent = s.answer.sent }; reply = s.reply }

unfoldable pub sends : Sender → ℕ → List ℕ → List ℕ → List ℕ → Sent Sender
sends m answered heard file reply = sent (send m answered heard file reply)

-- of what a call of the receiver leaves, what the link goes on with
abbrev pub taken : ReceiverAfter → Taken Receiver
taken r = record { moved = record { end = r.answer.receiver; sent = r.answer.sent }; area = r.area; reply = r.reply }

-- the receiver gets the frame, or what came of it
unfoldable pub takes : Receiver → List ℕ → List ℕ → List ℕ → Taken Receiver
takes m came area reply = taken (receiver_receives m came area reply)

-- what was answered goes over the link, and then what the sender sends
abbrev pub turn : List ℕ → Ends Sender Receiver → Ends Sender Receiver
turn file e = turn_by sends takes file e

-- ---- the end

-- how an end ended, if it has
abbrev pub sender_outcome : SenderState → Option Outcome
sender_outcome Start = None
sender_outcome Wait = None
sender_outcome (Send at) = None
sender_outcome (Ended o) = Some o

abbrev pub receiver_outcome : ReceiverState → Option Outcome
receiver_outcome Waiting = None
receiver_outcome (Basic size kept) = None
receiver_outcome (Extended crc) = None
receiver_outcome (ReceiverEnded o) = Some o

abbrev pub sender_ended : Sender → Option Outcome
sender_ended m = sender_outcome m.core.state

abbrev pub receiver_ended : Receiver → Option Outcome
receiver_ended m = receiver_outcome m.core.state

-- what the ends leave
abbrev pub saved_after : Ends Sender Receiver → Saved
saved_after e = saved_by record_by sender_ended receiver_ended e

-- what 29 turns leave
unfoldable pub session : Saved → ℕ → ℕ → Readings → List ℕ → Saved
session before bytes block readings file = saved_after (turns (turn file) 29 (begin before bytes block readings (length file)))
