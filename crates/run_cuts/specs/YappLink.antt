-- A session of YAPP over a link that breaks, by what the two ends' calls are defined to leave.
use Rattle.std.specs.Prelude.{ℕ, Bool, true, List, length, eqb, Option, None, Some}
use Rattle.fields.specs.Pick.{pick}
use Rattle.calls.specs.declared.Outcome.{Outcome}
use Rattle.yapp.specs.declared.SenderState.{SenderState}
use Rattle.yapp.specs.declared.SenderState.TheVariants.{S, SH, SD, SE, ST, CW, Ended}
use Rattle.yapp.specs.declared.ReceiverState.{ReceiverState}
use Rattle.yapp.specs.declared.ReceiverState.TheVariants.{R, RH, RD, CW as ReceiverCW, Ended as ReceiverEnded}
use Rattle.yapp_sender.specs.declared.Sender.{Sender}
use Rattle.yapp_sender.specs.Sender.{SenderAfter, begin as begin_sender, transmit, receive as sender_receives}
use Rattle.yapp_receiver.specs.declared.Receiver.{Receiver}
use Rattle.yapp_receiver.specs.Receiver.{ReceiverAfter, fresh, resume, receive as receiver_receives, record_by}
use Rattle.run_cuts.specs.Link.{file_name, file_stamp, record_in, begin as begin_link, Sent, Taken, turn as turn_by, saved_after as saved_by, turns}
use Rattle.run_cuts.specs.declared.link.Saved.{Saved}
use Rattle.run_cuts.specs.declared.link.Ends.{Ends}

-- ---- the beginning

-- with the record, where there is one
unfoldable pub receiver_of : Saved → Bool → Receiver
receiver_of s checks = pick (eqb s.len 0) (fresh 320 true checks) (resume (record_in s) 320 true checks)

-- the ends of a file of `size` bytes in blocks of 100, over a link that breaks behind `bytes` bytes
unfoldable pub begin : Saved → ℕ → Bool → ℕ → Ends Sender Receiver
begin before bytes checks size = record {
  sender = begin_sender file_name size 100 (Some file_stamp) true;
  receiver = receiver_of before checks;
  link = begin_link before bytes;
}

-- ---- a turn

-- the sender hears what came of the answer; where nothing was answered, it may send
abbrev pub send : Sender → ℕ → List ℕ → List ℕ → List ℕ → SenderAfter
send m answered heard file reply = pick (eqb answered 0) (transmit m file reply) (sender_receives m heard file reply)

-- of that, what the link goes on with
abbrev pub sent : SenderAfter → Sent Sender
sent s = record { moved = record { end = s.answer.sender; sent = s.answer.sent }; reply = s.reply }

unfoldable pub sends : Sender → ℕ → List ℕ → List ℕ → List ℕ → Sent Sender
sends m answered heard file reply = sent (send m answered heard file reply)

-- of what a call of the receiver leaves, what the link goes on with
abbrev pub taken : ReceiverAfter → Taken Receiver
taken r = record { moved = record { end = r.answer.receiver; sent = r.answer.sent }; area = r.area; reply = r.reply }

-- the receiver gets what came of what was sent
unfoldable pub takes : Receiver → List ℕ → List ℕ → List ℕ → Taken Receiver
takes m came area reply = taken (receiver_receives m came area reply)

-- what was answered goes over the link, and then what the sender sends
abbrev pub turn : List ℕ → Ends Sender Receiver → Ends Sender Receiver
turn file e = turn_by sends takes file e

-- ---- the end

-- how an end ended, if it has
abbrev pub sender_outcome : SenderState → Option Outcome
sender_outcome (S begun timeouts) = None
sender_outcome SH = None
sender_outcome (SD at) = None
sender_outcome SE = None
sender_outcome ST = None
sender_outcome (CW o) = None
sender_outcome (Ended o) = Some o

abbrev pub receiver_outcome : ReceiverState → Option Outcome
receiver_outcome R = None
receiver_outcome (RH whole) = None
receiver_outcome RD = None
receiver_outcome (ReceiverCW o) = None
receiver_outcome (ReceiverEnded o) = Some o

abbrev pub sender_ended : Sender → Option Outcome
sender_ended m = sender_outcome m.core.state

abbrev pub receiver_ended : Receiver → Option Outcome
receiver_ended m = receiver_outcome m.core.state

-- what the ends leave
abbrev pub saved_after : Ends Sender Receiver → Saved
saved_after e = saved_by record_by sender_ended receiver_ended e

-- what nine turns leave
unfoldable pub session : Saved → ℕ → Bool → List ℕ → Saved
session before bytes checks file = saved_after (turns (turn file) 9 (begin before bytes checks (length file)))
