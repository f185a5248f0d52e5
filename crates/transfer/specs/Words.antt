-- The words and lines of the transcript.
use Rattle.std.specs.Prelude.{ℕ, Bool, true, List, [], ◌++◌, codes, ltb, eqb, Option, None, Some}
use Rattle.std.specs.Fmt.{decimal}
use Rattle.fields.specs.Pick.{pick}
use Rattle.fields.specs.Lists.{same}
use Rattle.fields.specs.declared.Flaw.{Flaw}
use Rattle.fields.specs.declared.Flaw.TheVariants.{NameOpen, NameLength, NameByte, NoDigits, ManyDigits, SizeOpen, Other}
use Rattle.packets.specs.declared.Packet.{Packet}
use Rattle.packets.specs.declared.Packet.TheVariants.{RR, RF, AF, AT, CA, RT, SI, RI, HD, DT, EF, ET, NR, RE, CN, TX, Malformed as MalformedHeader, Dropped, Open}
use Rattle.lines.specs.declared.Frame.{Frame}
use Rattle.lines.specs.declared.Frame.TheVariants.{Basic as BasicLine, Extended as ExtendedLine, MalformedLine, OK, OKName, OKKept, MalformedOK, NO, Stop, Display, Other as OtherFrame}
use Rattle.calls.specs.Numbers.{outcome_number}
use Rattle.calls.specs.declared.Outcome.{Outcome}
use Rattle.calls.specs.declared.Outcome.TheVariants.{Success, RecordUnreadable, RecordOver, NameOutside, LengthOutside, BlockOutside, Unexpected, Malformed, NoRoom, HaveFile, Differs, CheckFailed, PastSize, Short, Refused, Cancelled, NotOurs, TimedOut, SecondFile, Stopped}
use Rattle.yapp.specs.declared.SenderState.{SenderState}
use Rattle.yapp.specs.declared.SenderState.TheVariants.{S, SH, SD, SE, ST, CW, Ended}
use Rattle.yapp.specs.declared.ReceiverState.{ReceiverState}
use Rattle.yapp.specs.declared.ReceiverState.TheVariants.{R, RH, RD, CW as ReceiverCW, Ended as ReceiverEnded}
use Rattle.bin.specs.declared.SenderState.{SenderState as BinSenderState}
use Rattle.bin.specs.declared.SenderState.TheVariants.{Start, Wait, Send, Ended as BinSenderEnded}
use Rattle.bin.specs.declared.ReceiverState.{ReceiverState as BinReceiverState}
use Rattle.bin.specs.declared.ReceiverState.TheVariants.{Waiting, Basic, Extended, Ended as BinReceiverEnded}
use Rattle.transfer.specs.declared.text.End.{End}
use Rattle.transfer.specs.declared.text.End.TheVariants.{Sender, Receiver}

-- ---- the two ends

-- how the line of its step begins
abbrev pub head : End → List ℕ
head Sender = codes "    sender "
head Receiver = codes "    receiver "

-- which way its bytes go
abbrev pub arrow : End → List ℕ
arrow Sender = codes "> "
arrow Receiver = codes "< "

-- ---- the states of the four ends: their words, with a comma where an outcome follows, and how one ended or aborted

abbrev pub sender_word : SenderState → List ℕ
sender_word (S begun timeouts) = codes "S"
sender_word SH = codes "SH"
sender_word (SD at) = codes "SD"
sender_word SE = codes "SE"
sender_word ST = codes "ST"
sender_word (CW o) = codes "CW, "
sender_word (Ended o) = codes "ended, "

abbrev pub sender_outcome : SenderState → Option Outcome
sender_outcome (S begun timeouts) = None
sender_outcome SH = None
sender_outcome (SD at) = None
sender_outcome SE = None
sender_outcome ST = None
sender_outcome (CW o) = Some o
sender_outcome (Ended o) = Some o

abbrev pub receiver_word : ReceiverState → List ℕ
receiver_word R = codes "R"
receiver_word (RH whole) = codes "RH"
receiver_word RD = codes "RD"
receiver_word (ReceiverCW o) = codes "CW, "
receiver_word (ReceiverEnded o) = codes "ended, "

abbrev pub receiver_outcome : ReceiverState → Option Outcome
receiver_outcome R = None
receiver_outcome (RH whole) = None
receiver_outcome RD = None
receiver_outcome (ReceiverCW o) = Some o
receiver_outcome (ReceiverEnded o) = Some o

abbrev pub bin_sender_word : BinSenderState → List ℕ
bin_sender_word Start = codes "start"
bin_sender_word Wait = codes "wait"
bin_sender_word (Send at) = codes "send"
bin_sender_word (BinSenderEnded o) = codes "ended, "

abbrev pub bin_sender_outcome : BinSenderState → Option Outcome
bin_sender_outcome Start = None
bin_sender_outcome Wait = None
bin_sender_outcome (Send at) = None
bin_sender_outcome (BinSenderEnded o) = Some o

abbrev pub bin_receiver_word : BinReceiverState → List ℕ
bin_receiver_word Waiting = codes "waiting"
bin_receiver_word (Basic size kept) = codes "basic"
bin_receiver_word (Extended crc) = codes "extended"
bin_receiver_word (BinReceiverEnded o) = codes "ended, "

abbrev pub bin_receiver_outcome : BinReceiverState → Option Outcome
bin_receiver_outcome Waiting = None
bin_receiver_outcome (Basic size kept) = None
bin_receiver_outcome (Extended crc) = None
bin_receiver_outcome (BinReceiverEnded o) = Some o

-- ---- what is sent

abbrev pub packet_word : Packet → List ℕ
packet_word RR = codes "RR"
packet_word RF = codes "RF"
packet_word AF = codes "AF"
packet_word AT = codes "AT"
packet_word CA = codes "CA"
packet_word RT = codes "RT"
packet_word SI = codes "SI"
packet_word (RI p) = codes "RI"
packet_word (HD h) = codes "HD"
packet_word (DT b) = codes "DT"
packet_word EF = codes "EF"
packet_word ET = codes "ET"
packet_word (NR p) = codes "NR"
packet_word (RE r) = codes "RE"
packet_word (CN p) = codes "CN"
packet_word (TX p) = codes "TX"
packet_word (MalformedHeader f) = codes "malformed HD"
packet_word (Dropped n) = codes "unreadable"
packet_word Open = codes "unfinished"

-- a frame that is not of the file
abbrev pub frame_word : Frame → List ℕ
frame_word (BasicLine size) = codes "line"
frame_word (ExtendedLine line) = codes "line"
frame_word (MalformedLine fault) = codes "malformed line"
frame_word OK = codes "OK"
frame_word (OKName name) = codes "OK with name"
frame_word (OKKept kept) = codes "OK with kept count"
frame_word (MalformedOK fault) = codes "malformed OK"
frame_word (NO text) = codes "NO"
frame_word Stop = codes "stop"
frame_word (Display text) = codes "display"
frame_word OtherFrame = codes "other"

-- ---- outcomes

abbrev pub flaw_words : Flaw → List ℕ
flaw_words NameOpen = codes "no closing byte behind the name"
flaw_words NameLength = codes "name empty or too long"
flaw_words NameByte = codes "forbidden byte in the name"
flaw_words NoDigits = codes "no digits"
flaw_words ManyDigits = codes "too many digits"
flaw_words SizeOpen = codes "no closing bytes behind the size"
flaw_words Other = codes "line or OK malformed"

abbrev pub outcome_words : Outcome → List ℕ
outcome_words Success = codes "success"
outcome_words RecordUnreadable = codes "record unreadable"
outcome_words RecordOver = codes "record over its limits"
outcome_words NameOutside = codes "name outside the limits"
outcome_words LengthOutside = codes "file length outside the limits"
outcome_words BlockOutside = codes "block outside the limits"
outcome_words Unexpected = codes "packet unexpected or unreadable"
outcome_words (Malformed f) = flaw_words f.flaw
outcome_words NoRoom = codes "file larger than the area"
outcome_words HaveFile = codes "record without resume"
outcome_words Differs = codes "record of another file"
outcome_words CheckFailed = codes "checksum or CRC disagrees"
outcome_words PastSize = codes "data past the announced size"
outcome_words Short = codes "end before the announced size"
outcome_words Refused = codes "refused by the far end"
outcome_words Cancelled = codes "cancelled by the far end"
outcome_words NotOurs = codes "resume not ours"
outcome_words TimedOut = codes "timer ran out"
outcome_words SecondFile = codes "second file"
outcome_words Stopped = codes "stopped by the operator"

-- ---- the lines

abbrev pub outcome_text : Option Outcome → List ℕ
outcome_text None = []
outcome_text (Some o) = decimal (outcome_number o) ++ (codes " " ++ outcome_words o)

-- a state by its word, and its outcome where it has one
abbrev pub state_text : List ℕ → Option Outcome → List ℕ
state_text word outcome = word ++ outcome_text outcome

-- an end's step from one state to another
abbrev pub move_text : End → List ℕ → Option Outcome → List ℕ → Option Outcome → List ℕ
move_text end before had after has = head end ++ (state_text before had ++ (codes " to " ++ (state_text after has ++ codes "\n")))

-- none where the word stays
abbrev pub step_text : End → List ℕ → Option Outcome → List ℕ → Option Outcome → List ℕ
step_text end before had after has = pick (same before after) [] (move_text end before had after has)

-- where the link breaks, if not all of the bytes pass
abbrev pub break_text : ℕ → ℕ → List ℕ
break_text count passed = pick (ltb passed count) (codes ", the link breaks after " ++ decimal passed) []

-- what an end sends, if it has any bytes
abbrev pub sent_text : End → List ℕ → ℕ → ℕ → List ℕ
sent_text end word count passed =
    pick (eqb count 0) []
    (arrow end ++ (word ++ (codes " " ++ (decimal count ++ (codes " bytes" ++ (break_text count passed ++ codes "\n"))))))
