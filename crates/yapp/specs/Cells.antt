-- Only contracts of private functions cite this.
-- Which cell of the two tables has an action's number: which row is a state's, and which column a kind's.
use Rattle.std.specs.Prelude.{ℕ, true, false, ltb}
use Rattle.fields.specs.Pick.{pick}
use Rattle.packets.specs.Kind.{Unreadable}
use Rattle.yapp.specs.declared.SenderState.{SenderState}
use Rattle.yapp.specs.declared.SenderState.TheVariants.{S, SH, SD, SE, ST, CW, Ended}
use Rattle.yapp.specs.declared.ReceiverState.{ReceiverState}
use Rattle.yapp.specs.declared.ReceiverState.TheVariants.{R, RH, RD, CW as RCW, Ended as REnded}

-- how many kinds there are: RR to TX, a malformed HD, unreadable bytes, an unfinished packet
abbrev pub kinds : ℕ
kinds = 19

-- which row of the send table is a state's
unfoldable pub sender_number : SenderState → ℕ
sender_number (S begun timeouts) = 0
sender_number SH = 1
sender_number (SD n) = 2
sender_number SE = 3
sender_number ST = 4
sender_number (CW o) = 5
sender_number (Ended o) = 6

-- which row of the receive table is a state's; RH has one without a file and one with a file
unfoldable pub receiver_number : ReceiverState → ℕ
receiver_number R = 0
receiver_number (RH false) = 1
receiver_number (RH true) = 2
receiver_number RD = 3
receiver_number (RCW o) = 4
receiver_number (REnded o) = 5

-- where a kind stands in a row; a number that is no kind stands for unreadable bytes, which no row names
abbrev pub column_of : ℕ → ℕ
column_of k = pick (ltb k kinds) k Unreadable
