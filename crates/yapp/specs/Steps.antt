-- What the two ends do, over packets with their bytes. (Document 01, "Steps of YAPP".)
use Rattle.std.specs.Prelude.{ℕ, ◌+◌, ◌-◌, Bool, true, false, ◌&&◌, List, [], ◌∷◌, ◌++◌, length, take, drop, ltb, leb, eqb, None, Option, Some}
use Rattle.fields.specs.Pick.{pick}
use Rattle.fields.specs.Lists.{same}
use Rattle.fields.specs.Buffer.{appended}
use Rattle.packets.specs.Content.{Content, rr, rf, af, at, ca, rt, si, ef, et, nr, cn, hd, dt, re, form_of}
use Rattle.packets.specs.Kind.{kind_of}
use Rattle.packets.specs.Data.{on_header, on_block, on_resume, fault_of}
use Rattle.records.specs.Saved.{Saved}
use Rattle.calls.specs.declared.Outcome.{Outcome}
use Rattle.calls.specs.declared.Outcome.TheVariants.{Success, Unexpected, Malformed, NoRoom, HaveFile, Differs, CheckFailed, PastSize, Short, Refused, Cancelled, NotOurs, TimedOut, SecondFile, Stopped}
pub use Rattle.fields.specs.Buffer.{bytes_in}
pub use Rattle.fields.specs.Stamps.{is_present}
pub use Rattle.calls.specs.Texts.{room_text, have_text, differs_text, one_text}
use Rattle.calls.specs.Saving.{kept_of, size_of, grown}
use Rattle.yapp.specs.declared.SenderState.{SenderState}
use Rattle.yapp.specs.declared.SenderState.TheVariants.{S, SH, SD, SE, ST, CW, Ended}
use Rattle.yapp.specs.declared.ReceiverState.{ReceiverState}
use Rattle.yapp.specs.declared.ReceiverState.TheVariants.{R, RH, RD, CW as RCW, Ended as REnded}
use Rattle.yapp.specs.Rows.{Action, nothing, abort, refused, cancelled, success, end_cw, answers, send_header, start, start_checked, resume, send_trailer, ready, trailer, judge, second, store, eof, sender_row, receiver_row}

-- ---- what is sent, as bytes

-- packets one after the other, with checksums or without
unfoldable pub writes : Bool → List Content → List ℕ
writes checked [] = []
writes checked (c ∷ l) = bytes_in (form_of checked c) ++ writes checked l

-- ---- the sender

pub record SenderSettings : Type 0 where
  pub name : List ℕ
  pub size : ℕ
  pub block : ℕ
  pub stamp : Option ℕ
  pub resumes : Bool

-- where a sender goes: its state, whether it is in YappC, what it sends
pub record SenderMove : Type 0 where
  pub state : SenderState
  pub checked : Bool
  pub out : List Content

abbrev pub sends : SenderState → Bool → List Content → SenderMove
sends st k l = record { state = st; checked = k; out = l }

-- Abort: send CN without reason, enter CW
abbrev pub aborts : Outcome → Bool → SenderMove
aborts o k = sends (CW o) k (cn [] ∷ [])

-- RE: with resume off it is not in the row (6); a position over the file size is 16
unfoldable pub sender_resumes : SenderSettings → Bool → ℕ → Bool → SenderMove
sender_resumes s k position checked =
    pick s.resumes (pick (leb position s.size) (sends (SD position) checked []) (aborts NotOurs k)) (aborts Unexpected k)

-- CW is left with the number that it was entered with
abbrev pub sender_after_cw : SenderState → SenderState
sender_after_cw (S begun timeouts) = S begun timeouts
sender_after_cw SH = SH
sender_after_cw (SD n) = SD n
sender_after_cw SE = SE
sender_after_cw ST = ST
sender_after_cw (CW o) = Ended o
sender_after_cw (Ended o) = Ended o

-- the actions of a sender; those of a receiver, which no row of a sender has, do nothing
unfoldable pub sender_does : SenderSettings → SenderState → Bool → Action → Content → SenderMove
sender_does s st k nothing c = sends st k []
sender_does s st k abort c = aborts Unexpected k
sender_does s st k refused c = sends (Ended Refused) k []
sender_does s st k cancelled c = sends (Ended Cancelled) k (ca ∷ [])
sender_does s st k success c = sends (Ended Success) k []
sender_does s st k end_cw c = sends (sender_after_cw st) k []
sender_does s st k answers c = sends st k (ca ∷ [])
sender_does s st k send_header c = sends SH k (hd s.name s.size s.stamp ∷ [])
sender_does s st k start c = sends (SD 0) false []
sender_does s st k start_checked c = sends (SD 0) true []
sender_does s st k resume c = on_resume c (sender_resumes s k) (sends st k [])
sender_does s st k send_trailer c = sends ST k (et ∷ [])
sender_does s st k ready c = sends st k []
sender_does s st k trailer c = sends st k []
sender_does s st k judge c = sends st k []
sender_does s st k second c = sends st k []
sender_does s st k store c = sends st k []
sender_does s st k eof c = sends st k []

-- a packet has come
unfoldable pub sender_takes : SenderSettings → SenderState → Bool → Content → SenderMove
sender_takes s st k c = sender_does s st k (sender_row st (kind_of c)) c

-- SD: each leave sends the next block, the shorter rest last; with nothing left it sends EF and enters SE
unfoldable pub sends_block : SenderSettings → List ℕ → ℕ → Bool → SenderMove
sends_block s file n k =
    pick (ltb n (length file))
    (sends (SD (n + length (take s.block (drop n file)))) k (dt (take s.block (drop n file)) true ∷ []))
    (sends SE k (ef ∷ []))

-- leave: the first in S gives SI, a later one nothing; outside S and SD it changes nothing
unfoldable pub sender_transmits : SenderSettings → List ℕ → SenderState → Bool → SenderMove
sender_transmits s file (S false n) k = sends (S true n) k (si ∷ [])
sender_transmits s file (SD n) k = sends_block s file n k
sender_transmits s file (S true n) k = sends (S true n) k []
sender_transmits s file SH k = sends SH k []
sender_transmits s file SE k = sends SE k []
sender_transmits s file ST k = sends ST k []
sender_transmits s file (CW o) k = sends (CW o) k []
sender_transmits s file (Ended o) k = sends (Ended o) k []

-- timer: before the first leave it changes nothing; the first three after it repeat SI, the fourth aborts; in SD it changes nothing,
-- in ST it ends as success, in CW it ends
unfoldable pub sender_times_out : SenderState → Bool → SenderMove
sender_times_out (S false n) k = sends (S false n) k []
sender_times_out (S true n) k = pick (ltb n 3) (sends (S true (n + 1)) k (si ∷ [])) (aborts TimedOut k)
sender_times_out (SD n) k = sends (SD n) k []
sender_times_out ST k = sends (Ended Success) k []
sender_times_out (CW o) k = sends (Ended o) k []
sender_times_out (Ended o) k = sends (Ended o) k []
sender_times_out SH k = aborts TimedOut k
sender_times_out SE k = aborts TimedOut k

-- the operator's stop aborts; in CW it changes nothing
unfoldable pub sender_cancels : SenderState → Bool → SenderMove
sender_cancels (CW o) k = sends (CW o) k []
sender_cancels (Ended o) k = sends (Ended o) k []
sender_cancels (S begun timeouts) k = aborts Stopped k
sender_cancels SH k = aborts Stopped k
sender_cancels (SD n) k = aborts Stopped k
sender_cancels SE k = aborts Stopped k
sender_cancels ST k = aborts Stopped k

abbrev pub sender_ended : SenderState → Bool
sender_ended (S begun timeouts) = false
sender_ended SH = false
sender_ended (SD n) = false
sender_ended SE = false
sender_ended ST = false
sender_ended (CW o) = false
sender_ended (Ended o) = true

-- ---- the receiver

pub record ReceiverSettings : Type 0 where
  pub room : ℕ
  pub resumes : Bool
  pub checks : Bool

-- where a receiver goes: its state, whether it is in YappC, its record, the area, what it sends, how many bytes it stored
pub record ReceiverMove : Type 0 where
  pub state : ReceiverState
  pub checked : Bool
  pub saved : Option Saved
  pub area : List ℕ
  pub out : List Content
  pub stored : ℕ

-- what a receiver is, but for its settings and the area
pub record ReceiverNow : Type 0 where
  pub state : ReceiverState
  pub checked : Bool
  pub saved : Option Saved

abbrev pub goes : ReceiverNow → List ℕ → ReceiverState → List Content → ReceiverMove
goes r a st l = record { state = st; checked = r.checked; saved = r.saved; area = a; out = l; stored = 0 }

abbrev pub fails : ReceiverNow → List ℕ → Outcome → ReceiverMove
fails r a o = goes r a (RCW o) (cn [] ∷ [])

-- send NR, end
abbrev pub refuses : ReceiverNow → List ℕ → Outcome → List ℕ → ReceiverMove
refuses r a o text = goes r a (REnded o) (nr text ∷ [])

-- the header is accepted: the record is the header's, with so many bytes kept
abbrev pub accepts : List ℕ → Bool → Saved → Content → ReceiverMove
accepts a k v reply = record { state = RD; checked = k; saved = Some v; area = a; out = reply ∷ []; stored = 0 }

-- with no record the reply is RT if checksums are wanted and the header had a stamp, else RF. If a record matches, the position is kept
-- bytes less 256, never under 0; the kept count becomes the position, and RE carries it, with `C` if checksums are wanted
unfoldable pub judge_record : ReceiverSettings → ReceiverNow → List ℕ → List ℕ → ℕ → Option ℕ → Option Saved → ReceiverMove
judge_record t r a name size stamp None =
    pick (t.checks && is_present stamp)
    (accepts a true (record { size = size; kept = 0; stamp = stamp; name = name }) rt)
    (accepts a false (record { size = size; kept = 0; stamp = stamp; name = name }) rf)
judge_record t r a name size stamp (Some v) =
    pick t.resumes
    (pick (same v.name name && eqb v.size size)
    (accepts a t.checks (record { size = size; kept = v.kept - 256; stamp = stamp; name = name }) (re (v.kept - 256) t.checks))
    (refuses r a Differs differs_text))
    (refuses r a HaveFile have_text)

-- a header is judged: size over the area (8), a record with resume off (9), a record whose name or announced size differs (10)
unfoldable pub judges : ReceiverSettings → ReceiverNow → List ℕ → List ℕ → ℕ → Option ℕ → ReceiverMove
judges t r a name size stamp = pick (leb size t.room) (judge_record t r a name size stamp r.saved) (refuses r a NoRoom room_text)

-- a DT's data are stored directly behind the kept bytes and count as kept in the same step; a bad checksum aborts (11, judged first), a
-- DT past the announced size aborts (12)
unfoldable pub stores : ReceiverNow → List ℕ → List ℕ → Bool → ReceiverMove
stores r a d sound =
    pick sound
    (pick (leb (kept_of r.saved + length d) (size_of r.saved))
    (record {
      state = r.state;
      checked = r.checked;
      saved = grown r.saved (length d);
      area = appended (kept_of r.saved) d a;
      out = [];
      stored = length d;
    })
    (fails r a PastSize))
    (fails r a CheckFailed)

abbrev pub receiver_after_cw : ReceiverState → ReceiverState
receiver_after_cw R = R
receiver_after_cw (RH whole) = RH whole
receiver_after_cw RD = RD
receiver_after_cw (RCW o) = REnded o
receiver_after_cw (REnded o) = REnded o

-- EF at the announced size gives AF and RH, earlier it aborts (13)
unfoldable pub ends_file : ReceiverNow → List ℕ → ReceiverMove
ends_file r a = pick (eqb (kept_of r.saved) (size_of r.saved)) (goes r a (RH true) (af ∷ [])) (fails r a Short)

-- the actions of a receiver; those of a sender, which no row of a receiver has, do nothing
unfoldable pub receiver_does : ReceiverSettings → ReceiverNow → List ℕ → Action → Content → ReceiverMove
receiver_does t r a nothing c = goes r a r.state []
receiver_does t r a abort c = fails r a Unexpected
receiver_does t r a refused c = goes r a (REnded Refused) []
receiver_does t r a cancelled c = goes r a (REnded Cancelled) (ca ∷ [])
receiver_does t r a end_cw c = goes r a (receiver_after_cw r.state) []
receiver_does t r a answers c = goes r a r.state (ca ∷ [])
receiver_does t r a ready c = goes r a (RH false) (rr ∷ [])
receiver_does t r a trailer c = goes r a (REnded Success) (at ∷ [])
receiver_does t r a judge c = on_header c (judges t r a) (fails r a (Malformed (fault_of c)))
receiver_does t r a second c = refuses r a SecondFile one_text
receiver_does t r a store c = on_block c (stores r a) (goes r a r.state [])
receiver_does t r a eof c = ends_file r a
receiver_does t r a success c = goes r a r.state []
receiver_does t r a send_header c = goes r a r.state []
receiver_does t r a start c = goes r a r.state []
receiver_does t r a start_checked c = goes r a r.state []
receiver_does t r a resume c = goes r a r.state []
receiver_does t r a send_trailer c = goes r a r.state []

-- a packet has come
unfoldable pub receiver_takes : ReceiverSettings → ReceiverNow → List ℕ → Content → ReceiverMove
receiver_takes t r a c = receiver_does t r a (receiver_row r.state (kind_of c)) c

-- timer: aborts (17); in CW it ends
unfoldable pub receiver_times_out : ReceiverNow → List ℕ → ReceiverState → ReceiverMove
receiver_times_out r a (RCW o) = goes r a (REnded o) []
receiver_times_out r a (REnded o) = goes r a (REnded o) []
receiver_times_out r a R = fails r a TimedOut
receiver_times_out r a (RH whole) = fails r a TimedOut
receiver_times_out r a RD = fails r a TimedOut

-- the operator's stop aborts (23); in CW it changes nothing
unfoldable pub receiver_cancels : ReceiverNow → List ℕ → ReceiverState → ReceiverMove
receiver_cancels r a (RCW o) = goes r a (RCW o) []
receiver_cancels r a (REnded o) = goes r a (REnded o) []
receiver_cancels r a R = fails r a Stopped
receiver_cancels r a (RH whole) = fails r a Stopped
receiver_cancels r a RD = fails r a Stopped

abbrev pub receiver_ended : ReceiverState → Bool
receiver_ended R = false
receiver_ended (RH whole) = false
receiver_ended RD = false
receiver_ended (RCW o) = false
receiver_ended (REnded o) = true
