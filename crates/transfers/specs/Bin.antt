-- A session by extended #BIN#: two fresh ends, the frames on the way between them, and calls.
use Rattle.calls.specs.declared.Refusal.{Refusal}
use Rattle.std.specs.Prelude.{ℕ, ◌+◌, ◌-◌, ◌≤◌, ◌≡◌, Bool, true, false, List, [], ◌∷◌, ◌++◌, ◌⊎◌, length, take, None, Ok, Option, Result, Some}
use Rattle.fields.specs.Pick.{pick}
use Rattle.fields.specs.Lists.{same}
use Rattle.lines.specs.Frame.{starts, ok_mark, display_mark, stop_frame}
use Rattle.crc.specs.declared.Reading.{Reading}
use Rattle.calls.specs.declared.Outcome.TheVariants.{Success}
use Rattle.calls.specs.Checks.{check_of, is_taken}
use Rattle.bin_sender.specs.declared.Sender.{Sender}
use Rattle.bin.specs.declared.SenderState.TheVariants.{Ended as SEnded}
use Rattle.bin_receiver.specs.declared.Receiver.{Receiver}
use Rattle.bin.specs.declared.ReceiverState.TheVariants.{Ended as REnded}
use Rattle.bin.specs.Steps.{sender_ended, receiver_ended}
use Rattle.bin_sender.specs.Sender.{SenderAfter, begin, receive as receives, timeout as times, cancel as stops}
use Rattle.bin_receiver.specs.Receiver.{ReceiverAfter, record_by, transmit as transmits_r, timeout as times_r, cancel as stops_r}
use Rattle.transfers.specs.MachinesBin.{transmit as transmits, fresh, resume, receive as receives_r}
use Rattle.transfers.specs.World.{World, Left, Act, transmit_s, timeout_s, cancel_s, transmit_r, timeout_r, cancel_r, receive_s, receive_r, at_sender, Call, lent_or, ours, saved_bytes, laid_by, NoStop}
pub use Rattle.transfers.specs.World.{Fair, own, refused}

-- what may differ from session to session
pub record Settings : Type 0 where
  pub block : ℕ
  pub block_some : 1 ≤ block
  pub block_most : block ≤ 256
  pub stamp : ℕ
  pub stamp_in_range : stamp ≤ 0xFFFFFFFF
  -- "the same setting at both ends in each #BIN# session" (request 2026-06)
  pub reading : Reading

-- the two ends, the area, the frames on the way to the receiver and to the sender, whether an OK was sent, which an observer sees, the tally,
-- and the first area with the file's bytes laid where bytes came
pub record Config : Type 0 where
  pub snd : Sender
  pub rcv : Receiver
  pub area : List ℕ
  pub to_r : List (List ℕ)
  pub to_s : List (List ℕ)
  pub accepted : Bool
  pub tally : ℕ
  pub laid : List ℕ

-- the receiver begins from the record's bytes that the session before left
abbrev pub receiver_by : ℕ → Reading → Option (List ℕ) → Receiver
receiver_by room reading None = fresh room true reading
receiver_by room reading (Some b) = resume b room true reading

-- "begun with two fresh ends, nothing on the way, and the area and record the one before left"; resume is allowed at both ends
abbrev pub begins : World → Settings → Left → Config
begins w t l = record {
  snd = begin w.name (length w.file) t.block t.stamp true t.reading;
  rcv = receiver_by (length w.area) t.reading l.saved;
  area = l.area;
  to_r = [];
  to_s = [];
  accepted = false;
  tally = l.tally;
  laid = l.laid;
}

-- a frame that was sent joins the way to the other end
abbrev pub joins : List (List ℕ) → List ℕ → List (List ℕ)
joins l [] = l
joins l (x ∷ f) = l ++ ((x ∷ f) ∷ [])

-- the front frame of the way; where nothing is on the way, an empty one
abbrev pub front : List (List ℕ) → List ℕ
front [] = []
front (f ∷ l) = f

abbrev pub behind_front : List (List ℕ) → List (List ℕ)
behind_front [] = []
behind_front (f ∷ l) = l

-- the front frame leaves the way when its call is taken
abbrev pub left_by : Result (Unit {0}) Refusal → List (List ℕ) → List (List ℕ)
left_by s l = pick (is_taken s) (behind_front l) l

-- a line counts as accepted once an OK is sent
abbrev pub accepted_by : List ℕ → Bool → Bool
accepted_by s before = pick (starts ok_mark s) true before

-- how many bytes of the file a frame brings once a line was accepted: all its bytes, unless it is for display or the stop frame
abbrev pub file_in : Bool → List ℕ → ℕ
file_in accepted f = pick accepted (pick (starts display_mark f) 0 (pick (same stop_frame f) 0 (length f))) 0

-- with a call that is refused none come
abbrev pub came_by : Result (Unit {0}) Refusal → Bool → List ℕ → ℕ
came_by s accepted f = pick (is_taken s) (file_in accepted f) 0

-- l is what is left on the way to the end that was called
abbrev pub step_s : Config → SenderAfter → List (List ℕ) → Config
step_s c a l = record {
  snd = a.answer.sender;
  rcv = c.rcv;
  area = c.area;
  to_r = joins c.to_r (take a.answer.sent a.reply);
  to_s = l;
  accepted = c.accepted;
  tally = c.tally;
  laid = c.laid;
}

-- the same at the receiver; n bytes of the file came to it
abbrev pub step_r : World → Config → Option (List ℕ) → ReceiverAfter → List (List ℕ) → ℕ → Config
step_r w c lent a l n = record {
  snd = c.snd;
  rcv = a.answer.receiver;
  area = ours c.area a.area lent;
  to_r = l;
  to_s = joins c.to_s (take a.answer.sent a.reply);
  accepted = accepted_by (take a.answer.sent a.reply) c.accepted;
  tally = c.tally + n;
  laid = laid_by w c.tally n c.laid;
}

module _ (w : World) where
  -- whether the end that is called has ended, its own file or area, and the length that it was given at the start
  abbrev pub ended_at : Act → Config → Bool
  ended_at a c = pick (at_sender a) (sender_ended c.snd.core.state) (receiver_ended c.rcv.core.state)

  abbrev pub own_at : Act → Config → List ℕ
  own_at a c = pick (at_sender a) w.file c.area

  abbrev pub given_to : Act → ℕ
  given_to a = pick (at_sender a) (length w.file) (length w.area)

  -- the frame that is handed over
  abbrev pub frame_at : Act → Config → Option (List ℕ) → List ℕ
  frame_at transmit_s c handed = []
  frame_at (receive_s n) c handed = lent_or (front c.to_s) handed
  frame_at timeout_s c handed = []
  frame_at cancel_s c handed = []
  frame_at transmit_r c handed = []
  frame_at (receive_r n) c handed = lent_or (front c.to_r) handed
  frame_at timeout_r c handed = []
  frame_at cancel_r c handed = []

  -- document 01's check of a call
  abbrev pub checked : Act → Config → List ℕ → Option (List ℕ) → Option (List ℕ) → Result (Unit {0}) Refusal
  checked a c reply lent handed =
      check_of (ended_at a c) (length reply) (length (frame_at a c handed)) (length (lent_or (own_at a c) lent)) (given_to a)

  -- what a call answers and leaves, and what is left on the way to its end; at the receiver, how many bytes of the file came with it
  pub data Made : Type 0 where
    by_sender : SenderAfter → List (List ℕ) → Made
    by_receiver : ReceiverAfter → List (List ℕ) → ℕ → Made

  abbrev pub made : Act → Config → List ℕ → Option (List ℕ) → Option (List ℕ) → Made
  made transmit_s c reply lent handed = by_sender (transmits c.snd (lent_or w.file lent) reply) c.to_s
  made (receive_s n) c reply lent handed =
      by_sender (receives c.snd (frame_at (receive_s n) c handed) (lent_or w.file lent) reply)
      (left_by (checked (receive_s n) c reply lent handed) c.to_s)
  made timeout_s c reply lent handed = by_sender (times c.snd (lent_or w.file lent) reply) c.to_s
  made cancel_s c reply lent handed = by_sender (stops c.snd (lent_or w.file lent) reply) c.to_s
  made transmit_r c reply lent handed = by_receiver (transmits_r c.rcv (lent_or c.area lent) reply) c.to_r 0
  made (receive_r n) c reply lent handed =
      by_receiver (receives_r c.rcv (frame_at (receive_r n) c handed) (lent_or c.area lent) reply)
      (left_by (checked (receive_r n) c reply lent handed) c.to_r)
      (came_by (checked (receive_r n) c reply lent handed) c.accepted (frame_at (receive_r n) c handed))
  made timeout_r c reply lent handed = by_receiver (times_r c.rcv (lent_or c.area lent) reply) c.to_r 0
  made cancel_r c reply lent handed = by_receiver (stops_r c.rcv (lent_or c.area lent) reply) c.to_r 0

  abbrev pub step_by : Config → Option (List ℕ) → Made → Config
  step_by c lent (by_sender a l) = step_s c a l
  step_by c lent (by_receiver a l n) = step_r w c lent a l n

  abbrev pub step : Call → Config → Config
  step k c = step_by c k.lent (made k.act c k.reply k.lent k.handed)

  abbrev pub runs : List Call → Config → Config
  runs [] c = c
  runs (k ∷ ks) c = runs ks (step k c)

  abbrev pub Fairly : List Call → Config → Type 0
  Fairly [] c = Unit {0}
  Fairly (k ∷ ks) c = Fair k.lent k.handed (checked k.act c k.reply k.lent k.handed) × Fairly ks (step k c)

  -- "no timer and no operator's stop"
  abbrev pub Calmly : List Call → Config → Type 0
  Calmly [] c = Unit {0}
  Calmly (k ∷ ks) c = NoStop k.act (checked k.act c k.reply k.lent k.handed) × Calmly ks (step k c)

  -- "Run to its end": nothing on the way to an end that has not ended, no leave that would send anything; both ends are begun by `begins`
  pub record Quiet (c : Config) : Type 0 where
    pub to_sender : (sender_ended c.snd.core.state ≡ true) ⊎ (c.to_s ≡ [])
    pub to_receiver : (receiver_ended c.rcv.core.state ≡ true) ⊎ (c.to_r ≡ [])
    pub no-more-S : (reply : List ℕ) → (transmits c.snd w.file reply).answer.sent ≡ 0
    pub no-more-R : (reply : List ℕ) → (transmits_r c.rcv c.area reply).answer.sent ≡ 0

  -- "both ends report success and the area begins with the whole file"
  pub record Complete (c : Config) : Type 0 where
    pub sender : c.snd.core.state ≡ SEnded Success
    pub receiver : c.rcv.core.state ≡ REnded Success
    pub file : take (length w.file) c.area ≡ w.file

  -- how many frames a call sends and takes
  abbrev pub work_of : Config → Made → ℕ
  work_of c (by_sender a l) = length (joins [] (take a.answer.sent a.reply)) + (length c.to_s - length l)
  work_of c (by_receiver a l n) = length (joins [] (take a.answer.sent a.reply)) + (length c.to_r - length l)

  abbrev pub work_in : Act → Config → List ℕ → ℕ
  work_in a c reply = work_of c (made a c reply None None)

  abbrev pub work : List Call → Config → ℕ
  work [] c = 0
  work (k ∷ ks) c = work_of c (made k.act c k.reply k.lent k.handed) + work ks (step k c)

  -- the session comes to its end, whoever makes its calls: without timer and stop no more than so many frames are sent and taken; and where
  -- neither a leave nor an arrival sends or takes one, with room for a reply, it is run to its end
  pub record ComesToEnd (c : Config) : Type 0 where
    pub most : ℕ
    pub bounded : (ks : List Call) → Fairly ks c → Calmly ks c → work ks c ≤ most
    pub quiet_then : (n : ℕ) (reply : List ℕ) → 259 ≤ length reply → work_in transmit_s c reply ≡ 0 → work_in transmit_r c reply ≡ 0
        → work_in (receive_s n) c reply ≡ 0 → work_in (receive_r n) c reply ≡ 0 → Quiet c

  -- the status that a call answers with
  abbrev pub status_in : Made → Result (Unit {0}) Refusal
  status_in (by_sender a l) = a.answer.status
  status_in (by_receiver a l n) = a.answer.status

  -- each call answers as document 01's check has it; one that is refused takes nothing and changes nothing; and one at an end that has not
  -- ended, lent its own file or area, handed what is on the way, with a reply buffer of 259 bytes or more, is taken
  pub record Serves (c : Config) : Type 0 where
    pub as_checked : (k : Call) → status_in (made k.act c k.reply k.lent k.handed) ≡ checked k.act c k.reply k.lent k.handed
    pub refused : (k : Call) → is_taken (checked k.act c k.reply k.lent k.handed) ≡ false
        → (step k c ≡ c) × (work_of c (made k.act c k.reply k.lent k.handed) ≡ 0)
    pub taken : (a : Act) (reply : List ℕ) → ended_at a c ≡ false → 259 ≤ length reply → status_in (made a c reply None None) ≡ (Ok tt)

abbrev pub leaves : Config → Left
leaves c = record { area = c.area; saved = saved_bytes (record_by c.rcv); tally = c.tally; laid = c.laid }
