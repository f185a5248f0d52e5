-- A session by YAPP: two fresh ends, the bytes on the way between them, and calls.
use Rattle.calls.specs.declared.Refusal.{Refusal}
use Rattle.std.specs.Prelude.{ℕ, ◌+◌, ◌-◌, ◌≤◌, ◌≡◌, Bool, true, false, List, [], ◌∷◌, ◌++◌, ◌⊎◌, length, take, drop, eqb, None, Ok, Option, Result, Some}
use Rattle.fields.specs.Pick.{pick}
use Rattle.packets.specs.Packet.{packet_of}
use Rattle.packets.specs.Content.{Content, content_of, stamp_fits}
use Rattle.packets.specs.Kind.{RF, RT, RE, Unfinished, kind_of, look}
use Rattle.packets.specs.Data.{on_block, on_resume}
use Rattle.packets.specs.declared.spans.Span.TheVariants.{Whole}
use Rattle.packets.specs.Span.{span}
use Rattle.packet_stream.specs.declared.Reader.{Reader}
use Rattle.packet_stream.specs.Reader.{fresh as fresh_reader, checking, receive as reads}
use Rattle.calls.specs.declared.Outcome.TheVariants.{Success}
use Rattle.calls.specs.Checks.{check_of, is_taken}
use Rattle.yapp_sender.specs.declared.Sender.{Sender}
use Rattle.yapp.specs.declared.SenderState.TheVariants.{Ended as SEnded}
use Rattle.yapp_receiver.specs.declared.Receiver.{Receiver}
use Rattle.yapp.specs.declared.ReceiverState.TheVariants.{Ended as REnded}
use Rattle.yapp.specs.Steps.{sender_ended, receiver_ended}
use Rattle.yapp_sender.specs.Sender.{heard}
use Rattle.yapp_sender.specs.Sender.{SenderAfter, begin, transmit as transmits, receive as receives, timeout as times, cancel as stops}
use Rattle.yapp_receiver.specs.Receiver.{ReceiverAfter, fresh, resume, record_by}
use Rattle.transfers.specs.MachinesYapp.{transmit as transmits_r, receive as receives_r, timeout as times_r, cancel as stops_r}
use Rattle.transfers.specs.World.{World, Left, Act, transmit_s, timeout_s, cancel_s, transmit_r, timeout_r, cancel_r, receive_s, receive_r, at_sender, Call, lent_or, ours, saved_bytes, laid_by, NoStop}
pub use Rattle.transfers.specs.World.{Fair, own, refused}

-- what may differ from session to session
pub record Settings : Type 0 where
  pub block : ℕ
  pub block_some : 1 ≤ block
  pub block_most : block ≤ 256
  pub stamp : Option ℕ
  pub stamp_in_range : stamp_fits stamp ≡ true
  pub checks : Bool

-- what an observer knows who sees the bytes that come to the receiver and those that it sends, and of the machines only whether the receiver has
-- ended: a reader of what comes, and whether data are awaited
pub record Watch : Type 0 where
  pub reader : Reader
  pub awaits : Bool

-- the two ends, the area, the bytes on the way to the receiver and to the sender, the observer, the tally, and the first area with the file's
-- bytes laid where bytes came
pub record Config : Type 0 where
  pub snd : Sender
  pub rcv : Receiver
  pub area : List ℕ
  pub to_r : List ℕ
  pub to_s : List ℕ
  pub watch : Watch
  pub tally : ℕ
  pub laid : List ℕ

-- the receiver begins from the record's bytes that the session before left
abbrev pub receiver_by : ℕ → Bool → Option (List ℕ) → Receiver
receiver_by room checks None = fresh room true checks
receiver_by room checks (Some b) = resume b room true checks

-- "begun with two fresh ends, nothing on the way, and the area and record the one before left"; resume is allowed at both ends
abbrev pub begins : World → Settings → Left → Config
begins w t l = record {
  snd = begin w.name (length w.file) t.block t.stamp true;
  rcv = receiver_by (length w.area) t.checks l.saved;
  area = l.area;
  to_r = [];
  to_s = [];
  watch = record { reader = fresh_reader false; awaits = false };
  tally = l.tally;
  laid = l.laid;
}

-- ---- what comes and what is sent, as the observer sees it

-- how many bytes of the file a packet brings: a DT its data, where they are awaited
abbrev pub data_in : Bool → Content → ℕ
data_in awaits c = pick awaits (on_block c (λ d sound. length d) 0) 0

-- how many a chunk brings, which may complete a packet
abbrev pub came_by : Watch → List ℕ → ℕ
came_by o chunk = data_in o.awaits (heard (reads o.reader chunk))

-- the packet that is sent; `unfinished` where nothing is
abbrev pub packet_sent : List ℕ → Content
packet_sent s = content_of s (packet_of false s)

-- nothing is sent, or one whole packet
abbrev pub OnePacket : List ℕ → Type 0
OnePacket s = (s ≡ []) ⊎ (span false s ≡ Whole (length s))

-- the tally falls by 256, not under 0, at an RE
abbrev pub fall_of : List ℕ → ℕ
fall_of s = pick (eqb (kind_of (packet_sent s)) RE) 256 0

-- data are awaited once RF, RT or RE is sent, until another packet is sent: the state RD
abbrev pub awaits_by : Content → Bool → Bool
awaits_by c before = look (kind_of c) ((RF, true) ∷ (RT, true) ∷ (RE, true) ∷ (Unfinished, before) ∷ []) false

-- "after RT, or RE with `C`, every DT has one more byte"
abbrev pub checks_by : Content → Bool → Bool
checks_by c before = look (kind_of c) ((RF, false) ∷ (RT, true) ∷ (RE, on_resume c (λ position checked. checked) before) ∷ []) before

-- the chunk comes, and c is sent
abbrev pub seen : Watch → List ℕ → Content → Watch
seen o chunk c = record {
  reader = checking (checks_by c o.reader.checked) (reads o.reader chunk).reader;
  awaits = awaits_by c o.awaits;
}

-- ---- the calls

-- what is sent joins the way to the other end; what was taken leaves the way
abbrev pub step_s : Config → SenderAfter → Config
step_s c a = record {
  snd = a.answer.sender;
  rcv = c.rcv;
  area = c.area;
  to_r = c.to_r ++ take a.answer.sent a.reply;
  to_s = drop a.answer.taken c.to_s;
  watch = c.watch;
  tally = c.tally;
  laid = c.laid;
}

-- the same at the receiver; `chunk` is what came to it
abbrev pub step_r : World → Config → Option (List ℕ) → ReceiverAfter → List ℕ → Config
step_r w c lent a chunk = record {
  snd = c.snd;
  rcv = a.answer.receiver;
  area = ours c.area a.area lent;
  to_r = drop a.answer.taken c.to_r;
  to_s = c.to_s ++ take a.answer.sent a.reply;
  watch = seen c.watch chunk (packet_sent (take a.answer.sent a.reply));
  tally = c.tally - fall_of (take a.answer.sent a.reply) + came_by c.watch chunk;
  laid = laid_by w (c.tally - fall_of (take a.answer.sent a.reply)) (came_by c.watch chunk) c.laid;
}

module _ (w : World) where
  -- whether the end that is called has ended, its own file or area, and the length that it was given at the start
  abbrev pub ended_at : Act → Config → Bool
  ended_at a c = pick (at_sender a) (sender_ended c.snd.core.state) (receiver_ended c.rcv.core.state)

  abbrev pub own_at : Act → Config → List ℕ
  own_at a c = pick (at_sender a) w.file c.area

  abbrev pub given_to : Act → ℕ
  given_to a = pick (at_sender a) (length w.file) (length w.area)

  -- document 01's check of a call; 19 is for frames
  abbrev pub checked : Act → Config → List ℕ → Option (List ℕ) → Result (Unit {0}) Refusal
  checked a c reply lent = check_of (ended_at a c) (length reply) 0 (length (lent_or (own_at a c) lent)) (given_to a)

  -- what a call answers and leaves; at the receiver, what came with it: nothing, where it is refused
  pub data Made : Type 0 where
    by_sender : SenderAfter → Made
    by_receiver : ReceiverAfter → List ℕ → Made

  abbrev pub made : Act → Config → List ℕ → Option (List ℕ) → Option (List ℕ) → Made
  made transmit_s c reply lent handed = by_sender (transmits c.snd (lent_or w.file lent) reply)
  made (receive_s n) c reply lent handed = by_sender (receives c.snd (lent_or (take n c.to_s) handed) (lent_or w.file lent) reply)
  made timeout_s c reply lent handed = by_sender (times c.snd (lent_or w.file lent) reply)
  made cancel_s c reply lent handed = by_sender (stops c.snd (lent_or w.file lent) reply)
  made transmit_r c reply lent handed = by_receiver (transmits_r c.rcv (lent_or c.area lent) reply) []
  made (receive_r n) c reply lent handed =
      by_receiver (receives_r c.rcv (lent_or (take n c.to_r) handed) (lent_or c.area lent) reply)
      (pick (is_taken (checked (receive_r n) c reply lent)) (lent_or (take n c.to_r) handed) [])
  made timeout_r c reply lent handed = by_receiver (times_r c.rcv (lent_or c.area lent) reply) []
  made cancel_r c reply lent handed = by_receiver (stops_r c.rcv (lent_or c.area lent) reply) []

  abbrev pub step_by : Config → Option (List ℕ) → Made → Config
  step_by c lent (by_sender a) = step_s c a
  step_by c lent (by_receiver a chunk) = step_r w c lent a chunk

  abbrev pub step : Call → Config → Config
  step k c = step_by c k.lent (made k.act c k.reply k.lent k.handed)

  abbrev pub runs : List Call → Config → Config
  runs [] c = c
  runs (k ∷ ks) c = runs ks (step k c)

  abbrev pub Fairly : List Call → Config → Type 0
  Fairly [] c = Unit {0}
  Fairly (k ∷ ks) c = Fair k.lent k.handed (checked k.act c k.reply k.lent) × Fairly ks (step k c)

  -- "no timer and no operator's stop"
  abbrev pub Calmly : List Call → Config → Type 0
  Calmly [] c = Unit {0}
  Calmly (k ∷ ks) c = NoStop k.act (checked k.act c k.reply k.lent) × Calmly ks (step k c)

  -- "Run to its end": nothing on the way to an end that has not ended, no leave that would send anything; both ends are begun by `begins`
  pub record Quiet (c : Config) : Type 0 where
    pub to_sender : (sender_ended c.snd.core.state ≡ true) ⊎ (c.to_s ≡ [])
    pub to_receiver : (receiver_ended c.rcv.core.state ≡ true) ⊎ (c.to_r ≡ [])
    pub no-more-S : (reply : List ℕ) → (transmits c.snd w.file reply).answer.sent ≡ 0
    pub no-more-R : (reply : List ℕ) → (transmits_r c.rcv c.area reply).answer.sent ≡ 0

  -- "both ends report success and the area begins with the whole file"
  pub record Complete (c : Config) : Type 0 where
    pub sender : c.snd.core.state ≡ SEnded Success
    pub receiver : c.rcv.core.state ≡ REnded Success
    pub file : take (length w.file) c.area ≡ w.file

  -- how many bytes a call sends and takes
  abbrev pub work_of : Made → ℕ
  work_of (by_sender a) = a.answer.sent + a.answer.taken
  work_of (by_receiver a chunk) = a.answer.sent + a.answer.taken

  abbrev pub work_in : Act → Config → List ℕ → ℕ
  work_in a c reply = work_of (made a c reply None None)

  abbrev pub work : List Call → Config → ℕ
  work [] c = 0
  work (k ∷ ks) c = work_of (made k.act c k.reply k.lent k.handed) + work ks (step k c)

  -- the session comes to its end, whoever makes its calls: without timer and stop no more than so many bytes are sent and taken; and where
  -- neither a leave nor an arrival of n bytes sends or takes any, with room for a reply, it is run to its end
  pub record ComesToEnd (c : Config) : Type 0 where
    pub most : ℕ
    pub bounded : (ks : List Call) → Fairly ks c → Calmly ks c → work ks c ≤ most
    pub quiet_then : (n : ℕ) (reply : List ℕ) → 1 ≤ n → 259 ≤ length reply → work_in transmit_s c reply ≡ 0 → work_in transmit_r c reply ≡ 0
        → work_in (receive_s n) c reply ≡ 0 → work_in (receive_r n) c reply ≡ 0 → Quiet c

  -- the status that a call answers with
  abbrev pub status_in : Made → Result (Unit {0}) Refusal
  status_in (by_sender a) = a.answer.status
  status_in (by_receiver a chunk) = a.answer.status

  -- the observer sees all of it: the receiver takes as many bytes as the observer's reader, and sends nothing or one whole packet
  abbrev pub Observed : Config → Made → Type 0
  Observed c (by_sender a) = Unit {0}
  Observed c (by_receiver a chunk) = (a.answer.taken ≡ (reads c.watch.reader chunk).taken) × OnePacket (take a.answer.sent a.reply)

  -- each call answers as document 01's check has it; one that is refused takes nothing and changes nothing; one at an end that has not ended,
  -- lent its own file or area, handed what is on the way, with a reply buffer of 259 bytes or more, is taken; and the observer misses nothing
  pub record Serves (c : Config) : Type 0 where
    pub as_checked : (k : Call) → status_in (made k.act c k.reply k.lent k.handed) ≡ checked k.act c k.reply k.lent
    pub refused : (k : Call) → is_taken (checked k.act c k.reply k.lent) ≡ false
        → (step k c ≡ c) × (work_of (made k.act c k.reply k.lent k.handed) ≡ 0)
    pub taken : (a : Act) (reply : List ℕ) → ended_at a c ≡ false → 259 ≤ length reply → status_in (made a c reply None None) ≡ (Ok tt)
    pub observed : (k : Call) → Fair k.lent k.handed (checked k.act c k.reply k.lent)
        → Observed c (made k.act c k.reply k.lent k.handed)

abbrev pub leaves : Config → Left
leaves c = record { area = c.area; saved = saved_bytes (record_by c.rcv); tally = c.tally; laid = c.laid }
