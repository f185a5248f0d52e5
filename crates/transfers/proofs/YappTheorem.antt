-- Demand 3 for one session by YAPP: what it leaves is again as it has to be, and without timers and stops, run to its end, it is complete.
-- Assumes nothing.
use Rattle.calls.specs.declared.Refusal.TheVariants.{LongFrame, Over, SmallReply, WrongLength}
use Rattle.calls.specs.declared.Refusal.{Refusal}
use Rattle.std.specs.Prelude.{Err, Ok, Result, None, Option, Some}
use Prim.Native.Nat.{ℕ, ◌-◌, ◌≤◌}
use mathlib.Core.Path.{subst, ◌≡◌, refl, ap, sym, ◌∙◌}
use mathlib.Core.Bool.{Bool, true, false, false≢true}
use mathlib.Core.List.{List, [], ◌∷◌, append-nil}
use mathlib.Core.Logic.{◌⊎◌, inl, inr}
use native.Mathlib.Omega.{arith}
use native.Mathlib.Nat.{add-zero, sub-zero}
use lib.ListN.{length, take, drop, replicate, length-append, length-replicate}
use lib.Seq.{take-length}
use lib.Dec.{ltb}
use borrow.Author.Tests.{ltb-true, le-leb, le-ltb, eq-eqb}
use Rattle.fields.specs.Pick.{pick}
use Rattle.fields.specs.Buffer.{over}
use Rattle.fields.specs.declared.Place.{Place}
use Rattle.fields.proofs.Lists.{name-length}
use Rattle.records.specs.Saved.{Saved, record_bytes}
use Rattle.packets.specs.Content.{Content, content_of}
use Rattle.packets.specs.Kind.{kind_of, look}
use Rattle.packet_stream.specs.declared.Reader.{Reader}
use Rattle.packet_stream.specs.declared.Received.{Received}
use Rattle.packet_stream.specs.Reader.{fresh as fresh_reader, receive as reads}
use Rattle.packets.specs.Span.{span_at}
use Rattle.packet_stream.specs.Pending.{feed}
use Rattle.packet_stream.proofs.Framing.{Waits}
use Rattle.calls.specs.declared.Outcome.TheVariants.{Success}
use Rattle.calls.specs.Checks.{check_of, is_taken}
use Rattle.calls.proofs.Laws.{check-taken}
use Rattle.calls.specs.Saving.{saved_by, name_of, kept_of}
use Rattle.yapp.specs.declared.SenderState.{SenderState}
use Rattle.yapp.specs.declared.SenderState.TheVariants.{Ended}
use Rattle.yapp.specs.declared.ReceiverState.{ReceiverState}
use Rattle.yapp.specs.declared.ReceiverState.TheVariants.{R, Ended as REnded}
use Rattle.yapp_sender.specs.declared.Sender.{Sender}
use Rattle.yapp_receiver.specs.declared.Receiver.{Receiver}
use Rattle.yapp.specs.Steps.{SenderSettings, ReceiverSettings, SenderMove, ReceiverMove, writes, sender_transmits, sender_times_out, sender_cancels, receiver_times_out, receiver_cancels, sender_ended, receiver_ended}
use Rattle.fields.specs.Lists.{nowhere}
use Rattle.yapp_sender.specs.Sender.{heard, shown_in}
use Rattle.yapp_sender.specs.Sender.{SenderAfter, settings_of, replied, arrived, refused_call, status_of, unless_refused, begin, begun_sender, transmit, receive, timeout, cancel}
use Rattle.calls.specs.Saving.{form_by}
use Rattle.yapp_receiver.specs.Receiver.{ReceiverAfter, settings_of as settings_r, now_of, replied as replied_r, refused_call as refused_r, status_of as status_r, unless_refused as unless_r, receiver_with, fresh, with_saved, resume_by, resume}
use Rattle.transfers.specs.MachinesYapp.{receiver_takes, receive as receive_r', transmit as transmit_r', timeout as timeout_r', cancel as cancel_r'}
use Rattle.transfers.specs.World.{World, Left, Act, transmit_s, timeout_s, cancel_s, transmit_r, timeout_r, cancel_r, receive_s, receive_r, at_sender, Call, lent_or, saved_bytes, laid_by, Calm, NoStop}
use Rattle.transfers.specs.Yapp.{Settings, Watch, Config, receiver_by, begins, data_in, came_by, packet_sent, OnePacket, seen, step_s, step_r, ended_at, own_at, given_to, checked, Made, by_sender, by_receiver, made, step_by, step, runs, Fair, own, refused, Fairly, Calmly, Quiet, Complete, work_of, status_in, Observed, Serves, leaves}
use Rattle.transfers.proofs.Calls.{sent_is, lent_back}
use Rattle.transfers.proofs.Stored.{Ours, Stored, Between, lays-none, ours-bytes, ours-back, name_back, saved-back, name-room, name-short}
use Rattle.transfers.proofs.YappPhases.{machine, fall, is_rd, called, again, sent, block, sender_set, receiver_set, Good, g0, g1, g2, g3, g4, g5, g6, g7, g8, g9, g10}
use Rattle.transfers.proofs.YappGood.{next_block, next-is, block_move}
use Rattle.transfers.proofs.YappWire.{Formed, word-si, word-ef, block-formed, writes-cons, some_bytes, Brief, fall-none, fall-is, sent-first, one-packet, Encodes, idle, encodes-quiet}
use Rattle.transfers.proofs.YappBytes.{none_yet, WInv, in-phase, Moved, Came, wire-leaves, wire-times, wire-stops, wire-heard, wire-times_r, wire-stops_r, wire-came}

-- the record that a receiver holds
abbrev pub saved_in : Receiver → Option Saved
saved_in m = saved_by m.core.keeping m.name

-- a buffer of zeros
abbrev zeros : ℕ → List ℕ
zeros n = replicate n 0

zeros-length : (n : ℕ) → length (zeros n) ≡ n
zeros-length n = length-replicate {A = ℕ} n 0

sent-whole : (k : Bool) {out : List Content} (reply : List ℕ) → Brief out → OnePacket (take (length (writes k out)) (over 0 (writes k out) reply))
sent-whole k {out} reply b = rw (sent_is (writes k out) reply) (one-packet k b)

-- with an empty chunk nothing comes, and where nothing is sent the observer sees nothing
came-none : (o : Watch) → came_by o [] ≡ 0
unfolding feed content_of kind_of
came-none o = none_yet o.awaits

none_came : (m : Receiver) → data_in (is_rd m.core.state) (heard (reads m.reader [])) ≡ 0
none_came m = came-none (record { reader = m.reader; awaits = is_rd m.core.state })

seen_none : (o : Watch) → seen o [] (packet_sent []) ≡ o
unfolding feed span_at content_of kind_of look
seen_none o = refl

module _ (w : World) (t : Settings) where
  -- the settings stand in the two ends, and the invariant holds
  pub record Holds (o : Bool) (c : Config) : Type 0 where
    pub sender_settings : settings_of c.snd ≡ sender_set w t
    pub receiver_settings : settings_r c.rcv ≡ receiver_set w t
    pub array : length c.rcv.name ≡ 64
    pub inv : WInv w t c.snd.core.state c.snd.reader c.rcv.core.state c.rcv.reader (saved_in c.rcv) c.to_r c.to_s o
    pub kept : Stored w (saved_in c.rcv) c.area c.tally
    pub laid : c.area ≡ c.laid
    pub watched : c.watch ≡ record { reader = c.rcv.reader; awaits = is_rd c.rcv.core.state }

  -- what a call with the check x does: fairly made it leaves what holds, it answers as it is checked, refused it changes nothing, and fairly
  -- made it is seen whole by the observer
  pub record Does (o : Bool) (c : Config) (lent handed : Option (List ℕ)) (x : Result (Unit {0}) Refusal) (m : Made w) : Type 0 where
    pub keeps : Fair lent handed x → Holds o (step_by w c lent m)
    pub answers : status_in w m ≡ x
    pub unmoved : is_taken x ≡ false → (step_by w c lent m ≡ c) × (work_of w m ≡ 0)
    pub observed : Fair lent handed x → Observed w c m

  -- ---- a call that is refused changes nothing

  same-R : (c : Config) (lent : Option (List ℕ)) (s : Result (Unit {0}) Refusal) (reply : List ℕ) → step_r w c lent (refused_r c.rcv s (lent_or c.area lent) reply) [] ≡ c
  same-R c lent s reply =
      rw (
        append-nil c.to_s,
        fall-none,
        seen_none c.watch,
        came-none c.watch,
        sub-zero c.tally,
        add-zero c.tally,
        lays-none w c.tally c.laid,
        lent_back c.area lent,
      )

  module _ {o : Bool} (c : Config) (h : Holds o c) where
    refused-S : (lent handed : Option (List ℕ)) (s : Result (Unit {0}) Refusal) (reply : List ℕ) → Does o c lent handed s (by_sender (refused_call c.snd s reply))
    refused-S lent handed s reply =
        record { keeps = λ f. rw (append-nil c.to_r) h; answers = refl; unmoved = λ e. (rw (append-nil c.to_r), refl); observed = λ f. tt }

    refused-R : (lent handed : Option (List ℕ)) (s : Result (Unit {0}) Refusal) (reply : List ℕ)
        → Does o c lent handed s (by_receiver (refused_r c.rcv s (lent_or c.area lent) reply) [])
    unfolding feed
    refused-R lent handed s reply =
        record { keeps = λ f. rw (same-R c lent s reply) h; answers = refl; unmoved = λ e. (same-R c lent s reply, refl); observed = λ f. (refl, inl refl) }

    -- ---- a call that is taken

    moved-S : {p : Bool} (r : Reader) (taken : ℕ) (shown : Place) (a : SenderMove) (reply : List ℕ)
        → Moved w t a r c.rcv.core.state c.rcv.reader (saved_in c.rcv) c.to_r (drop taken c.to_s) p
        → Holds p (step_s c (replied c.snd r taken shown a reply))
    moved-S r taken shown a reply i =
        rw (sent_is (writes a.checked a.out) reply)
        (record { sender_settings = h.sender_settings; receiver_settings = h.receiver_settings; array = h.array; inv = i; kept = h.kept; laid = h.laid; watched = h.watched })

    -- what the observer counts of a chunk
    abbrev counts : List ℕ → ℕ
    counts chunk = data_in (is_rd c.rcv.core.state) (heard (reads c.rcv.reader chunk))

    -- the receiver moved, with the chunk
    abbrev Arrives : Bool → List ℕ → ℕ → ReceiverMove → Type 0
    Arrives p chunk taken a =
        Came w t c.snd.core.state c.snd.reader c.to_s c.rcv.core.state c.rcv.reader.checked p c.area c.tally
        (reads c.rcv.reader chunk).reader (drop taken c.to_r) a (counts chunk)

    moved-R : {p : Bool} (chunk : List ℕ) (taken : ℕ) (a : ReceiverMove) (reply : List ℕ) → Arrives p chunk taken a
        → Holds p (step_r w c None (replied_r c.rcv (reads c.rcv.reader chunk).reader taken a reply) chunk)
    moved-R chunk taken a reply i =
        let l = name-short w a.saved i.stored.stored.ours in
        let b = saved-back a.saved c.rcv.name h.array l in
        rw (sent_is (writes a.checked a.out) reply, fall-is a.checked i.brief, sent-first a.checked i.brief, h.watched)
        (record {
          sender_settings = h.sender_settings;
          receiver_settings = h.receiver_settings;
          array = name-room (name_of a.saved) c.rcv.name h.array l;
          inv = rw b i.inv;
          kept = rw b i.stored.stored;
          laid = i.stored.laid ∙ ap (laid_by w (c.tally - fall a.out) (counts chunk)) h.laid;
          watched = rw (i.seen.mode, i.seen.awaits);
        })

  -- ---- by the check: a is what the call answers if it is taken

  does-S : {o : Bool} (c : Config) (reply : List ℕ) (lent handed : Option (List ℕ)) (s : Result (Unit {0}) Refusal) {z : Result (Unit {0}) Refusal} (a : Option (List ℕ) → Option (List ℕ) → SenderAfter)
      → s ≡ z → (a lent handed).answer.status ≡ (Ok tt) → Holds o c → Holds o (step_s c (a None None))
      → Does o c lent handed z (by_sender (unless_refused s c.snd reply (a lent handed)))
  does-S {o} c reply lent handed s a e q h g = rw (← e) (go s)
    where
      served : (lent handed : Option (List ℕ)) → Fair lent handed (Ok tt) → Holds o (step_s c (a lent handed))
      served _ _ own = g
      served lent handed (refused x) = absurd (false≢true (sym x))

      go : (s : Result (Unit {0}) Refusal) → Does o c lent handed s (by_sender (unless_refused s c.snd reply (a lent handed)))
      go (Ok tt) = record { keeps = served lent handed; answers = q; unmoved = λ x. absurd (false≢true (sym x)); observed = λ f. tt }
      go (Err Over) = refused-S c h lent handed (Err Over) reply
      go (Err LongFrame) = refused-S c h lent handed (Err LongFrame) reply
      go (Err SmallReply) = refused-S c h lent handed (Err SmallReply) reply
      go (Err WrongLength) = refused-S c h lent handed (Err WrongLength) reply

  -- chunk is what comes with it, nothing where it is refused
  does-R : {o : Bool} (c : Config) (reply : List ℕ) (lent handed : Option (List ℕ)) (s : Result (Unit {0}) Refusal) {z : Result (Unit {0}) Refusal}
      (a : Option (List ℕ) → Option (List ℕ) → ReceiverAfter) (chunk : Option (List ℕ) → Bool → List ℕ) → s ≡ z → (a lent handed).answer.status ≡ (Ok tt)
      → chunk handed false ≡ [] → Holds o c → Holds o (step_r w c None (a None None) (chunk None true)) → Observed w c (by_receiver (a None None) (chunk None true))
      → Does o c lent handed z (by_receiver (unless_r s c.rcv (lent_or c.area lent) reply (a lent handed)) (chunk handed (is_taken z)))
  does-R {o} c reply lent handed s a chunk e q y h g p = rw (← e) (go s)
    where
      served : (lent handed : Option (List ℕ)) → Fair lent handed (Ok tt) → Holds o (step_r w c lent (a lent handed) (chunk handed true))
      served _ _ own = g
      served lent handed (refused x) = absurd (false≢true (sym x))

      whole : (lent handed : Option (List ℕ)) → Fair lent handed (Ok tt) → Observed w c (by_receiver (a lent handed) (chunk handed true))
      whole _ _ own = p
      whole lent handed (refused x) = absurd (false≢true (sym x))

      go : (s : Result (Unit {0}) Refusal) → Does o c lent handed s (by_receiver (unless_r s c.rcv (lent_or c.area lent) reply (a lent handed)) (chunk handed (is_taken s)))
      go (Ok tt) = record { keeps = served lent handed; answers = q; unmoved = λ x. absurd (false≢true (sym x)); observed = whole lent handed }
      go (Err Over) = rw y (refused-R c h lent handed (Err Over) reply)
      go (Err LongFrame) = rw y (refused-R c h lent handed (Err LongFrame) reply)
      go (Err SmallReply) = rw y (refused-R c h lent handed (Err SmallReply) reply)
      go (Err WrongLength) = rw y (refused-R c h lent handed (Err WrongLength) reply)

  -- the status of a call is document 01's check
  pub status-S : {o : Bool} (c : Config) → Holds o c → (reply : List ℕ) (lent : Option (List ℕ))
      → status_of c.snd (lent_or w.file lent) reply ≡ checked w transmit_s c reply lent
  status-S c h reply lent = rw (ap (λ (s : SenderSettings). s.size) h.sender_settings)

  pub status-R : {o : Bool} (c : Config) → Holds o c → (reply : List ℕ) (lent : Option (List ℕ))
      → status_r c.rcv (lent_or c.area lent) reply ≡ checked w transmit_r c reply lent
  status-R c h reply lent = rw (ap (λ (s : ReceiverSettings). s.room) h.receiver_settings)

  -- ---- every call

  module _ (c : Config) where
    -- what each call answers that is not refused
    abbrev leaves_s : List ℕ → Option (List ℕ) → Option (List ℕ) → SenderAfter
    leaves_s reply l x =
        replied c.snd c.snd.reader 0 nowhere
        (sender_transmits (settings_of c.snd) (lent_or w.file l) c.snd.core.state c.snd.reader.checked) reply

    abbrev times_s : List ℕ → Option (List ℕ) → Option (List ℕ) → SenderAfter
    times_s reply l x = replied c.snd c.snd.reader 0 nowhere (sender_times_out c.snd.core.state c.snd.reader.checked) reply

    abbrev stops_s : List ℕ → Option (List ℕ) → Option (List ℕ) → SenderAfter
    stops_s reply l x = replied c.snd c.snd.reader 0 nowhere (sender_cancels c.snd.core.state c.snd.reader.checked) reply

    abbrev hears_s : ℕ → List ℕ → Option (List ℕ) → Option (List ℕ) → SenderAfter
    hears_s n reply l x = arrived c.snd (reads c.snd.reader (lent_or (take n c.to_s) x)) reply

    abbrev times_r : List ℕ → Option (List ℕ) → Option (List ℕ) → ReceiverAfter
    times_r reply l x = replied_r c.rcv c.rcv.reader 0 (receiver_times_out (now_of c.rcv) (lent_or c.area l) c.rcv.core.state) reply

    abbrev stops_r : List ℕ → Option (List ℕ) → Option (List ℕ) → ReceiverAfter
    stops_r reply l x = replied_r c.rcv c.rcv.reader 0 (receiver_cancels (now_of c.rcv) (lent_or c.area l) c.rcv.core.state) reply

    abbrev arrives_r : Received → List ℕ → Option (List ℕ) → ReceiverAfter
    arrives_r g reply l =
        replied_r c.rcv g.reader g.taken (receiver_takes (settings_r c.rcv) (now_of c.rcv) (lent_or c.area l) (heard g)) reply

    abbrev hears_r : ℕ → List ℕ → Option (List ℕ) → Option (List ℕ) → ReceiverAfter
    hears_r n reply l x = arrives_r (reads c.rcv.reader (lent_or (take n c.to_r) x)) reply l

    -- what comes with it, if it is taken
    abbrev hands : ℕ → Option (List ℕ) → Bool → List ℕ
    hands n x taken = pick taken (lent_or (take n c.to_r) x) []

  abbrev hands_none : Option (List ℕ) → Bool → List ℕ
  hands_none x taken = []

  module _ {o : Bool} (c : Config) (h : Holds o c) where
    leaves-S : (reply : List ℕ) → Holds o (step_s c (leaves_s c reply None None))
    leaves-S reply = rw h.sender_settings (moved-S c h c.snd.reader 0 nowhere _ reply (wire-leaves w t _ _ _ _ _ _ _ h.inv))

    hears-S : (n : ℕ) (reply : List ℕ) → Holds o (step_s c (hears_s c n reply None None))
    hears-S n reply =
        let g = reads c.snd.reader (take n c.to_s) in
        rw h.sender_settings
        (moved-S c h g.reader g.taken (shown_in c.snd.core.state (heard g) g) _ reply (wire-heard w t _ _ _ _ _ _ _ n h.inv))

    times-S : (reply : List ℕ) → Holds false (step_s c (times_s c reply None None))
    times-S reply = moved-S c h c.snd.reader 0 nowhere _ reply (wire-times w t _ _ _ _ _ _ _ h.inv)

    stops-S : (reply : List ℕ) → Holds false (step_s c (stops_s c reply None None))
    stops-S reply = moved-S c h c.snd.reader 0 nowhere _ reply (wire-stops w t _ _ _ _ _ _ _ h.inv)

    came-R : (n : ℕ)
        → Arrives c h o (take n c.to_r) (reads c.rcv.reader (take n c.to_r)).taken
        (receiver_takes (receiver_set w t) (now_of c.rcv) c.area (heard (reads c.rcv.reader (take n c.to_r))))
    came-R n = wire-came w t _ _ _ _ _ _ _ c.area c.tally h.kept n h.inv

    times-R : Arrives c h false [] 0 (receiver_times_out (now_of c.rcv) c.area c.rcv.core.state)
    unfolding feed
    times-R = rw (none_came c.rcv) (wire-times_r w t _ _ _ _ _ _ _ c.area c.tally h.kept)

    stops-R : Arrives c h false [] 0 (receiver_cancels (now_of c.rcv) c.area c.rcv.core.state)
    unfolding feed
    stops-R = rw (none_came c.rcv) (wire-stops_r w t _ _ _ _ _ _ _ c.area c.tally h.kept)

    pub calm_step : (act : Act) (reply : List ℕ) (lent handed : Option (List ℕ)) → Calm act
        → Does o c lent handed (checked w act c reply lent) (made w act c reply lent handed)
    unfolding transmit receive transmit_r' receive_r'
    calm_step transmit_s reply lent handed q =
        does-S c reply lent handed (status_of c.snd (lent_or w.file lent) reply) (leaves_s c reply) (status-S c h reply lent) refl h (leaves-S reply)
    calm_step (receive_s n) reply lent handed q =
        does-S c reply lent handed (status_of c.snd (lent_or w.file lent) reply) (hears_s c n reply) (status-S c h reply lent) refl h (hears-S n reply)
    calm_step timeout_s reply lent handed q = absurd q
    calm_step cancel_s reply lent handed q = absurd q
    calm_step transmit_r reply lent handed q =
        rw (← (status-R c h reply lent)) (refused-R c h lent handed (status_r c.rcv (lent_or c.area lent) reply) reply)
    calm_step (receive_r n) reply lent handed q =
        does-R c reply lent handed (status_r c.rcv (lent_or c.area lent) reply) (hears_r c n reply) (hands c n) (status-R c h reply lent) refl refl h
        (rw h.receiver_settings (moved-R c h (take n c.to_r) (reads c.rcv.reader (take n c.to_r)).taken _ reply (came-R n)))
        (rw (h.watched, h.receiver_settings) (refl, sent-whole _ reply (came-R n).brief))
    calm_step timeout_r reply lent handed q = absurd q
    calm_step cancel_r reply lent handed q = absurd q

  pub any_step : (c : Config) → Holds false c → (act : Act) (reply : List ℕ) (lent handed : Option (List ℕ))
      → Does false c lent handed (checked w act c reply lent) (made w act c reply lent handed)
  unfolding timeout cancel timeout_r' cancel_r' feed
  any_step c h transmit_s reply lent handed = calm_step c h transmit_s reply lent handed tt
  any_step c h (receive_s n) reply lent handed = calm_step c h (receive_s n) reply lent handed tt
  any_step c h timeout_s reply lent handed =
      does-S c reply lent handed (status_of c.snd (lent_or w.file lent) reply) (times_s c reply) (status-S c h reply lent) refl h (times-S c h reply)
  any_step c h cancel_s reply lent handed =
      does-S c reply lent handed (status_of c.snd (lent_or w.file lent) reply) (stops_s c reply) (status-S c h reply lent) refl h (stops-S c h reply)
  any_step c h transmit_r reply lent handed = calm_step c h transmit_r reply lent handed tt
  any_step c h (receive_r n) reply lent handed = calm_step c h (receive_r n) reply lent handed tt
  any_step c h timeout_r reply lent handed =
      does-R c reply lent handed (status_r c.rcv (lent_or c.area lent) reply) (times_r c reply) hands_none (status-R c h reply lent) refl refl h
      (moved-R c h [] 0 _ reply (times-R c h))
      (refl, sent-whole _ reply (times-R c h).brief)
  any_step c h cancel_r reply lent handed =
      does-R c reply lent handed (status_r c.rcv (lent_or c.area lent) reply) (stops_r c reply) hands_none (status-R c h reply lent) refl refl h
      (moved-R c h [] 0 _ reply (stops-R c h))
      (refl, sent-whole _ reply (stops-R c h).brief)

  -- ---- served

  module _ {o : Bool} (c : Config) (h : Holds o c) where
    own-length : (s : Bool) → length (pick s w.file c.area) ≡ pick s (length w.file) (length w.area)
    own-length true = refl
    own-length false = h.kept.room

    pub check_takes : (act : Act) (reply : List ℕ) → ended_at w act c ≡ false → 259 ≤ length reply → checked w act c reply None ≡ (Ok tt)
    check_takes act reply e l = check-taken (length reply) 0 (length (own_at w act c)) (given_to w act) e l (omega arith) (own-length (at_sender act))

  serves : (c : Config) → Holds false c → Serves w c
  serves c h = record {
    as_checked = λ k. (any_step c h k.act k.reply k.lent k.handed).answers;
    refused = λ k. (any_step c h k.act k.reply k.lent k.handed).unmoved;
    taken = λ act reply e l. (any_step c h act reply None None).answers ∙ check_takes c h act reply e l;
    observed = λ k. (any_step c h k.act k.reply k.lent k.handed).observed;
  }

  -- ---- every list of calls

  any-run : (ks : List Call) (c : Config) → Fairly w ks c → Holds false c → Holds false (runs w ks c)
  any-run [] c f h = h
  any-run (k ∷ ks) c f h = any-run ks (step w k c) f.1 ((any_step c h k.act k.reply k.lent k.handed).keeps f.0)

  -- a timer or a stop that is refused changes nothing
  loosen-inv : {st : SenderState} {sr : Reader} {rs : ReceiverState} {rr : Reader} {v : Option Saved} {br bs : List ℕ} → WInv w t st sr rs rr v br bs true
      → WInv w t st sr rs rr v br bs false
  loosen-inv (in-phase g e f) = in-phase g e f

  pub loosen : (c : Config) → Holds true c → Holds false c
  loosen c h = record {
    sender_settings = h.sender_settings;
    receiver_settings = h.receiver_settings;
    array = h.array;
    inv = loosen-inv h.inv;
    kept = h.kept;
    laid = h.laid;
    watched = h.watched;
  }

  pub calm_call : (c : Config) (k : Call) → Holds true c → Fair k.lent k.handed (checked w k.act c k.reply k.lent)
      → NoStop k.act (checked w k.act c k.reply k.lent) → Holds true (step w k c)
  calm_call c k h f (inl q) = (calm_step c h k.act k.reply k.lent k.handed q).keeps f
  calm_call c k h f (inr e) = subst (Holds true) (sym ((any_step c (loosen c h) k.act k.reply k.lent k.handed).unmoved e).0) h

  pub calm_run : (ks : List Call) (c : Config) → Calmly w ks c → Fairly w ks c → Holds true c → Holds true (runs w ks c)
  calm_run [] c q f h = h
  calm_run (k ∷ ks) c q f h = calm_run ks (step w k c) q.1 f.1 (calm_call c k h f.0 q.0)

  -- ---- the beginning: neither end is refused

  sender-begins : begin w.name (length w.file) t.block t.stamp true ≡ begun_sender w.name (length w.file) t.block t.stamp true
  unfolding begin
  sender-begins = rw (w.named, le-leb (length w.file) 99999999 w.size, le-leb 1 t.block t.block_some, le-leb t.block 256 t.block_most)

  module _ (room : ℕ) (checks : Bool) (enough : length w.file ≤ room) where
    with-ours : (v : Saved) → Ours w v → with_saved room true checks v ≡ receiver_with R room true checks (Some v)
    unfolding with_saved
    with-ours v q = rw (le-leb v.kept v.size (omega (arith, q.kept, q.size)), le-leb v.size room (omega (arith, q.size)))

    receiver-begins : (v : Option Saved) → ((u : Saved) → v ≡ Some u → Ours w u)
        → receiver_by room checks (saved_bytes (form_by v)) ≡ receiver_with R room true checks v
    unfolding fresh resume
    receiver-begins None o = refl
    receiver-begins (Some v) o =
        let q = o v refl in
        let b = ours-back w v q in
        ap (receiver_by room checks) (ours-bytes w v q) ∙ ap (resume_by room true checks (record_bytes v)) b.1
        ∙ ap (with_saved room true checks) b.2 ∙ with-ours v q

  -- the two ends as they begin
  abbrev opened : Option Saved → Left → Config
  opened v l = record {
    snd = begun_sender w.name (length w.file) t.block t.stamp true;
    rcv = receiver_with R (length w.area) true t.checks v;
    area = l.area;
    to_r = [];
    to_s = [];
    watch = record { reader = fresh_reader false; awaits = false };
    tally = l.tally;
    laid = l.laid;
  }

  fresh-waits : Waits (fresh_reader false).pending 0 []
  fresh-waits = record { room = zeros-length 259; count = refl; bytes = refl }

  opened-holds : {o : Bool} (v : Option Saved) (l : Left) → Stored w v l.area l.tally → l.area ≡ l.laid → Holds o (opened v l)
  opened-holds v l h e =
      let a = zeros-length 64 in
      let n = name-short w v h.ours in
      record {
        sender_settings = rw (name_back w.name (zeros 64) a (name-length w.name w.named).1);
        receiver_settings = refl;
        array = name-room (name_of v) (zeros 64) a n;
        inv = in-phase g0 (idle fresh-waits refl) (idle fresh-waits refl);
        kept = rw (saved-back v (zeros 64) a n) h;
        laid = e;
        watched = refl;
      }

  pub begun : {o : Bool} (l : Left) → Between w l → Holds o (begins w t l)
  begun l b =
      rw (sender-begins, b.bytes, receiver-begins (length w.area) t.checks w.fits b.saved b.stored.ours)
      (opened-holds b.saved l b.stored b.laid)

  -- ---- the end: a good phase that is quiescent is the last

  nonempty : {P : Type 0} {c : Content} {l : List Content} → c ∷ l ≡ [] → P
  nonempty e = let z : ◌≡◌ {A = ℕ} 0 1 = cc in absurd (omega arith)

  -- something is on the way to an end that has not ended
  busy : {P : Type 0} {c : Content} {l : List Content} → (false ≡ true) ⊎ (c ∷ l ≡ []) → P
  busy (inl e) = absurd (false≢true e)
  busy (inr e) = nonempty e

  -- something would be sent
  talks : {P : Type 0} (m : Bool) {c : Content} → Formed c → (l : List Content) → length (writes m (c ∷ l)) ≡ 0 → P
  talks m f l e = absurd (omega (arith, ap length (writes-cons m f l), length-append (f.in_bytes m) (writes m l), some_bytes m f))

  record Done (st : SenderState) (rs : ReceiverState) (v : Option Saved) : Type 0 where
    sender : st ≡ Ended Success
    receiver : rs ≡ REnded Success
    kept : kept_of v ≡ length w.file

  last_block : {P : Type 0} (b : Bool) (p : ℕ) (x : Bool) → ltb p (length w.file) ≡ x
      → length (writes (block_move w t p b x).checked (block_move w t p b x).out) ≡ 0 → P
  last_block b p true e z =
      let q = next-is w t p (ltb-true p (length w.file) e) in
      talks b (block-formed (next_block w t p) q.filled q.most) [] z
  last_block b p false e z = talks b word-ef.formed [] z

  -- what a leave would send
  abbrev leaving : SenderState → Bool → List ℕ
  leaving st a = writes (sender_transmits (sender_set w t) w.file st a).checked (sender_transmits (sender_set w t) w.file st a).out

  last : {st : SenderState} {a : Bool} {rs : ReceiverState} {b : Bool} {v : Option Saved} {lr ls : List Content} → Good w t st a rs b v lr ls
      → (sender_ended st ≡ true) ⊎ (ls ≡ []) → (receiver_ended rs ≡ true) ⊎ (lr ≡ [])
      → (sender_ended st ≡ false → length (leaving st a) ≡ 0) → Done st rs v
  unfolding machine
  last (g0 {a = a}) x y z = talks a word-si.formed [] (z refl)
  last (g1 called) x y z = busy y
  last (g1 (again c)) x y z = busy y
  last (g2 c) x y z = busy x
  last (g3 called) x y z = busy y
  last (g3 (again c)) x y z = busy y
  last (g4 q) x y z = busy x
  last (g5 {b = b} {p = p} h r) x y z = last_block b p (ltb p (length w.file)) refl (z refl)
  last (g6 sent) x y z = busy y
  last (g6 (block d h r)) x y z = busy y
  last g7 x y z = busy x
  last g8 x y z = busy y
  last g9 x y z = busy x
  last g10 x y z = record { sender = refl; receiver = refl; kept = refl }

  -- nothing on the way over bytes is nothing over packets
  quiet-side : {r : Reader} {b : Bool} {flight : List ℕ} {l : List Content} → Encodes r flight l → (b ≡ true) ⊎ (flight ≡ []) → (b ≡ true) ⊎ (l ≡ [])
  quiet-side e (inl q) = inl q
  quiet-side e (inr q) = inr (encodes-quiet (rw q at e))

  wire-last : {st : SenderState} {sr : Reader} {rs : ReceiverState} {rr : Reader} {v : Option Saved} {br bs : List ℕ} → WInv w t st sr rs rr v br bs true
      → (sender_ended st ≡ true) ⊎ (bs ≡ []) → (receiver_ended rs ≡ true) ⊎ (br ≡ [])
      → (sender_ended st ≡ false → length (leaving st sr.checked) ≡ 0) → Done st rs v
  wire-last (in-phase g e f) x y z = last g (quiet-side f x) (quiet-side e y) z

  -- what a leave sends that is lent enough room
  sends-it : (m : Sender) (reply : List ℕ) → 259 ≤ length reply → settings_of m ≡ sender_set w t → sender_ended m.core.state ≡ false
      → (transmit m w.file reply).answer.sent ≡ length (leaving m.core.state m.reader.checked)
  unfolding transmit check_of
  sends-it m reply r e n =
      let size : length w.file ≡ m.core.size = sym (ap (λ (s : SenderSettings). s.size) e) in
      rw (n, le-ltb (length reply) 259 r, eq-eqb (length w.file) m.core.size size, e)

  complete : (c : Config) → Holds true c → Quiet w c → Complete w c
  complete c h q =
      let z : sender_ended c.snd.core.state ≡ false → length (leaving c.snd.core.state c.snd.reader.checked) ≡ 0 =
      λ n. sym (sends-it c.snd (zeros 259) (omega (arith, zeros-length 259)) h.sender_settings n) ∙ q.no-more-S (zeros 259) in
      let d = wire-last h.inv q.to_sender q.to_receiver z in
      let n : c.tally ≡ length w.file = omega (arith, h.kept.kept, d.kept) in
      record { sender = d.sender; receiver = d.receiver; file = (rw n at h.kept.front) ∙ take-length w.file }

-- ---- THE SESSION

-- SAFETY, over any calls
pub yapp-safe : (w : World) (t : Settings) (ks : List Call) (l : Left) → Between w l → Fairly w ks (begins w t l)
    → Between w (leaves (runs w ks (begins w t l)))
yapp-safe w t ks l b f =
    let h = any-run w t ks (begins w t l) f (begun w t l b) in
    record { saved = saved_in (runs w ks (begins w t l)).rcv; stored = h.kept; bytes = refl; laid = h.laid }

-- COMPLETION, without timers and stops, run to its end
pub yapp-complete : (w : World) (t : Settings) (ks : List Call) (l : Left) → Between w l → Fairly w ks (begins w t l) → Calmly w ks (begins w t l)
    → Quiet w (runs w ks (begins w t l)) → Complete w (runs w ks (begins w t l))
yapp-complete w t ks l b f q z = complete w t (runs w ks (begins w t l)) (calm_run w t ks (begins w t l) q f (begun w t l b)) z

-- SERVED, after any calls
pub yapp-served : (w : World) (t : Settings) (ks : List Call) (l : Left) → Between w l → Fairly w ks (begins w t l) → Serves w (runs w ks (begins w t l))
yapp-served w t ks l b f = serves w t (runs w ks (begins w t l)) (any-run w t ks (begins w t l) f (begun w t l b))
