-- A session by YAPP that has had no timer and no stop comes to its end: every byte that is sent or taken brings it nearer.
-- Assumes nothing.
use Rattle.calls.specs.declared.Refusal.TheVariants.{LongFrame, Over, SmallReply, WrongLength}
use Rattle.calls.specs.declared.Refusal.{Refusal}
use Rattle.std.specs.Prelude.{Err, Ok, Result, None, Option}
use Prim.Native.Nat.{ℕ, ◌+◌, ◌-◌, ◌*◌, ◌≤◌}
use mathlib.Core.Path.{◌≡◌, refl, ◌∙◌}
use mathlib.Core.Bool.{Bool, true, false}
use mathlib.Core.List.{List, [], ◌∷◌, append-nil}
use mathlib.Core.Logic.{◌⊎◌, inl, inr}
use native.Mathlib.Omega.{arith}
use lib.ListN.{length, take, length-append, length-take, length-drop}
use lib.Dec.{ltb}
use borrow.Author.Tests.{ltb-true, ltb-false, eq-eqb, le-leb}
use Rattle.records.specs.Saved.{Saved}
use Rattle.packets.specs.Content.{Content}
use Rattle.packets.proofs.RoundTrip.{reply-fits}
use Rattle.packet_stream.specs.declared.Reader.{Reader}
use Rattle.packet_stream.specs.declared.Received.{Received}
use Rattle.packet_stream.specs.Reader.{receive as reads}
use Rattle.packet_stream.proofs.Feeding.{feed-within, feed-some}
use Rattle.calls.specs.Checks.{check_of, is_taken}
use Rattle.yapp.specs.declared.SenderState.{SenderState}
use Rattle.yapp.specs.declared.SenderState.TheVariants.{S, SH, SD, SE, ST, CW, Ended}
use Rattle.yapp.specs.declared.ReceiverState.{ReceiverState}
use Rattle.yapp.specs.declared.ReceiverState.TheVariants.{R, RH, RD, CW as RCW, Ended as REnded}
use Rattle.yapp.specs.Steps.{SenderMove, ReceiverMove, writes, sender_takes, sender_transmits, sender_ended, receiver_ended}
use Rattle.fields.specs.Lists.{nowhere}
use Rattle.yapp_sender.specs.Sender.{heard}
use Rattle.yapp_sender.specs.declared.Sender.{Sender}
use Rattle.yapp_sender.specs.Sender.{transmit, receive, replied, status_of, unless_refused}
use Rattle.yapp_receiver.specs.Receiver.{status_of as status_r}
use Rattle.transfers.specs.MachinesYapp.{receiver_takes, receive as receive_r', transmit as transmit_r'}
use Rattle.transfers.specs.World.{World, Left, Act, transmit_s, timeout_s, cancel_s, transmit_r, timeout_r, cancel_r, receive_s, receive_r, Call, Calm, NoStop}
use Rattle.transfers.specs.Yapp.{Settings, Config, begins, checked, made, step_by, step, runs, Fair, Fairly, Calmly, Quiet, work_of, work_in, work, ComesToEnd}
use Rattle.transfers.proofs.Calls.{sent_is, by-check, by-fair}
use Rattle.transfers.proofs.Stored.{Stored, Between}
use Rattle.transfers.proofs.YappPhases.{machine, now, called, again, sent, block, sender_set, receiver_set, Reply, plainly, checking, resuming, Good, g0, g1, g2, g3, g4, g5, g6, g7, g8, g9, g10}
use Rattle.transfers.proofs.YappGood.{next_block, next-is, block_move, Accepts, accepted, Keeps, keeps, take-header, take-data}
use Rattle.transfers.proofs.YappWire.{Formed, word-rr, word-af, word_at, word-si, word-ef, word-et, word-hd, block-formed, writes-none, writes-cons, some_bytes, View, waits, takes, view}
use Rattle.transfers.proofs.YappRest.{sender-unfinished, receiver-unfinished, reply-word}
use Rattle.transfers.proofs.YappBytes.{WInv, in-phase}
use Rattle.transfers.proofs.YappTheorem.{saved_in, Holds, status-S, status-R, check_takes, any_step, loosen, calm_call, calm_run, begun}

-- a packet has at most 259 bytes
written : (m : Bool) {c : Content} → Formed c → length (writes m (c ∷ [])) ≤ 259
written m {c} f = rw (writes-cons m f [], writes-none m, append-nil (f.in_bytes m)) (reply-fits m c (f.in_bytes m) (f.form m))

silent : (m : Bool) → length (writes m []) ≡ 0
silent m = rw (writes-none m) refl

module _ (w : World) (t : Settings) where
  -- how far each end is from its end: for each packet that it may still send more than twice 259, the most bytes that a packet has, since each
  -- is sent and taken
  abbrev far_s : SenderState → ℕ
  far_s (S false n) = 600 * (length w.file + 6)
  far_s (S true n) = 600 * (length w.file + 5)
  far_s SH = 600 * (length w.file + 4)
  far_s (SD p) = 600 * (length w.file - p + 3)
  far_s SE = 1200
  far_s ST = 600
  far_s (CW o) = 0
  far_s (Ended o) = 0

  abbrev far_r : ReceiverState → ℕ
  far_r R = 2400
  far_r (RH false) = 1800
  far_r RD = 1200
  far_r (RH true) = 600
  far_r (RCW o) = 0
  far_r (REnded o) = 0

  -- and with the bytes that are on the way
  abbrev far : Config → ℕ
  far c = far_s c.snd.core.state + far_r c.rcv.core.state + length c.to_r + length c.to_s

  -- an end that moves comes nearer by twice as many bytes as it sends
  abbrev NearerS : SenderState → SenderMove → Type 0
  NearerS st a = far_s a.state + 2 * length (writes a.checked a.out) ≤ far_s st

  abbrev NearerR : ReceiverState → ReceiverMove → Type 0
  NearerR rs a = far_r a.state + 2 * length (writes a.checked a.out) ≤ far_r rs

  -- ---- the sender

  replied-nearer : (a : Bool) {k : ℕ} {b : Bool} {q : Content} → Reply w t k b q → NearerS SH (sender_takes (sender_set w t) SH a q)
  unfolding machine
  replied-nearer a plainly = omega (arith, silent false)
  replied-nearer a checking = omega (arith, silent true)
  replied-nearer a (resuming {k} {c} h) = rw (le-leb k (length w.file) h) (omega (arith, silent c))

  takes-nearer : {st : SenderState} {a : Bool} {rs : ReceiverState} {b : Bool} {v : Option Saved} {c : Content} {lr ls : List Content}
      → Good w t st a rs b v lr (c ∷ ls) → NearerS st (sender_takes (sender_set w t) st a c)
  unfolding machine
  takes-nearer (g2 {a = a} c) = omega (arith, written a (word-hd w t).formed)
  takes-nearer (g4 {a = a} q) = replied-nearer a q
  takes-nearer (g7 {a = a}) = omega (arith, written a word-et.formed)
  takes-nearer (g9 {a = a}) = omega (arith, silent a)

  abbrev leaving : SenderState → Bool → SenderMove
  leaving st a = sender_transmits (sender_set w t) w.file st a

  -- a leave sends nothing, or some bytes, and then the sender is nearer
  data Leave (st : SenderState) (a : Bool) : Type 0 where
    nothing : (leaving st a).out ≡ [] → NearerS st (leaving st a) → Leave st a
    something : 1 ≤ length (writes (leaving st a).checked (leaving st a).out) → NearerS st (leaving st a) → Leave st a

  sent-some : (m : Bool) {c : Content} → Formed c → 1 ≤ length (writes m (c ∷ []))
  sent-some m f = rw (writes-cons m f [], writes-none m, append-nil (f.in_bytes m)) (some_bytes m f)

  block-leave : (b : Bool) (p : ℕ) → p ≤ length w.file → Leave (SD p) b
  unfolding machine
  block-leave b p h = something (go-some (ltb p (length w.file)) refl) (go (ltb p (length w.file)) refl)
    where
      go-some : (x : Bool) → ltb p (length w.file) ≡ x → 1 ≤ length (writes (block_move w t p b x).checked (block_move w t p b x).out)
      go-some true e =
          let q = next-is w t p (ltb-true p (length w.file) e) in
          sent-some b (block-formed (next_block w t p) q.filled q.most)
      go-some false e = sent-some b word-ef.formed

      go : (x : Bool) → ltb p (length w.file) ≡ x → NearerS (SD p) (block_move w t p b x)
      go true e =
          let q = next-is w t p (ltb-true p (length w.file) e) in
          omega (arith, q.filled, q.fits, written b (block-formed (next_block w t p) q.filled q.most))
      go false e = omega (arith, ltb-false p (length w.file) e, written b word-ef.formed)

  leave : {st : SenderState} {a : Bool} {rs : ReceiverState} {b : Bool} {v : Option Saved} {lr ls : List Content} → Good w t st a rs b v lr ls → Leave st a
  unfolding machine
  leave (g0 {a = a}) = something (sent-some a word-si.formed) (omega (arith, written a word-si.formed))
  leave (g1 {a = a} c) = nothing refl (omega (arith, silent a))
  leave (g2 {a = a} c) = nothing refl (omega (arith, silent a))
  leave (g3 {a = a} c) = nothing refl (omega (arith, silent a))
  leave (g4 {a = a} q) = nothing refl (omega (arith, silent a))
  leave (g5 {b = b} {p = p} h r) = block-leave b p h
  leave (g6 {a = a} r) = nothing refl (omega (arith, silent a))
  leave (g7 {a = a}) = nothing refl (omega (arith, silent a))
  leave (g8 {a = a}) = nothing refl (omega (arith, silent a))
  leave (g9 {a = a}) = nothing refl (omega (arith, silent a))
  leave (g10 {a = a}) = nothing refl (omega (arith, silent a))

  leave-nearer : {st : SenderState} {a : Bool} → Leave st a → NearerS st (leaving st a)
  leave-nearer (nothing e n) = n
  leave-nearer (something l n) = n

  -- ---- the receiver

  module _ (area : List ℕ) (tally : ℕ) where
    accepts-nearer : {a : ReceiverMove} → Accepts w t area tally a → NearerR (RH false) a
    accepts-nearer (accepted {b = b} r e) = omega (arith, written b (reply-word w t r).formed)

    keeps-nearer : {b : Bool} {k : ℕ} {d : List ℕ} {a : ReceiverMove} → Keeps w t b k d area a → NearerR RD a
    keeps-nearer {b = b} keeps = omega (arith, silent b)

    comes-nearer : {st : SenderState} {a : Bool} {rs : ReceiverState} {b : Bool} {v : Option Saved} {c : Content} {lr ls : List Content}
        → Good w t st a rs b v (c ∷ lr) ls → Stored w v area tally → NearerR rs (receiver_takes (receiver_set w t) (now rs b v) area c)
    unfolding machine
    comes-nearer (g1 {b = b} called) h = omega (arith, written b word-rr.formed)
    comes-nearer (g1 {b = b} (again c)) h = omega (arith, written b word-rr.formed)
    comes-nearer (g2 {b = b} (again c)) h = omega (arith, silent b)
    comes-nearer (g3 {b = b} {v = v} called) h = accepts-nearer (take-header w t area tally b v h)
    comes-nearer (g3 {b = b} (again c)) h = omega (arith, silent b)
    comes-nearer (g5 {b = b} {k = k} f (block d e r)) h = keeps-nearer (take-data w t area b k d e.fits)
    comes-nearer (g6 {b = b} sent) h = rw (eq-eqb (length w.file) (length w.file) refl) (omega (arith, written b word-af.formed))
    comes-nearer (g6 {b = b} {k = k} (block d e r)) h = keeps-nearer (take-data w t area b k d e.fits)
    comes-nearer (g8 {b = b}) h = omega (arith, written b word_at.formed)

  -- ---- with what a chunk came to

  heard-nearer : {st : SenderState} {a : Bool} {rs : ReceiverState} {b : Bool} {v : Option Saved} {lr ls : List Content} {bs : List ℕ} (g : Received)
      → Good w t st a rs b v lr ls → View bs ls g → NearerS st (sender_takes (sender_set w t) st a (heard g))
  heard-nearer {st} {a} g p (waits e x) = rw (e, sender-unfinished (sender_set w t) st a) (omega (arith, silent a))
  heard-nearer g p (takes e x) = rw e (takes-nearer p)

  came-nearer : {st : SenderState} {a : Bool} {rs : ReceiverState} {b : Bool} {v : Option Saved} {lr ls : List Content} {br : List ℕ} (area : List ℕ) (tally : ℕ)
      (g : Received) → Good w t st a rs b v lr ls → Stored w v area tally → View br lr g
      → NearerR rs (receiver_takes (receiver_set w t) (now rs b v) area (heard g))
  came-nearer {rs = rs} {b} {v} area tally g p h (waits e x) =
      rw (e, receiver-unfinished (receiver_set w t) rs b v area) (omega (arith, silent b))
  came-nearer area tally g p h (takes e x) = rw e (comes-nearer area tally p h)

  -- a reader takes at least one byte of a chunk that has one, and no more than there are
  some-taken : (r : Reader) (n : ℕ) {x : ℕ} {l u : List ℕ} → 1 ≤ n → u ≡ x ∷ l → 1 ≤ (reads r (take n u)).taken
  some-taken r n {x} {l} {u} h e =
      let s : 1 ≤ length (take n u) = rw (length-take n u, e) (omega arith) in
      omega (arith, (feed-some r.checked r.pending r.filled 0 (take n u) s).least)

  most-taken : (r : Reader) (n : ℕ) (l : List ℕ) → (reads r (take n l)).taken ≤ length l
  most-taken r n l = omega (arith, (feed-within r.checked r.pending r.filled 0 (take n l)).most, length-take n l)

  -- a call that sends no packet sends no byte, taken or refused
  quiet-S : (m : Sender) (x : Result (Unit {0}) Refusal) (reply : List ℕ) (a : SenderMove) → a.out ≡ []
      → (unless_refused x m reply (replied m m.reader 0 nowhere a reply)).answer.sent ≡ 0
  quiet-S m (Ok tt) reply a e = rw e (silent a.checked)
  quiet-S m (Err Over) reply a e = refl
  quiet-S m (Err LongFrame) reply a e = refl
  quiet-S m (Err SmallReply) reply a e = refl
  quiet-S m (Err WrongLength) reply a e = refl

  -- ---- the calls that are taken, lent their own file or area and handed what is on the way

  module _ (c : Config) (h : Holds w t true c) where
    abbrev Spends : Act → List ℕ → Type 0
    Spends a reply = work_in w a c reply + far (step_by w c None (made w a c reply None None)) ≤ far c

    abbrev phase : Type 0
    phase = WInv w t c.snd.core.state c.snd.reader c.rcv.core.state c.rcv.reader (saved_in c.rcv) c.to_r c.to_s true

    leaves : phase → Leave c.snd.core.state c.snd.reader.checked
    leaves (in-phase g e f) = leave g

    abbrev hearing : ℕ → SenderMove
    hearing n = sender_takes (sender_set w t) c.snd.core.state c.snd.reader.checked (heard (reads c.snd.reader (take n c.to_s)))

    hears : (n : ℕ) → phase → NearerS c.snd.core.state (hearing n)
    hears n (in-phase g e f) = heard-nearer (reads c.snd.reader (take n c.to_s)) g (view c.snd.reader n c.to_s f)

    abbrev coming : ℕ → ReceiverMove
    coming n =
        receiver_takes (receiver_set w t) (now c.rcv.core.state c.rcv.reader.checked (saved_in c.rcv)) c.area
        (heard (reads c.rcv.reader (take n c.to_r)))

    comes : (n : ℕ) → phase → NearerR c.rcv.core.state (coming n)
    comes n (in-phase g e f) = came-nearer c.area c.tally (reads c.rcv.reader (take n c.to_r)) g h.kept (view c.rcv.reader n c.to_r e)

    -- the status of a call at either end, with its own file or area
    at-S : (reply : List ℕ) → sender_ended c.snd.core.state ≡ false → 259 ≤ length reply → status_of c.snd w.file reply ≡ (Ok tt)
    at-S reply e l = status-S w t c h reply None ∙ check_takes w t c h transmit_s reply e l

    at-R : (reply : List ℕ) → receiver_ended c.rcv.core.state ≡ false → 259 ≤ length reply → status_r c.rcv c.area reply ≡ (Ok tt)
    at-R reply e l = status-R w t c h reply None ∙ check_takes w t c h transmit_r reply e l

    spends-transmit_s : (reply : List ℕ) → status_of c.snd w.file reply ≡ (Ok tt) → Spends transmit_s reply
    unfolding transmit
    spends-transmit_s reply e =
        let m = leaving c.snd.core.state c.snd.reader.checked in
        let n = leave-nearer (leaves h.inv) in
        rw (e, h.sender_settings, sent_is (writes m.checked m.out) reply) (simp length-append (omega arith))

    spends-receive_s : (n : ℕ) (reply : List ℕ) → status_of c.snd w.file reply ≡ (Ok tt) → Spends (receive_s n) reply
    unfolding receive
    spends-receive_s n reply e =
        let m = hearing n in
        let x = hears n h.inv in
        let y = most-taken c.snd.reader n c.to_s in
        rw (e, h.sender_settings, sent_is (writes m.checked m.out) reply) (simp (length-append, length-drop) (omega arith))

    spends-transmit_r : (reply : List ℕ) → Spends transmit_r reply
    unfolding transmit_r'
    spends-transmit_r reply = simp length-append (omega arith)

    spends-receive_r : (n : ℕ) (reply : List ℕ) → status_r c.rcv c.area reply ≡ (Ok tt) → Spends (receive_r n) reply
    unfolding receive_r'
    spends-receive_r n reply e =
        let m = coming n in
        let x = comes n h.inv in
        let y = most-taken c.rcv.reader n c.to_r in
        rw (e, h.receiver_settings, sent_is (writes m.checked m.out) reply) (simp (length-append, length-drop) (omega arith))

    -- something is on the way to an end that has not ended: some of it is taken
    takes-S : (n : ℕ) (reply : List ℕ) {x : ℕ} {l : List ℕ} → 1 ≤ n → status_of c.snd w.file reply ≡ (Ok tt) → c.to_s ≡ x ∷ l
        → 1 ≤ work_in w (receive_s n) c reply
    unfolding receive
    takes-S n reply m e q = let y = some-taken c.snd.reader n m q in rw e (omega arith)

    takes-R : (n : ℕ) (reply : List ℕ) {x : ℕ} {l : List ℕ} → 1 ≤ n → status_r c.rcv c.area reply ≡ (Ok tt) → c.to_r ≡ x ∷ l
        → 1 ≤ work_in w (receive_r n) c reply
    unfolding receive_r'
    takes-R n reply m e q = let y = some-taken c.rcv.reader n m q in rw e (omega arith)

    -- a call that is taken spends as many bytes as it sends and takes
    spends : (a : Act) (reply : List ℕ) → Calm a → checked w a c reply None ≡ (Ok tt) → Spends a reply
    spends transmit_s reply q e = spends-transmit_s reply (status-S w t c h reply None ∙ e)
    spends (receive_s n) reply q e = spends-receive_s n reply (status-S w t c h reply None ∙ e)
    spends timeout_s reply q e = absurd q
    spends cancel_s reply q e = absurd q
    spends transmit_r reply q e = spends-transmit_r reply
    spends (receive_r n) reply q e = spends-receive_r n reply (status-R w t c h reply None ∙ e)
    spends timeout_r reply q e = absurd q
    spends cancel_r reply q e = absurd q

    -- and one that is refused none
    idles : (a : Act) (reply : List ℕ) (lent handed : Option (List ℕ)) → is_taken (checked w a c reply lent) ≡ false
        → work_of w (made w a c reply lent handed) + far (step_by w c lent (made w a c reply lent handed)) ≤ far c
    idles a reply lent handed e =
        let u = (any_step w t c (loosen w t c h) a reply lent handed).unmoved e in
        rw (u.0, u.1) (omega arith)

    spends-call : (a : Act) (reply : List ℕ) (lent handed : Option (List ℕ)) → Fair lent handed (checked w a c reply lent) → NoStop a (checked w a c reply lent)
        → work_of w (made w a c reply lent handed) + far (step_by w c lent (made w a c reply lent handed)) ≤ far c
    spends-call a reply lent handed f (inr e) = idles a reply lent handed e
    spends-call a reply lent handed f (inl q) =
        by-fair (λ (l g : Option (List ℕ)). work_of w (made w a c reply l g) + far (step_by w c l (made w a c reply l g)) ≤ far c) f
        (idles a reply lent handed) (by-check (checked w a c reply None) (idles a reply None None) (spends a reply q))

    -- ---- a session in which nothing more is sent or taken is run to its end

    to_sender : (n : ℕ) (reply : List ℕ) → 1 ≤ n → 259 ≤ length reply → work_in w (receive_s n) c reply ≡ 0 → (x : Bool) → sender_ended c.snd.core.state ≡ x
        → (l : List ℕ) → c.to_s ≡ l → (sender_ended c.snd.core.state ≡ true) ⊎ (c.to_s ≡ [])
    to_sender n reply m r z true e l q = inl e
    to_sender n reply m r z false e [] q = inr q
    to_sender n reply m r z false e (b ∷ l) q = absurd (omega (arith, takes-S n reply m (at-S reply e r) q))

    to_receiver : (n : ℕ) (reply : List ℕ) → 1 ≤ n → 259 ≤ length reply → work_in w (receive_r n) c reply ≡ 0 → (x : Bool)
        → receiver_ended c.rcv.core.state ≡ x → (l : List ℕ) → c.to_r ≡ l → (receiver_ended c.rcv.core.state ≡ true) ⊎ (c.to_r ≡ [])
    to_receiver n reply m r z true e l q = inl e
    to_receiver n reply m r z false e [] q = inr q
    to_receiver n reply m r z false e (b ∷ l) q = absurd (omega (arith, takes-R n reply m (at-R reply e r) q))

    no_more : (reply : List ℕ) → 259 ≤ length reply → work_in w transmit_s c reply ≡ 0 → (x : Bool) → sender_ended c.snd.core.state ≡ x
        → Leave c.snd.core.state c.snd.reader.checked → (r : List ℕ) → (transmit c.snd w.file r).answer.sent ≡ 0
    unfolding transmit check_of
    no_more reply l z true e m r = rw e
    no_more reply l z false e (nothing o n) r = quiet-S c.snd (status_of c.snd w.file r) r _ (rw h.sender_settings o)
    no_more reply l z false e (something o n) r = absurd (omega (arith, o, rw (at-S reply e l, h.sender_settings) at z))

    idle-ends : (n : ℕ) (reply : List ℕ) → 1 ≤ n → 259 ≤ length reply → work_in w transmit_s c reply ≡ 0 → work_in w transmit_r c reply ≡ 0
        → work_in w (receive_s n) c reply ≡ 0 → work_in w (receive_r n) c reply ≡ 0 → Quiet w c
    unfolding transmit_r'
    idle-ends n reply m l a b d e = record {
      to_sender = to_sender n reply m l d (sender_ended c.snd.core.state) refl c.to_s refl;
      to_receiver = to_receiver n reply m l e (receiver_ended c.rcv.core.state) refl c.to_r refl;
      no-more-S = no_more reply l a (sender_ended c.snd.core.state) refl (leaves h.inv);
      no-more-R = λ r. refl;
    }

  bounded : (ks : List Call) (c : Config) → Holds w t true c → Fairly w ks c → Calmly w ks c → work w ks c ≤ far c
  bounded [] c h f q = omega arith
  bounded (k ∷ ks) c h f q =
      let s = spends-call c h k.act k.reply k.lent k.handed f.0 q.0 in
      let r = bounded ks (step w k c) (calm_call w t c k h f.0 q.0) f.1 q.1 in
      omega (arith, s, r)

-- ENDING of a session
pub yapp-ending : (w : World) (t : Settings) (ks : List Call) (l : Left) → Between w l → Fairly w ks (begins w t l) → Calmly w ks (begins w t l)
    → ComesToEnd w (runs w ks (begins w t l))
yapp-ending w t ks l b f q =
    let c = runs w ks (begins w t l) in
    let h = calm_run w t ks (begins w t l) q f (begun w t l b) in
    record { most = far w t c; bounded = λ ls. bounded w t ls c h; quiet_then = idle-ends w t c h }
