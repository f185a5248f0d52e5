-- A session by extended #BIN# that has had neither timer nor stop comes to its end: what it has still to send and to take falls by as much as
-- each call sends and takes; and where no call sends or takes anything, both ends have ended. Assumes nothing.
use Rattle.std.specs.Prelude.{Ok, None, Option}
use Prim.Native.Nat.{ℕ, ◌+◌, ◌-◌, ◌*◌, ◌≤◌}
use mathlib.Core.Path.{◌≡◌, refl, ap}
use mathlib.Core.Logic.{inl, inr}
use mathlib.Core.Bool.{Bool, true, false}
use mathlib.Core.List.{List, [], ◌∷◌}
use native.Mathlib.Omega.{arith}
use lib.ListN.{length, take, drop, length-append}
use lib.Dec.{leb}
use Rattle.fields.specs.Pick.{pick}
use Rattle.fields.specs.Buffer.{over}
use Rattle.records.specs.Saved.{Saved}
use Rattle.calls.specs.declared.Outcome.TheVariants.{Success}
use Rattle.calls.specs.Checks.{check_of, is_taken}
use Rattle.bin.specs.declared.SenderState.{SenderState}
use Rattle.bin.specs.declared.SenderState.TheVariants.{Start, Wait, Send, Ended}
use Rattle.bin.specs.declared.ReceiverState.{ReceiverState}
use Rattle.bin.specs.Steps.{joined, SenderMove, sends_from, sender_takes, sender_ended, receiver_ended}
use Rattle.bin_sender.specs.Sender as sender
use Rattle.bin_receiver.specs.Receiver as receiver
use Rattle.transfers.specs.MachinesBin.{cut, sender_transmits, transmit, receiver_takes, receive}
use Rattle.transfers.specs.World.{World, Left, Act, transmit_s, timeout_s, cancel_s, transmit_r, timeout_r, cancel_r, receive_s, receive_r, Call, Calm, NoStop}
use Rattle.transfers.specs.Bin.{Settings, Config, begins, joins, front, behind_front, checked, made, step, step_by, runs, Fair, Fairly, Calmly, Quiet, work_of, work_in, work, ComesToEnd}
use Rattle.transfers.proofs.Calls.{by-check, by-fair}
use Rattle.transfers.proofs.Stored.{Between}
use Rattle.transfers.proofs.BinFrames.{cuts, sent_to, sent-one, line-said}
use Rattle.transfers.proofs.BinGood.{sent, frame, Good, g0, g1, g2, g3, g4, some_left, all_there, line_frame, our_room, our_sender, ok-some, ok_read}
use Rattle.transfers.proofs.BinTheorem.{settings-are, cfg, Now, Holds, holds, only_good, loosen, calm_step, all_calm, check_takes, serves, begun}

-- a way gets longer by what is sent: by one frame, or none
joins-more : (l : List (List ℕ)) (f : List ℕ) → (length (joins l f) ≡ length l + length (joins [] f)) × (length (joins [] f) ≤ 1)
joins-more l [] = (omega arith, omega arith)
joins-more l (x ∷ f) = (simp length-append, omega arith)

sent-more : (l out : List (List ℕ)) (reply : List ℕ)
    → (length (sent_to l out reply) ≡ length l + length (sent_to [] out reply)) × (length (sent_to [] out reply) ≤ 1)
sent-more l out reply = joins-more l (take (length (joined out)) (over 0 (joined out) reply))

behind-most : (l : List (List ℕ)) → length (behind_front l) ≤ length l
behind-most [] = omega arith
behind-most (f ∷ l) = omega arith

module _ (w : World) (t : Settings) where
  -- how many frames the sender has still to send, at most: the line, and one for each byte
  abbrev to_send : SenderState → ℕ
  to_send Start = 1 + length w.file
  to_send Wait = length w.file
  to_send (Send p) = length w.file - p
  to_send (Ended o) = 0

  -- how much is still to do, at most: a frame on the way to the sender is taken; one on the way to the receiver is taken, and answered by one
  -- that is sent and taken; and one that the sender has still to send is sent before that
  abbrev to_do : Config → ℕ
  to_do c = 4 * to_send c.snd.core.state + (3 * length c.to_r + length c.to_s)

  -- a sender that goes on at n has the bytes behind n to send
  sends-most : (n : ℕ) → to_send (sends_from w.file n) ≤ length w.file - n
  unfolding sends_from
  sends-most n = go (leb (length w.file) n)
    where
      go : (x : Bool) → to_send (pick x (Ended Success) (Send n)) ≤ length w.file - n
      go true = omega arith
      go false = omega arith

  -- ---- bounded

  module _ (reply : List ℕ) where
    -- the frames that a sender sends are among those that it had still to send
    abbrev Fewer : SenderState → SenderMove → Type 0
    Fewer s a = to_send a.state + length (sent_to [] a.out reply) ≤ to_send s

    -- at a leave; and when the front frame reaches it, which is the OK if there is one
    fewer : {s : SenderState} {r : ReceiverState} {v : Option Saved} {lr ls : List (List ℕ)} → Good w t s r v lr ls
        → Fewer s (sender_transmits (our_sender w t) w.file s) × Fewer s (sender_takes (our_sender w t) w.file s (front ls))
    unfolding sender_transmits sender_takes
    fewer g0 = (omega (arith, (sent-more [] (line_frame w t t.stamp ∷ []) reply).1), omega arith)
    fewer (g1 x) = (omega arith, omega arith)
    fewer (g2 {k = k} {q = q} x h) = (omega arith, rw (ok_read w t reply h q refl (ok-some w t h)) (omega (arith, sends-most k)))
    fewer (g3 {p = p} h x) =
        let d = cut t.block (drop p w.file) in
        let filled = (cuts w.file p t.block h t.block_some t.block_most).block.filled in
        (omega (arith, sends-most (p + length d), (sent-more [] (d ∷ []) reply).1), omega arith)
    fewer (g4 x y) = (omega arith, omega arith)

    -- a receiver sends at most one frame for one that it takes
    answered : (r : ReceiverState) (v : Option Saved) (area : List ℕ) (lr : List (List ℕ))
        → length (behind_front lr) + length (sent_to [] (receiver_takes (our_room w t) r v area (front lr)).out reply) ≤ length lr
    unfolding receiver_takes
    answered r v area [] = omega arith
    answered r v area (f ∷ lr) = omega (arith, (sent-more [] (receiver_takes (our_room w t) r v area f).out reply).1)

  -- what is still to do falls by as much as a call does
  abbrev Spends : Act → Config → List ℕ → Option (List ℕ) → Option (List ℕ) → Type 0
  Spends a c reply lent handed = let m = made w a c reply lent handed in work_of w c m + to_do (step_by w c lent m) ≤ to_do c

  -- a call that is taken
  taken-spends : {c : Config} → Holds w t true c → (a : Act) (reply : List ℕ) → Calm a → checked w a c reply None None ≡ (Ok tt)
      → Spends a c reply None None
  unfolding transmit sender.receive receiver.transmit receive
  taken-spends (holds {s = s} {lr = lr} n) transmit_s reply q e =
      rw (e, settings-are w t s)
      (omega (arith, (sent-more lr (sender_transmits (our_sender w t) w.file s).out reply).0, (fewer reply (only_good w t n.inv)).0))
  taken-spends (holds {s = s} {lr = lr} {ls = ls} n) (receive_s k) reply q e =
      rw (e, settings-are w t s)
      (omega (arith, (sent-more lr (sender_takes (our_sender w t) w.file s (front ls)).out reply).0, (fewer reply (only_good w t n.inv)).1, behind-most ls))
  taken-spends (holds n) transmit_r reply q e = omega arith
  taken-spends (holds {r = r} {v = v} {area = area} {lr = lr} {ls = ls} n) (receive_r k) reply q e =
      rw (e, n.tied)
      (omega (arith, (sent-more ls (receiver_takes (our_room w t) r v area (front lr)).out reply).0, answered reply r v area lr))
  taken-spends h timeout_s reply q e = absurd q
  taken-spends h cancel_s reply q e = absurd q
  taken-spends h timeout_r reply q e = absurd q
  taken-spends h cancel_r reply q e = absurd q

  -- one that is refused, which changes nothing
  refused-spends : {c : Config} → Holds w t true c → (a : Act) (reply : List ℕ) (lent handed : Option (List ℕ))
      → is_taken (checked w a c reply lent handed) ≡ false → Spends a c reply lent handed
  refused-spends h a reply lent handed e =
      let u = (serves w t (loosen w t h)).refused (record { act = a; reply = reply; lent = lent; handed = handed }) e in
      omega (arith, u.1, ap to_do u.0)

  spends : {c : Config} → Holds w t true c → (a : Act) (reply : List ℕ) (lent handed : Option (List ℕ))
      → Fair lent handed (checked w a c reply lent handed) → NoStop a (checked w a c reply lent handed) → Spends a c reply lent handed
  spends {c} h a reply lent handed f (inl q) =
      by-fair (Spends a c reply) f (refused-spends h a reply lent handed)
      (by-check (checked w a c reply None None) (refused-spends h a reply None None) (taken-spends h a reply q))
  spends h a reply lent handed f (inr e) = refused-spends h a reply lent handed e

  -- all calls together do no more than is to do at first
  bound : {c : Config} → Holds w t true c → (ks : List Call) → Fairly w ks c → Calmly w ks c → work w ks c ≤ to_do c
  bound h [] f q = omega arith
  bound {c = c} h (k ∷ ks) f q =
      omega (arith, spends h k.act k.reply k.lent k.handed f.0 q.0, bound {c = step w k c} (calm_step w t k h f.0 q.0) ks f.1 q.1)

  -- ---- quiet_then

  -- both ends have ended: a leave of such a sender is refused, and a receiver sends nothing at any
  at-end : (c : Config) → sender_ended c.snd.core.state ≡ true → receiver_ended c.rcv.core.state ≡ true → Quiet w c
  unfolding transmit receiver.transmit check_of
  at-end c e f = record { to_sender = inl e; to_receiver = inl f; no-more-S = λ reply. rw e; no-more-R = λ reply. refl }

  module _ (k : ℕ) (reply : List ℕ) (l : 259 ≤ length reply) (arr area : List ℕ) (acc : Bool) (tally : ℕ) (laid : List ℕ) where
    -- in these states, with these frames on the way, no call has anything to do only if the session is at its end
    abbrev IdleEnds : SenderState → ReceiverState → Option Saved → List (List ℕ) → List (List ℕ) → Type 0
    IdleEnds s r v lr ls =
        let c = cfg w t s r v arr area lr ls acc tally laid in
        Now w t true s r v arr area lr ls acc tally laid → work_in w transmit_s c reply ≡ 0 → work_in w (receive_s k) c reply ≡ 0
        → work_in w (receive_r k) c reply ≡ 0 → Quiet w c

    -- the sender sends a frame
    sends : {s : SenderState} {r : ReceiverState} {v : Option Saved} {lr ls : List (List ℕ)} → sender_ended s ≡ false
        → 1 ≤ length (sent_to [] (sender_transmits (our_sender w t) w.file s).out reply) → IdleEnds s r v lr ls
    unfolding transmit
    sends {s} e f n x y z = absurd (omega (arith, rw (check_takes w t (holds n) transmit_s reply e l, settings-are w t s) at x))

    -- the receiver takes one
    takes : {s : SenderState} {r : ReceiverState} {v : Option Saved} {f : List ℕ} {lr ls : List (List ℕ)} → receiver_ended r ≡ false
        → IdleEnds s r v (f ∷ lr) ls
    takes e n x y z = absurd (omega (arith, rw (check_takes w t (holds n) (receive_r k) reply e l) at z))

    idle-ends : {s : SenderState} {r : ReceiverState} {v : Option Saved} {lr ls : List (List ℕ)} → Good w t s r v lr ls → IdleEnds s r v lr ls
    unfolding sender_transmits
    idle-ends g0 = sends refl (rw (sent-one [] (line_frame w t t.stamp) reply (line-said w t.reading t.stamp t.stamp_in_range).some_bytes) (omega arith))
    idle-ends (g1 x) = takes refl
    idle-ends (g2 o q) = λ n x y z. absurd (omega (arith, rw (check_takes w t (holds n) (receive_s k) reply refl l) at y))
    idle-ends (g3 {p = p} h x) =
        sends refl (rw (sent-one [] _ reply (cuts w.file p t.block h t.block_some t.block_most).block.filled) (omega arith))
    idle-ends (g4 (some_left h) sent) = absurd (omega arith)
    idle-ends (g4 (some_left h) (frame d c x)) = takes refl
    idle-ends (g4 (all_there e) f) = λ n x y z. at-end _ refl refl

  comes : {c : Config} → Holds w t true c → ComesToEnd w c
  comes {c} (holds n) = record {
    most = to_do c;
    bounded = bound (holds n);
    quiet_then = λ k reply l x u y z. idle-ends k reply l _ _ _ _ _ (only_good w t n.inv) n x y z;
  }

-- ENDING of a session
pub bin-ending : (w : World) (t : Settings) (ks : List Call) (l : Left) → Between w l → Fairly w ks (begins w t l) → Calmly w ks (begins w t l)
    → ComesToEnd w (runs w ks (begins w t l))
bin-ending w t ks l b f q = comes w t (all_calm w t ks (begins w t l) q (begun w t true l b) f)
