-- Demand 3 for a session by extended #BIN#: what it leaves, and that one with neither timer nor stop that is run to its end is complete.
-- Assumes nothing.
use Rattle.calls.specs.declared.Refusal.TheVariants.{LongFrame, Over, SmallReply, WrongLength}
use Rattle.calls.specs.declared.Refusal.{Refusal}
use Rattle.std.specs.Prelude.{Err, Ok, Result, None, Option, Some}
use Prim.Native.Nat.{ℕ, ◌≤◌}
use mathlib.Core.Path.{subst, ◌≡◌, refl, ap, sym, ◌∙◌}
use mathlib.Core.Logic.{◌⊎◌, inl, inr}
use mathlib.Core.Bool.{Bool, true, false, false≢true}
use mathlib.Core.List.{List, [], ◌∷◌, append-nil}
use native.Mathlib.Omega.{arith}
use native.Mathlib.Nat.{add-zero}
use lib.ListN.{length, take, replicate}
use lib.Seq.{take-length}
use borrow.Author.Tests.{le-leb, eq-eqb}
use Rattle.fields.specs.Pick.{pick}
use Rattle.fields.specs.declared.Place.{Place}
use Rattle.fields.specs.Lists.{same}
use Rattle.fields.specs.Buffer.{over, appended}
use Rattle.lines.specs.Frame.{starts}
use Rattle.fields.proofs.Lists.{name-length}
use Rattle.records.specs.Saved.{Saved}
use Rattle.calls.specs.declared.Outcome.TheVariants.{Success, TimedOut, Stopped}
use Rattle.calls.specs.Checks.{check_of, is_taken}
use Rattle.calls.proofs.Laws.{taken-open, check-taken}
use Rattle.calls.specs.Saving.{saved_by, keeping_of, name_of, kept_of}
use Rattle.bin.specs.declared.Announce.TheVariants.{Extended}
use Rattle.bin_sender.specs.declared.Sender.{Sender}
use Rattle.bin.specs.declared.SenderState.{SenderState}
use Rattle.bin.specs.declared.SenderState.TheVariants.{Start, Send, Ended}
use Rattle.bin_receiver.specs.declared.Receiver.{Receiver}
use Rattle.bin.specs.declared.ReceiverState.{ReceiverState}
use Rattle.bin.specs.declared.ReceiverState.TheVariants.{Waiting, Ended as REnded}
use Rattle.bin.specs.Steps.{SenderMove, sender_takes, sender_fails, sender_ended, ReceiverMove, receiver_fails, receiver_ended}
use Rattle.bin.specs.Steps.{joined}
use Rattle.bin_sender.specs.Sender as sender
use Rattle.bin_receiver.specs.Receiver as receiver
use Rattle.calls.specs.Saving.{form_by}
use Rattle.transfers.specs.MachinesBin.{sender_transmits, transmit, fresh, resume, receiver_takes, receive}
use Rattle.transfers.specs.World.{World, Left, Act, transmit_s, timeout_s, cancel_s, transmit_r, timeout_r, cancel_r, receive_s, receive_r, Call, lent_or, saved_bytes, laid_by, Calm, NoStop}
use Rattle.transfers.specs.Bin.{Settings, Config, receiver_by, begins, front, behind_front, accepted_by, file_in, step_s, step_r, ended_at, checked, Made, by_sender, by_receiver, made, step_by, step, runs, Fair, own, refused, Fairly, Calmly, Quiet, Complete, work_of, status_in, Serves, leaves}
use Rattle.transfers.proofs.Calls.{sent_is, lent_back}
use Rattle.transfers.proofs.Stored.{Ours, Stored, Between, lays-none, ours-form, ours-back, name_back, saved-back, name-room, name-short}
use Rattle.transfers.proofs.BinFrames.{cuts, sent_to, Short, short-sent, line-said}
use Rattle.transfers.proofs.BinGood.{sent, frame, is_taking, Good, g0, g1, g2, g3, g4, some_left, all_there, Inv, good, our_room, our_sender, inv-leaves, inv-takes_s, inv-fails_s, TakenOn, inv-takes_r, inv_nothing, inv-fails_r, front_short}

-- ---- the two structs in a session

module _ (w : World) (t : Settings) where
  abbrev pub sender_at : SenderState → Sender
  sender_at st = sender.sender_with st (Extended t.stamp true t.reading) w.name (length w.file) t.block

  pub settings-are : (st : SenderState) → sender.settings_of (sender_at st) ≡ our_sender w t
  settings-are st = rw (name_back w.name (replicate 64 0) refl (name-length w.name w.named).1, le-leb t.block 256 t.block_most)

  abbrev pub receiver_at : ReceiverState → Option Saved → List ℕ → Receiver
  receiver_at st v arr =
      record { name = arr; core = record { state = st; room = length w.area; resumes = true; reading = t.reading; keeping = keeping_of v } }

module _ (w : World) (t : Settings) where
  abbrev pub cfg : SenderState → ReceiverState → Option Saved → List ℕ → List ℕ → List (List ℕ) → List (List ℕ) → Bool → ℕ → List ℕ → Config
  cfg s r v arr area lr ls acc tally laid =
      record { snd = sender_at w t s; rcv = receiver_at w t r v arr; area = area; to_r = lr; to_s = ls; accepted = acc; tally = tally; laid = laid }

  -- what holds after every call; at true there was neither timer nor stop
  pub record Now (o : Bool) (s : SenderState) (r : ReceiverState) (v : Option Saved) (arr area : List ℕ) (lr ls : List (List ℕ)) (acc : Bool) (tally : ℕ) (laid : List ℕ) : Type 0 where
    pub array : length arr ≡ 64
    pub tied : saved_by (keeping_of v) arr ≡ v
    pub inv : Inv w t s r v lr ls o
    pub stored : Stored w v area tally
    pub account : area ≡ laid
    pub short : Short ls
    pub watched : receiver_ended r ≡ false → acc ≡ is_taking r

  pub data Holds (o : Bool) : Config → Type 0 where
    holds : {s : SenderState} {r : ReceiverState} {v : Option Saved} {arr area : List ℕ} {lr ls : List (List ℕ)} {acc : Bool} {tally : ℕ} {laid : List ℕ}
        → Now o s r v arr area lr ls acc tally laid → Holds o (cfg s r v arr area lr ls acc tally laid)

  -- what a call with the check x does: fairly made it leaves what holds, it answers as it is checked, and refused it changes nothing
  record Does (b : Bool) (c : Config) (lent handed : Option (List ℕ)) (x : Result (Unit {0}) Refusal) (m : Made w) : Type 0 where
    keeps : Fair lent handed x → Holds b (step_by w c lent m)
    answers : status_in w m ≡ x
    unmoved : is_taken x ≡ false → (step_by w c lent m ≡ c) × (work_of w c m ≡ 0)

  abbrev Serving : Bool → Act → Config → Type 0
  Serving b a c =
      (reply : List ℕ) (lent handed : Option (List ℕ)) → Does b c lent handed (checked w a c reply lent handed) (made w a c reply lent handed)

  module _ {o : Bool} {s : SenderState} {r : ReceiverState} {v : Option Saved} {arr area : List ℕ} {lr ls : List (List ℕ)} {acc : Bool} {tally : ℕ} {laid : List ℕ}
      (n : Now o s r v arr area lr ls acc tally laid) where
    abbrev now : Config
    now = cfg s r v arr area lr ls acc tally laid

    -- what a call with the status x answers, taken or refused
    abbrev answer_s : SenderMove → List ℕ → Result (Unit {0}) Refusal → sender.SenderAfter
    answer_s a reply x = sender.unless_refused x (sender_at w t s) reply (sender.replied (sender_at w t s) a reply)

    abbrev answer_r : Place → ReceiverMove → List ℕ → List ℕ → Result (Unit {0}) Refusal → receiver.ReceiverAfter
    answer_r shown a lent reply x = receiver.unless_refused x (receiver_at w t r v arr) lent reply (receiver.replied (receiver_at w t r v arr) shown a reply)

    -- a refused call at either end, which leaves all that was on the way
    refused-S : (lent handed : Option (List ℕ)) (x : Result (Unit {0}) Refusal) (reply : List ℕ) (left : List (List ℕ)) → left ≡ ls
        → Does o now lent handed x (by_sender (sender.refused_call (sender_at w t s) x reply) left)
    refused-S lent handed x reply left q = record { keeps = λ f. rw q (holds n); answers = refl; unmoved = λ e. (rw q, rw q (omega arith)) }

    refused-R : (lent handed : Option (List ℕ)) (x : Result (Unit {0}) Refusal) (reply : List ℕ) (left : List (List ℕ)) (came : ℕ) → left ≡ lr → came ≡ 0
        → Does o now lent handed x (by_receiver (receiver.refused_call (receiver_at w t r v arr) x (lent_or area lent) reply) left came)
    unfolding starts same
    refused-R lent handed x reply left came q z = record {
      keeps = λ f. rw (q, z, lent_back area lent, add-zero tally, lays-none w tally laid) (holds n);
      answers = refl;
      unmoved = λ e. (rw (q, z, lent_back area lent, add-zero tally, lays-none w tally laid), rw q (omega arith));
    }

    -- a call at the sender, which moves by the frame that is handed over and the file that is lent; left is what it leaves on the way, all of
    -- it where it is refused
    sender-call : (move : Option (List ℕ) → List ℕ → SenderMove) (left : Bool → List (List ℕ)) (reply : List ℕ) (lent handed : Option (List ℕ)) (x : Result (Unit {0}) Refusal)
        → left false ≡ ls → Short (left true) → Inv w t (move None w.file).state r v (sent_to lr (move None w.file).out reply) (left true) o
        → Does o now lent handed x (by_sender (answer_s (move handed (lent_or w.file lent)) reply x) (left (is_taken x)))
    sender-call move left reply lent handed (Ok tt) q z j = record { keeps = go lent handed; answers = refl; unmoved = λ e. absurd (false≢true (sym e)) }
      where
        go : (lent handed : Option (List ℕ)) → Fair lent handed (Ok tt)
            → Holds o (step_s now (answer_s (move handed (lent_or w.file lent)) reply (Ok tt)) (left true))
        go _ _ own = holds (record { array = n.array; tied = n.tied; inv = j; stored = n.stored; account = n.account; short = z; watched = n.watched })
        go lent handed (refused x) = absurd (false≢true (sym x))
    sender-call move left reply lent handed (Err Over) q z j = refused-S lent handed (Err Over) reply (left false) q
    sender-call move left reply lent handed (Err LongFrame) q z j = refused-S lent handed (Err LongFrame) reply (left false) q
    sender-call move left reply lent handed (Err SmallReply) q z j = refused-S lent handed (Err SmallReply) reply (left false) q
    sender-call move left reply lent handed (Err WrongLength) q z j = refused-S lent handed (Err WrongLength) reply (left false) q

    -- a call at the receiver, which moves by the frame that is handed over and the area that is lent; came is how many bytes of the file come
    -- with it, none where it is refused
    receiver-call : (move : Option (List ℕ) → List ℕ → ReceiverMove) (shown : Option (List ℕ) → Place) (left : Bool → List (List ℕ))
        (came : Option (List ℕ) → Bool → ℕ) (reply : List ℕ) (lent handed : Option (List ℕ)) (x : Result (Unit {0}) Refusal)
        → left false ≡ lr → came handed false ≡ 0 → (is_taken x ≡ true → receiver_ended r ≡ false)
        → (is_taken x ≡ true → TakenOn w t reply area tally r s (move None area) (left true) ls o (came None true))
        → Does o now lent handed x
        (by_receiver (answer_r (shown handed) (move handed (lent_or area lent)) (lent_or area lent) reply x) (left (is_taken x)) (came handed (is_taken x)))
    receiver-call move shown left came reply lent handed (Ok tt) q z y k =
        record { keeps = go lent handed; answers = refl; unmoved = λ e. absurd (false≢true (sym e)) }
      where
        j : TakenOn w t reply area tally r s (move None area) (left true) ls o (came None true)
        j = k refl

        go : (lent handed : Option (List ℕ)) → Fair lent handed (Ok tt)
            → Holds o (step_r w now lent (answer_r (shown handed) (move handed (lent_or area lent)) (lent_or area lent) reply (Ok tt)) (left true) (came handed true))
        go _ _ own =
            let l = name-short w (move None area).saved j.stored.stored.ours in
            holds {acc = accepted_by (take (length (joined (move None area).out)) (over 0 (joined (move None area).out) reply)) acc} (record {
              array = name-room (name_of (move None area).saved) arr n.array l;
              tied = saved-back (move None area).saved arr n.array l;
              inv = j.inv;
              stored = j.stored.stored;
              account = j.stored.laid ∙ ap (laid_by w tally (came None true)) n.account;
              short = short-sent ls (move None area).out reply j.short n.short;
              watched = λ e. rw (sent_is (joined (move None area).out) reply, n.watched (y refl)) (j.seen e);
            })
        go lent handed (refused x) = absurd (false≢true (sym x))
    receiver-call move shown left came reply lent handed (Err Over) q z y k = refused-R lent handed (Err Over) reply (left false) (came handed false) q z
    receiver-call move shown left came reply lent handed (Err LongFrame) q z y k = refused-R lent handed (Err LongFrame) reply (left false) (came handed false) q z
    receiver-call move shown left came reply lent handed (Err SmallReply) q z y k = refused-R lent handed (Err SmallReply) reply (left false) (came handed false) q z
    receiver-call move shown left came reply lent handed (Err WrongLength) q z y k = refused-R lent handed (Err WrongLength) reply (left false) (came handed false) q z

    -- ---- the calls
    does-transmit_s : Serving o transmit_s now
    unfolding transmit
    does-transmit_s reply lent handed =
        sender-call (λ (g : Option (List ℕ)) (file : List ℕ). sender_transmits (sender.settings_of (sender_at w t s)) file s) (λ (x : Bool). ls) reply lent handed
        (sender.status_of (sender_at w t s) 0 (lent_or w.file lent) reply) refl n.short
        (rw (settings-are w t s) (inv-leaves w t reply n.inv))

    does-transmit_r : Serving o transmit_r now
    unfolding receiver.transmit
    does-transmit_r reply lent handed = refused-R lent handed (receiver.status_of (receiver_at w t r v arr) 0 (lent_or area lent) reply) reply lr 0 refl refl

  short-behind : (ls : List (List ℕ)) → Short ls → Short (behind_front ls)
  short-behind [] h = h
  short-behind (f ∷ ls) h = h.1

  -- the front frame arrives, if there is one
  front-S : {o : Bool} {s : SenderState} {r : ReceiverState} {v : Option Saved} {lr : List (List ℕ)} (ls : List (List ℕ)) (reply : List ℕ) → Inv w t s r v lr ls o
      → Inv w t (sender_takes (our_sender w t) w.file s (front ls)).state r v
      (sent_to lr (sender_takes (our_sender w t) w.file s (front ls)).out reply) (behind_front ls) o
  unfolding sender_takes
  front-S [] reply i = i
  front-S (f ∷ ls) reply i = inv-takes_s w t reply i

  front-R : {o : Bool} {s : SenderState} {r : ReceiverState} {v : Option Saved} (lr : List (List ℕ)) {ls : List (List ℕ)} (reply area : List ℕ)
      (tally : ℕ) → Inv w t s r v lr ls o → Stored w v area tally
      → TakenOn w t reply area tally r s (receiver_takes (our_room w t) r v area (front lr)) (behind_front lr) ls o (file_in (is_taking r) (front lr))
  front-R {r = r} {v = v} [] reply area tally i h = inv_nothing w t reply area tally r v i h
  front-R (f ∷ lr) reply area tally i h = inv-takes_r w t reply area tally i h

  module _ {o : Bool} {s : SenderState} {r : ReceiverState} {v : Option Saved} {arr area : List ℕ} {lr ls : List (List ℕ)} {acc : Bool} {tally : ℕ} {laid : List ℕ}
      (n : Now o s r v arr area lr ls acc tally laid) (k : ℕ) where
    does-receive_s : Serving o (receive_s k) (now n)
    unfolding sender.receive
    does-receive_s reply lent handed =
        sender-call n (λ (g : Option (List ℕ)) (file : List ℕ). sender_takes (sender.settings_of (sender_at w t s)) file s (lent_or (front ls) g)) (λ (x : Bool). pick x (behind_front ls) ls) reply lent handed
        (sender.status_of (sender_at w t s) (length (lent_or (front ls) handed)) (lent_or w.file lent) reply) refl (short-behind ls n.short)
        (rw (settings-are w t s) (front-S ls reply n.inv))

    does-receive_r : Serving o (receive_r k) (now n)
    unfolding receive
    does-receive_r reply lent handed =
        receiver-call n (λ (g : Option (List ℕ)) (a : List ℕ). receiver_takes (our_room w t) r (saved_by (keeping_of v) arr) a (lent_or (front lr) g))
        (λ (g : Option (List ℕ)). receiver.shown_in r (lent_or (front lr) g)) (λ (x : Bool). pick x (behind_front lr) lr)
        (λ (g : Option (List ℕ)) (x : Bool). pick x (file_in acc (lent_or (front lr) g)) 0) reply lent handed
        (receiver.status_of (receiver_at w t r v arr) (length (lent_or (front lr) handed)) (lent_or area lent) reply) refl refl (taken-open _ _ _ _ _)
        (λ e. rw (n.watched (taken-open _ _ _ _ _ e), n.tied) (front-R lr reply area tally n.inv n.stored))

  module _ {s : SenderState} {r : ReceiverState} {v : Option Saved} {arr area : List ℕ} {lr ls : List (List ℕ)} {acc : Bool} {tally : ℕ} {laid : List ℕ}
      (n : Now false s r v arr area lr ls acc tally laid) where
    does-timeout_s : Serving false timeout_s (now n)
    unfolding sender.timeout
    does-timeout_s reply lent handed =
        sender-call n (λ (g : Option (List ℕ)) (file : List ℕ). sender_fails TimedOut s) (λ (x : Bool). ls) reply lent handed
        (sender.status_of (sender_at w t s) 0 (lent_or w.file lent) reply) refl n.short
        (inv-fails_s w t reply TimedOut n.inv)

    does-cancel_s : Serving false cancel_s (now n)
    unfolding sender.cancel
    does-cancel_s reply lent handed =
        sender-call n (λ (g : Option (List ℕ)) (file : List ℕ). sender_fails Stopped s) (λ (x : Bool). ls) reply lent handed
        (sender.status_of (sender_at w t s) 0 (lent_or w.file lent) reply) refl n.short
        (inv-fails_s w t reply Stopped n.inv)

    does-timeout_r : Serving false timeout_r (now n)
    unfolding receiver.timeout
    does-timeout_r reply lent handed =
        receiver-call n (λ (g : Option (List ℕ)) (a : List ℕ). receiver_fails TimedOut r (saved_by (keeping_of v) arr) a) (λ (g : Option (List ℕ)). receiver.nowhere) (λ (x : Bool). lr)
        (λ (g : Option (List ℕ)) (x : Bool). 0) reply lent handed
        (receiver.status_of (receiver_at w t r v arr) 0 (lent_or area lent) reply) refl refl (taken-open _ _ _ _ _)
        (λ e. rw n.tied (inv-fails_r w t reply area tally TimedOut r v n.stored))

    does-cancel_r : Serving false cancel_r (now n)
    unfolding receiver.cancel
    does-cancel_r reply lent handed =
        receiver-call n (λ (g : Option (List ℕ)) (a : List ℕ). receiver_fails Stopped r (saved_by (keeping_of v) arr) a) (λ (g : Option (List ℕ)). receiver.nowhere) (λ (x : Bool). lr)
        (λ (g : Option (List ℕ)) (x : Bool). 0) reply lent handed
        (receiver.status_of (receiver_at w t r v arr) 0 (lent_or area lent) reply) refl refl (taken-open _ _ _ _ _)
        (λ e. rw n.tied (inv-fails_r w t reply area tally Stopped r v n.stored))

  does-calm : {o : Bool} (a : Act) {c : Config} → Calm a → Holds o c → Serving o a c
  does-calm transmit_s q (holds n) = does-transmit_s n
  does-calm (receive_s k) q (holds n) = does-receive_s n k
  does-calm timeout_s q h = absurd q
  does-calm cancel_s q h = absurd q
  does-calm transmit_r q (holds n) = does-transmit_r n
  does-calm (receive_r k) q (holds n) = does-receive_r n k
  does-calm timeout_r q h = absurd q
  does-calm cancel_r q h = absurd q

  does : (a : Act) {c : Config} → Holds false c → Serving false a c
  does transmit_s h = does-calm transmit_s tt h
  does (receive_s k) h = does-calm (receive_s k) tt h
  does timeout_s (holds n) = does-timeout_s n
  does cancel_s (holds n) = does-cancel_s n
  does transmit_r h = does-calm transmit_r tt h
  does (receive_r k) h = does-calm (receive_r k) tt h
  does timeout_r (holds n) = does-timeout_r n
  does cancel_r (holds n) = does-cancel_r n

  all-kept : (ks : List Call) (c : Config) → Holds false c → Fairly w ks c → Holds false (runs w ks c)
  all-kept [] c h f = h
  all-kept (k ∷ ks) c h f = all-kept ks (step w k c) ((does k.act h k.reply k.lent k.handed).keeps f.0) f.1

  pub only_good : {s : SenderState} {r : ReceiverState} {v : Option Saved} {lr ls : List (List ℕ)} → Inv w t s r v lr ls true → Good w t s r v lr ls
  only_good (good g) = g

  pub loosen : {c : Config} → Holds true c → Holds false c
  loosen (holds n) = holds (record {
    array = n.array;
    tied = n.tied;
    inv = good (only_good n.inv);
    stored = n.stored;
    account = n.account;
    short = n.short;
    watched = n.watched;
  })

  -- a timer or a stop that is refused changes nothing
  pub calm_step : {c : Config} (k : Call) → Holds true c → Fair k.lent k.handed (checked w k.act c k.reply k.lent k.handed)
      → NoStop k.act (checked w k.act c k.reply k.lent k.handed) → Holds true (step w k c)
  calm_step k h f (inl q) = (does-calm k.act q h k.reply k.lent k.handed).keeps f
  calm_step k h f (inr e) = subst (Holds true) (sym ((does k.act (loosen h) k.reply k.lent k.handed).unmoved e).0) h

  pub all_calm : (ks : List Call) (c : Config) → Calmly w ks c → Holds true c → Fairly w ks c → Holds true (runs w ks c)
  all_calm [] c q h f = h
  all_calm (k ∷ ks) c q h f = all_calm ks (step w k c) q.1 (calm_step k h f.0 q.0) f.1

  -- ---- served

  -- what is on the way to an end that has not ended fits a frame
  short-S : (ls : List (List ℕ)) → Short ls → length (front ls) ≤ 256
  short-S [] h = omega arith
  short-S (f ∷ ls) h = h.0

  short-R : {o : Bool} {s : SenderState} {r : ReceiverState} {v : Option Saved} (lr : List (List ℕ)) {ls : List (List ℕ)} → Inv w t s r v lr ls o
      → receiver_ended r ≡ false → length (front lr) ≤ 256
  short-R [] i e = omega arith
  short-R (f ∷ lr) i e = front_short w t i e

  pub check_takes : {o : Bool} {c : Config} → Holds o c → (a : Act) (reply : List ℕ) → ended_at w a c ≡ false → 259 ≤ length reply
      → checked w a c reply None None ≡ (Ok tt)
  check_takes (holds n) transmit_s reply e l = check-taken (length reply) 0 (length w.file) (length w.file) e l (omega arith) refl
  check_takes (holds {ls = ls} n) (receive_s k) reply e l =
      check-taken (length reply) (length (front ls)) (length w.file) (length w.file) e l (short-S ls n.short) refl
  check_takes (holds n) timeout_s reply e l = check-taken (length reply) 0 (length w.file) (length w.file) e l (omega arith) refl
  check_takes (holds n) cancel_s reply e l = check-taken (length reply) 0 (length w.file) (length w.file) e l (omega arith) refl
  check_takes (holds {area = area} n) transmit_r reply e l = check-taken (length reply) 0 (length area) (length w.area) e l (omega arith) n.stored.room
  check_takes (holds {area = area} {lr = lr} n) (receive_r k) reply e l =
      check-taken (length reply) (length (front lr)) (length area) (length w.area) e l (short-R lr n.inv e) n.stored.room
  check_takes (holds {area = area} n) timeout_r reply e l = check-taken (length reply) 0 (length area) (length w.area) e l (omega arith) n.stored.room
  check_takes (holds {area = area} n) cancel_r reply e l = check-taken (length reply) 0 (length area) (length w.area) e l (omega arith) n.stored.room

  pub serves : {c : Config} → Holds false c → Serves w c
  serves h = record {
    as_checked = λ k. (does k.act h k.reply k.lent k.handed).answers;
    refused = λ k. (does k.act h k.reply k.lent k.handed).unmoved;
    taken = λ a reply e l. (does a h reply None None).answers ∙ check_takes h a reply e l;
  }

  -- ---- the beginning

  sender-begins : sender.begin w.name (length w.file) t.block t.stamp true t.reading ≡ sender_at w t Start
  unfolding sender.begin
  sender-begins = rw (w.named, le-leb (length w.file) 99999999 w.size, le-leb 1 t.block t.block_some, le-leb t.block 256 t.block_most)

  receiver-with : (u : Saved) → Ours w u
      → receiver.with_saved (length w.area) true t.reading u ≡ receiver_at w t Waiting (Some u) (appended 0 u.name (replicate 64 0))
  unfolding receiver.with_saved
  receiver-with u h =
      let x = h.kept in
      let y = h.size in
      let z = w.fits in
      let a : u.kept ≤ u.size = omega arith in
      let b : u.size ≤ length w.area = omega arith in
      rw (le-leb u.kept u.size a, le-leb u.size (length w.area) b)

  -- the record that is read back is the one that was written
  receiver-begins : (v : Option Saved) → ((u : Saved) → v ≡ Some u → Ours w u)
      → receiver_by (length w.area) t.reading (saved_bytes (form_by v)) ≡ receiver_at w t Waiting v (appended 0 (name_of v) (replicate 64 0))
  unfolding fresh resume
  receiver-begins None o = refl
  receiver-begins (Some u) o =
      let h = o u refl in
      let q = ours-back w u h in
      rw (ours-form w u h, q.1) (ap (receiver.with_saved (length w.area) true t.reading) q.2 ∙ receiver-with u h)

  pub begun : (o : Bool) (l : Left) → Between w l → Holds o (begins w t l)
  begun o l b =
      rw (sender-begins, b.bytes, receiver-begins b.saved b.stored.ours)
      (holds (record {
        array = name-room (name_of b.saved) (replicate 64 0) refl (name-short w b.saved b.stored.ours);
        tied = saved-back b.saved (replicate 64 0) refl (name-short w b.saved b.stored.ours);
        inv = good g0;
        stored = b.stored;
        account = b.laid;
        short = tt;
        watched = λ e. refl;
      }))

  -- ---- what a session leaves

  left_by : {c : Config} → Holds false c → Between w (leaves c)
  left_by (holds {v = v} n) = record { saved = v; stored = n.stored; bytes = rw n.tied; laid = n.account }

  -- ---- run to its end

  nothing-more : (s : SenderState) → sender_ended s ≡ false → ((reply : List ℕ) → (transmit (sender_at w t s) w.file reply).answer.sent ≡ 0)
      → length (joined (sender_transmits (our_sender w t) w.file s).out) ≡ 0
  unfolding transmit check_of
  nothing-more s e q = rw (e, eq-eqb (length w.file) (length w.file) refl, settings-are w t s) at (q (replicate 259 0))

  busy : {P : Type 0} {p : List ℕ} {l : List (List ℕ)} → (false ≡ true) ⊎ (p ∷ l ≡ []) → P
  busy (inl e) = absurd (false≢true e)
  busy (inr e) = let z : ◌≡◌ {A = ℕ} 0 1 = cc in absurd (omega arith)

  pub record Done (s : SenderState) (r : ReceiverState) (v : Option Saved) : Type 0 where
    sent-all : s ≡ Ended Success
    has_all : r ≡ REnded Success
    keeps-all : kept_of v ≡ length w.file

  done : {s : SenderState} {r : ReceiverState} {v : Option Saved} {lr ls : List (List ℕ)} → Good w t s r v lr ls
      → (sender_ended s ≡ true) ⊎ (ls ≡ []) → (receiver_ended r ≡ true) ⊎ (lr ≡ [])
      → ((reply : List ℕ) → (transmit (sender_at w t s) w.file reply).answer.sent ≡ 0) → Done s r v
  unfolding sender_transmits
  done g0 a b e =
      let z = nothing-more Start refl e in
      let y = (line-said w t.reading t.stamp t.stamp_in_range).some_bytes in
      absurd (omega (arith, simp (append-nil) at z))
  done (g1 x) a b e = busy b
  done (g2 s q) a b e = busy a
  done (g3 {p = p} h r) a b e =
      let z = nothing-more (Send p) refl e in
      let y = (cuts w.file p t.block h t.block_some t.block_most).block.filled in
      absurd (omega (arith, simp (append-nil) at z))
  done (g4 (some_left h) sent) a b e = absurd (omega arith)
  done (g4 (some_left h) (frame d c r)) a b e = busy b
  done (g4 (all_there q) r) a b e = record { sent-all = refl; has_all = refl; keeps-all = q }

  completes : {c : Config} → Holds true c → Quiet w c → Complete w c
  completes (holds {s = s} {r = r} {v = v} {tally = tally} n) q =
      let d = done (only_good n.inv) q.to_sender q.to_receiver q.no-more-S in
      let k : tally ≡ length w.file = sym n.stored.kept ∙ d.keeps-all in
      record { sender = d.sent-all; receiver = d.has_all; file = (rw k at n.stored.front) ∙ take-length w.file }

-- SAFETY of a session: what it leaves is again what the next one needs
pub bin-safe : (w : World) (t : Settings) (ks : List Call) (l : Left) → Between w l → Fairly w ks (begins w t l)
    → Between w (leaves (runs w ks (begins w t l)))
bin-safe w t ks l b f = left_by w t (all-kept w t ks (begins w t l) (begun w t false l b) f)

-- COMPLETION of a session
pub bin-complete : (w : World) (t : Settings) (ks : List Call) (l : Left) → Between w l → Fairly w ks (begins w t l) → Calmly w ks (begins w t l)
    → Quiet w (runs w ks (begins w t l)) → Complete w (runs w ks (begins w t l))
bin-complete w t ks l b f q e = completes w t (all_calm w t ks (begins w t l) q (begun w t true l b) f) e

-- SERVED, after any calls
pub bin-served : (w : World) (t : Settings) (ks : List Call) (l : Left) → Between w l → Fairly w ks (begins w t l) → Serves w (runs w ks (begins w t l))
bin-served w t ks l b f = serves w t (all-kept w t ks (begins w t l) (begun w t false l b) f)
