-- Whatever is in flight, the receiver stores only the file; and every call leads from a good phase to one, or to an end at rest.
-- Assumes nothing.
use Rattle.std.specs.Prelude.{Option}
use Prim.Native.Nat.{ℕ, ◌+◌, ◌-◌, ◌≤◌}
use mathlib.Core.Path.{◌≡◌, refl, sym}
use mathlib.Core.Bool.{Bool, true, false}
use mathlib.Core.List.{List, [], ◌∷◌, ◌++◌}
use mathlib.Core.Logic.{◌⊎◌, inl, inr}
use native.Mathlib.Omega.{arith}
use lib.ListN.{length}
use lib.Dec.{ltb, leb, eqb}
use Rattle.fields.specs.Pick.{pick}
use Rattle.records.specs.Saved.{Saved}
use Rattle.packets.specs.Content.{Content, af, at, ca, si, ef, unfinished}
use Rattle.packets.specs.Kind.{CA, CN, kind_of}
use Rattle.packets.proofs.KindLaws.{resume-cases}
use Rattle.calls.specs.declared.Outcome.{Outcome}
use Rattle.calls.specs.declared.Outcome.TheVariants.{Success, Unexpected, Short, NotOurs, TimedOut, Stopped}
use Rattle.yapp.specs.declared.SenderState.{SenderState}
use Rattle.yapp.specs.declared.SenderState.TheVariants.{S, SH, SD, SE, ST, CW, Ended}
use Rattle.yapp.specs.declared.ReceiverState.{ReceiverState}
use Rattle.yapp.specs.declared.ReceiverState.TheVariants.{R, RH, RD, CW as RCW, Ended as REnded}
use Rattle.yapp.specs.Rows
use Rattle.yapp.specs.Rows.{Action, nothing, abort, refused, cancelled, success, end_cw, answers, send_header, start, start_checked, resume, send_trailer, ready, judge, second, store}
use Rattle.yapp.specs.Steps.{SenderSettings, SenderMove, ReceiverSettings, ReceiverMove, sends, aborts, goes, fails, accepts, sender_resumes, sender_does, sender_takes, sender_transmits, sender_times_out, sender_cancels, receiver_does, receiver_times_out, receiver_cancels}
use Rattle.transfers.specs.MachinesYapp.{receiver_takes}
use Rattle.transfers.specs.World.{World, laid_by}
use Rattle.transfers.specs.Yapp.{data_in, Settings}
use Rattle.transfers.proofs.Stored.{Stored, Stores, mine, fits-saved, lays-none, unmoved, same, fallen, stored_more}
use Rattle.transfers.proofs.YappPhases.{machine, join, fall, fall_by, is_rd, Sees, now, called, again, Block, Dts, sent, block, Tail, silent, eof, trailer, stop, answer, RestS, waits_s, ended_s, RestR, waits_r, ended_r, sender_set, receiver_set, held, Reply, plainly, checking, resuming, Good, g0, g1, g2, g3, g4, g5, g6, g7, g8, g9, g10, Flight, resting, early, early-header, waiting, waiting-header, receiving, whole, Inv, good, fades, faded}
use Rattle.transfers.proofs.YappGood.{dts-append, calling-append, calling-none, Accepts, accepted, Keeps, keeps, reply-within, take-header, take-data}
use Rattle.transfers.proofs.YappWire.{Word, All, all_nil, all_cons, Brief, quiet, one, word-rr, word-rf, word-af, word_at, word-ca, word-rt, word-si, word-ef, word-et, word-cn, word-re, word-hd}

-- ---- an unfinished packet does nothing

pub sender-unfinished : (s : SenderSettings) (st : SenderState) (k : Bool) → sender_takes s st k unfinished ≡ sends st k []
unfolding machine
sender-unfinished s (S b n) k = refl
sender-unfinished s SH k = refl
sender-unfinished s (SD n) k = refl
sender-unfinished s SE k = refl
sender-unfinished s ST k = refl
sender-unfinished s (CW o) k = refl
sender-unfinished s (Ended o) k = refl

-- whatever it makes of the area
pub receiver-unfinished : (t : ReceiverSettings) (st : ReceiverState) (k : Bool) (v : Option Saved) (area : List ℕ)
    → receiver_takes t (now st k v) area unfinished ≡ goes (now st k v) (receiver_takes t (now st k v) area unfinished).area st []
unfolding machine
receiver-unfinished t R k v area = refl
receiver-unfinished t (RH false) k v area = refl
receiver-unfinished t (RH true) k v area = refl
receiver-unfinished t RD k v area = refl
receiver-unfinished t (RCW o) k v area = refl
receiver-unfinished t (REnded o) k v area = refl

-- and it lays nothing into the area
pub unfinished-lays : (w : World) (t : ReceiverSettings) (st : ReceiverState) (k : Bool) (v : Option Saved) (area : List ℕ) (n : ℕ)
    → (receiver_takes t (now st k v) area unfinished).area ≡ laid_by w n 0 area
unfolding machine
unfinished-lays w t R k v area n = sym (lays-none w n area)
unfinished-lays w t (RH false) k v area n = sym (lays-none w n area)
unfinished-lays w t (RH true) k v area n = sym (lays-none w n area)
unfinished-lays w t RD k v area n = sym (lays-none w n area)
unfinished-lays w t (RCW o) k v area n = sym (lays-none w n area)
unfinished-lays w t (REnded o) k v area n = sym (lays-none w n area)

tail-words : {l : List Content} → Tail l → All Word l
tail-words silent = all_nil
tail-words (eof q) = all_cons word-ef (tail-words q)
tail-words (trailer q) = all_cons word-et (tail-words q)
tail-words (stop q) = all_cons word-cn (tail-words q)
tail-words (answer q) = all_cons word-ca (tail-words q)

tail-append : {l u : List Content} → Tail u → Tail l → Tail (l ++ u)
tail-append q silent = q
tail-append q (eof x) = eof (tail-append q x)
tail-append q (trailer x) = trailer (tail-append q x)
tail-append q (stop x) = stop (tail-append q x)
tail-append q (answer x) = answer (tail-append q x)

module _ (w : World) (t : Settings) where
  pub reply-word : {k : ℕ} {b : Bool} {q : Content} → Reply w t k b q → Word q
  reply-word plainly = word-rf
  reply-word checking = word-rt
  reply-word (resuming {k} {c} h) = word-re k c (omega (arith, w.size))

  -- ---- the receiver

  module _ (area : List ℕ) (tally : ℕ) where
    -- what a receiver that was in st is at rest after an answer: none of the file came
    pub record Rested (st : ReceiverState) (b : Bool) (a : ReceiverMove) : Type 0 where
      pub rest : RestR a.state
      pub mode : a.checked ≡ b
      pub stored : Stores w area a.saved a.area (tally - fall a.out) 0
      pub brief : Brief a.out
      pub seen : Sees b st a

    -- what any receiver that was in st is after an answer, with l in flight; n bytes of the file came
    pub record Still (st : ReceiverState) (b : Bool) (a : ReceiverMove) (l : List Content) (n : ℕ) : Type 0 where
      pub mode : (a.checked ≡ b) ⊎ All Word l
      pub flight : Flight w t a.state a.saved l
      pub stored : Stores w area a.saved a.area (tally - fall a.out) n
      pub brief : Brief a.out
      pub seen : Sees b st a

    still-rests : {st : ReceiverState} {b : Bool} {a : ReceiverMove} {l : List Content} → Rested st b a → Still st b a l 0
    still-rests r = record { mode = inl r.mode; flight = resting r.rest; stored = r.stored; brief = r.brief; seen = r.seen }

    at_rest : {was st : ReceiverState} {b : Bool} {v : Option Saved} {out : List Content} → RestR st → Brief out → fall out ≡ 0
        → Sees b was (goes (now st b v) area st out) → Stored w v area tally → Rested was b (goes (now st b v) area st out)
    at_rest q o e s h = record { rest = q; mode = refl; stored = rw e (same w h); brief = o; seen = s }

    fell : {b : Bool} {v : Option Saved} (st : ReceiverState) (o : Outcome) → Stored w v area tally → Rested st b (fails (now st b v) area o)
    unfolding machine fall_by
    fell st o h = at_rest waits_r (one word-cn) refl (record { mode = refl; awaits = refl }) h

    cancels : {b : Bool} {v : Option Saved} (st : ReceiverState) (o : Outcome) → Stored w v area tally
        → Rested st b (goes (now (REnded o) b v) area (REnded o) (ca ∷ []))
    unfolding machine fall_by
    cancels st o h = at_rest ended_r (one word-ca) refl (record { mode = refl; awaits = refl }) h

    ends : {b : Bool} {v : Option Saved} (st : ReceiverState) → Stored w v area tally
        → Rested st b (goes (now (REnded Success) b v) area (REnded Success) (at ∷ []))
    unfolding machine fall_by
    ends st h = at_rest ended_r (one word_at) refl (record { mode = refl; awaits = refl }) h

    rest-cw : (o : Outcome) (b : Bool) (v : Option Saved) (x y : Bool) (c : Content) → Stored w v area tally
        → Rested (RCW o) b (receiver_does (receiver_set w t) (now (RCW o) b v) area (pick x end_cw (pick y answers nothing)) c)
    unfolding machine fall_by
    rest-cw o b v true y c h = at_rest ended_r quiet refl (record { mode = refl; awaits = refl }) h
    rest-cw o b v false true c h = at_rest waits_r (one word-ca) refl (record { mode = refl; awaits = refl }) h
    rest-cw o b v false false c h = at_rest waits_r quiet refl (record { mode = refl; awaits = refl }) h

    pub rest_take : {st : ReceiverState} (b : Bool) (v : Option Saved) (c : Content) → RestR st → Stored w v area tally
        → Rested st b (receiver_takes (receiver_set w t) (now st b v) area c)
    unfolding machine
    rest_take b v c (waits_r {o = o}) h = rest-cw o b v (eqb (kind_of c) CA) (eqb (kind_of c) CN) c h
    rest_take b v c ended_r h = at_rest ended_r quiet refl (record { mode = refl; awaits = refl }) h

    pub rest_times : (st : ReceiverState) (b : Bool) (v : Option Saved) → Stored w v area tally → Rested st b (receiver_times_out (now st b v) area st)
    unfolding machine
    rest_times R b v h = fell R TimedOut h
    rest_times (RH x) b v h = fell (RH x) TimedOut h
    rest_times RD b v h = fell RD TimedOut h
    rest_times (RCW o) b v h = at_rest ended_r quiet refl (record { mode = refl; awaits = refl }) h
    rest_times (REnded o) b v h = at_rest ended_r quiet refl (record { mode = refl; awaits = refl }) h

    pub rest_stops : (st : ReceiverState) (b : Bool) (v : Option Saved) → Stored w v area tally → Rested st b (receiver_cancels (now st b v) area st)
    unfolding machine
    rest_stops R b v h = fell R Stopped h
    rest_stops (RH x) b v h = fell (RH x) Stopped h
    rest_stops RD b v h = fell RD Stopped h
    rest_stops (RCW o) b v h = at_rest waits_r quiet refl (record { mode = refl; awaits = refl }) h
    rest_stops (REnded o) b v h = at_rest ended_r quiet refl (record { mode = refl; awaits = refl }) h

    -- a good or a fading phase
    moves : {was st : ReceiverState} {b : Bool} {v : Option Saved} {out l : List Content} → Brief out → fall out ≡ 0
        → Sees b was (goes (now st b v) area st out) → Flight w t st v l → Stored w v area tally → Still was b (goes (now st b v) area st out) l 0
    moves o e s f h = record { mode = inl refl; flight = f; stored = rw e (same w h); brief = o; seen = s }

    take-eof : (b : Bool) (k : ℕ) (l : List Content) → Tail l → Stored w (held w t k) area tally
        → Still RD b (receiver_takes (receiver_set w t) (now RD b (held w t k)) area ef) l 0
    unfolding machine fall_by
    take-eof b k l q h = go (eqb k (length w.file))
      where
        go : (x : Bool) → Still RD b (pick x (goes (now RD b (held w t k)) area (RH true) (af ∷ [])) (fails (now RD b (held w t k)) area Short)) l 0
        go true = moves (one word-af) refl (record { mode = refl; awaits = refl }) (whole q) h
        go false = still-rests (fell RD Short h)

    kept_on : {p : ℕ} {x l : List Content} {b : Bool} {k : ℕ} {d : List ℕ} {a : ReceiverMove} → Keeps w t b k d area a → Stored w (held w t k) area tally
        → Block w.file k d → Tail x → Dts w.file x (k + length d) p l → Still RD b a l (length d)
    unfolding machine
    kept_on {d = d} keeps h e q r = record {
      mode = inl refl;
      flight = receiving q r;
      stored = stored_more w d h e.fits e.is;
      brief = quiet;
      seen = record { mode = refl; awaits = refl };
    }

    -- RF, RT or RE is sent
    sees-reply : {st : ReceiverState} {c b : Bool} {k : ℕ} {q : Content} → Reply w t k b q → Sees c st (accepts area b (mine w t.stamp k) q)
    unfolding machine
    sees-reply plainly = record { mode = refl; awaits = refl }
    sees-reply checking = record { mode = refl; awaits = refl }
    sees-reply (resuming h) = record { mode = refl; awaits = refl }

    taken : {st : ReceiverState} {c : Bool} {v : Option Saved} {l : List Content} {a : ReceiverMove} → Accepts w t area tally a → Stored w v area tally → Tail l
        → Still st c a l 0
    taken (accepted {k = k} {q = p} r e) h q =
        let le : tally - fall_by p ≤ tally = omega arith in
        record {
          mode = inr (tail-words q);
          flight = receiving q sent;
          stored = unmoved w (fallen w (mine w t.stamp k) (tally - fall_by p) le h
              (record { name = refl; size = refl; kept = reply-within w t r; stamp = fits-saved t.stamp t.stamp_in_range }) e);
          brief = one (reply-word r);
          seen = sees-reply r;
        }

    pub still : {st : ReceiverState} {b : Bool} {v : Option Saved} {c : Content} {l : List Content} → Flight w t st v (c ∷ l) → Stored w v area tally
        → Still st b (receiver_takes (receiver_set w t) (now st b v) area c) l (data_in (is_rd st) c)
    unfolding machine fall_by
    still {b = b} {c = c} (resting {v = v} (waits_r {o = o})) h = still-rests (rest_take b v c (waits_r {o = o}) h)
    still {b = b} {c = c} (resting {v = v} (ended_r {o = o})) h = still-rests (rest_take b v c (ended_r {o = o}) h)
    still (early (eof q) called) h = still-rests (fell R Unexpected h)
    still (early (trailer q) called) h = still-rests (fell R Unexpected h)
    still (early (stop q) called) h = still-rests (cancels R _ h)
    still (early (answer q) called) h = still-rests (fell R Unexpected h)
    still (early q (again c)) h = moves (one word-rr) refl (record { mode = refl; awaits = refl }) (waiting q c) h
    still (early-header q called) h = still-rests (fell R Unexpected h)
    still (early-header q (again c)) h = moves (one word-rr) refl (record { mode = refl; awaits = refl }) (waiting-header q c) h
    still (waiting (eof q) called) h = still-rests (fell (RH false) Unexpected h)
    still (waiting (trailer q) called) h = still-rests (ends (RH false) h)
    still (waiting (stop q) called) h = still-rests (cancels (RH false) _ h)
    still (waiting (answer q) called) h = still-rests (fell (RH false) Unexpected h)
    still (waiting q (again c)) h = moves quiet refl (record { mode = refl; awaits = refl }) (waiting q c) h
    still {b = b} (waiting-header {v = v} q called) h = taken (take-header w t area tally b v h) h q
    still (waiting-header q (again c)) h = moves quiet refl (record { mode = refl; awaits = refl }) (waiting-header q c) h
    still {b = b} {l = l} (receiving {k = k} (eof q) sent) h = take-eof b k l q h
    still (receiving (trailer q) sent) h = still-rests (fell RD Unexpected h)
    still (receiving (stop q) sent) h = still-rests (cancels RD _ h)
    still (receiving (answer q) sent) h = still-rests (fell RD Unexpected h)
    still {b = b} (receiving {k = k} q (block d e r)) h = kept_on (take-data w t area b k d e.fits) h e q r
    still (whole (eof q)) h = still-rests (fell (RH true) Unexpected h)
    still (whole (trailer q)) h = still-rests (ends (RH true) h)
    still (whole (stop q)) h = still-rests (cancels (RH true) _ h)
    still (whole (answer q)) h = still-rests (fell (RH true) Unexpected h)

  -- ---- the sender

  pub flight_append : {st : ReceiverState} {v : Option Saved} {l u : List Content} → Tail u → Flight w t st v l → Flight w t st v (l ++ u)
  flight_append q (resting x) = resting x
  flight_append {u = u} q (early x c) = early (tail-append q x) (calling-append u c)
  flight_append {u = u} q (early-header x c) = early-header (tail-append q x) (calling-append u c)
  flight_append {u = u} q (waiting x c) = waiting (tail-append q x) (calling-append u c)
  flight_append {u = u} q (waiting-header x c) = waiting-header (tail-append q x) (calling-append u c)
  flight_append {u = u} q (receiving x r) = receiving (tail-append q x) (dts-append u r)
  flight_append q (whole x) = whole (tail-append q x)

  pub flight_of : {st : SenderState} {a : Bool} {rs : ReceiverState} {b : Bool} {v : Option Saved} {lr ls : List Content} → Good w t st a rs b v lr ls
      → Flight w t rs v lr
  flight_of g0 = early silent called
  flight_of (g1 c) = early silent (calling-none c)
  flight_of (g2 c) = waiting silent c
  flight_of (g3 c) = waiting-header silent c
  flight_of (g4 q) = receiving silent sent
  flight_of (g5 h r) = receiving silent r
  flight_of (g6 r) = receiving (eof silent) r
  flight_of g7 = whole silent
  flight_of g8 = whole (trailer silent)
  flight_of g9 = resting ended_r
  flight_of g10 = resting ended_r

  -- what a sender sends but for its data is a packet of the session or none
  brief-does : (st : SenderState) (k : Bool) (x : Action) (c : Content) → Brief (sender_does (sender_set w t) st k x c).out
  unfolding machine
  brief-does st k nothing c = quiet
  brief-does st k abort c = one word-cn
  brief-does st k refused c = quiet
  brief-does st k cancelled c = one word-ca
  brief-does st k success c = quiet
  brief-does st k end_cw c = quiet
  brief-does st k answers c = one word-ca
  brief-does st k send_header c = one (word-hd w t)
  brief-does st k start c = quiet
  brief-does st k start_checked c = quiet
  brief-does st k resume c =
      resume-cases (λ (a : SenderMove). Brief a.out) c (sender_resumes (sender_set w t) k) (sends st k [])
      (λ position checked. go position checked (leb position (length w.file)))
      quiet
    where
      go : (position : ℕ) (checked x : Bool) → Brief (pick x (sends (SD position) checked []) (aborts NotOurs k)).out
      go position checked true = quiet
      go position checked false = one word-cn
  brief-does st k send_trailer c = one word-et
  brief-does st k ready c = quiet
  brief-does st k Rows.trailer c = quiet
  brief-does st k judge c = quiet
  brief-does st k second c = quiet
  brief-does st k store c = quiet
  brief-does st k Rows.eof c = quiet

  pub brief_takes : (st : SenderState) (k : Bool) (c : Content) → Brief (sender_takes (sender_set w t) st k c).out
  unfolding sender_takes
  brief_takes st k c = brief-does st k _ c

  pub brief_times : (st : SenderState) (k : Bool) → Brief (sender_times_out st k).out
  unfolding machine
  brief_times (S true n) k = go (ltb n 3)
    where
      go : (x : Bool) → Brief (pick x (sends (S true (n + 1)) k (si ∷ [])) (aborts TimedOut k)).out
      go true = one word-si
      go false = one word-cn
  brief_times (S false n) k = quiet
  brief_times SH k = one word-cn
  brief_times (SD n) k = quiet
  brief_times SE k = one word-cn
  brief_times ST k = quiet
  brief_times (CW o) k = quiet
  brief_times (Ended o) k = quiet

  pub brief_stops : (st : SenderState) (k : Bool) → Brief (sender_cancels st k).out
  unfolding machine
  brief_stops (S b n) k = one word-cn
  brief_stops SH k = one word-cn
  brief_stops (SD n) k = one word-cn
  brief_stops SE k = one word-cn
  brief_stops ST k = one word-cn
  brief_stops (CW o) k = quiet
  brief_stops (Ended o) k = quiet

  abbrev sent_on : SenderMove → ReceiverState → Bool → Option Saved → List Content → List Content → Type 0
  sent_on a rs b v lr ls = Inv w t a.state a.checked rs b v (join lr a.out) ls

  -- what a sender at rest is after an answer
  pub record Fading (a : SenderMove) (rs : ReceiverState) (v : Option Saved) (lr : List Content) : Type 0 where
    pub rest : RestS a.state
    pub flight : Flight w t rs v (join lr a.out)

  fading-cw : (o : Outcome) (k : Bool) {rs : ReceiverState} {v : Option Saved} {lr : List Content} (x y : Bool) (c : Content) → Flight w t rs v lr
      → Fading (sender_does (sender_set w t) (CW o) k (pick x end_cw (pick y answers nothing)) c) rs v lr
  unfolding machine
  fading-cw o k true y c f = record { rest = ended_s; flight = f }
  fading-cw o k false true c f = record { rest = waits_s; flight = flight_append (answer silent) f }
  fading-cw o k false false c f = record { rest = waits_s; flight = f }

  -- a sender at rest receives, transmits, runs out of time
  pub fading_takes : {st : SenderState} (k : Bool) {rs : ReceiverState} {v : Option Saved} {lr : List Content} (c : Content) → RestS st → Flight w t rs v lr
      → Fading (sender_takes (sender_set w t) st k c) rs v lr
  unfolding machine
  fading_takes k c (waits_s {o = o}) f = fading-cw o k (eqb (kind_of c) CA) (eqb (kind_of c) CN) c f
  fading_takes k c ended_s f = record { rest = ended_s; flight = f }

  pub fading_leaves : {st : SenderState} (k : Bool) {rs : ReceiverState} {v : Option Saved} {lr : List Content} → RestS st → Flight w t rs v lr
      → Fading (sender_transmits (sender_set w t) w.file st k) rs v lr
  unfolding machine
  fading_leaves k waits_s f = record { rest = waits_s; flight = f }
  fading_leaves k ended_s f = record { rest = ended_s; flight = f }

  pub fading_times : {st : SenderState} (k : Bool) {rs : ReceiverState} {v : Option Saved} {lr : List Content} → RestS st → Flight w t rs v lr
      → Fading (sender_times_out st k) rs v lr
  unfolding machine
  fading_times k waits_s f = record { rest = ended_s; flight = f }
  fading_times k ended_s f = record { rest = ended_s; flight = f }

  -- a stop, in any state
  pub fading_stops : (st : SenderState) (k : Bool) {rs : ReceiverState} {v : Option Saved} {lr : List Content} → Flight w t rs v lr
      → Fading (sender_cancels st k) rs v lr
  unfolding machine
  fading_stops (S x n) k f = record { rest = waits_s; flight = flight_append (stop silent) f }
  fading_stops SH k f = record { rest = waits_s; flight = flight_append (stop silent) f }
  fading_stops (SD n) k f = record { rest = waits_s; flight = flight_append (stop silent) f }
  fading_stops SE k f = record { rest = waits_s; flight = flight_append (stop silent) f }
  fading_stops ST k f = record { rest = waits_s; flight = flight_append (stop silent) f }
  fading_stops (CW o) k f = record { rest = waits_s; flight = f }
  fading_stops (Ended o) k f = record { rest = ended_s; flight = f }

  pub quiet_leaves : {st : SenderState} (k : Bool) → RestS st → Brief (sender_transmits (sender_set w t) w.file st k).out
  unfolding machine
  quiet_leaves k waits_s = quiet
  quiet_leaves k ended_s = quiet

  timeout-S : (n : ℕ) {c : Bool} {rs : ReceiverState} {b : Bool} {v : Option Saved} {lr ls : List Content} (x : Bool)
      → Good w t (S true (n + 1)) c rs b v (lr ++ (si ∷ [])) ls → Flight w t rs v lr
      → sent_on (pick x (sends (S true (n + 1)) c (si ∷ [])) (aborts TimedOut c)) rs b v lr ls
  unfolding machine
  timeout-S n true g f = good g
  timeout-S n false g f = fades waits_s (flight_append (stop silent) f)

  pub good_times : {st : SenderState} {a : Bool} {rs : ReceiverState} {b : Bool} {v : Option Saved} {lr ls : List Content} → Good w t st a rs b v lr ls
      → sent_on (sender_times_out st a) rs b v lr ls
  unfolding machine
  good_times g0 = good g0
  good_times (g1 {n = n} c) = timeout-S n (ltb n 3) (g1 (calling-none (calling-append (si ∷ []) c))) (early silent (calling-none c))
  good_times (g2 {n = n} c) = timeout-S n (ltb n 3) (g2 (calling-none (calling-append (si ∷ []) c))) (waiting silent c)
  good_times (g3 c) = fades waits_s (flight_append (stop silent) (waiting-header silent c))
  good_times (g4 q) = fades waits_s (flight_append (stop silent) (receiving silent sent))
  good_times (g5 h r) = good (g5 h r)
  good_times (g6 r) = fades waits_s (flight_append (stop silent) (receiving (eof silent) r))
  good_times g7 = fades waits_s (whole (stop silent))
  good_times g8 = fades ended_s (whole (trailer silent))
  good_times g9 = faded ended_r
  good_times g10 = good g10
