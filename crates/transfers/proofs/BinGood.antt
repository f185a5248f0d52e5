-- The invariant of an extended #BIN# session over the states of both ends, the record and the frames on the way, and what each step of an
-- end does to it. Assumes nothing.
use Rattle.std.specs.Prelude.{Option, Some, ℕ, None}
use Prim.Native.Nat.{ℕ, ◌+◌, ◌≤◌, ◌<◌}
use mathlib.Core.Path.{◌≡◌, refl, ap, sym, ◌∙◌}
use mathlib.Core.Logic.{◌≢◌}
use mathlib.Core.Bool.{Bool, true, false, false≢true}
use mathlib.Core.List.{List, [], ◌∷◌, ◌++◌, append-nil}
use native.Mathlib.Omega.{arith}
use lib.Dec.{eqb, leb}
use lib.ListN.{length, take, drop}
use lib.Seq.{take-length}
use borrow.Author.Tests.{leb-true, leb-false, le-leb, lt-leb, eq-eqb, eqb-true, eqb-false}
use Rattle.fields.specs.Pick.{pick}
use Rattle.fields.specs.Lists.{same}
use Rattle.fields.specs.Buffer.{appended}
use Rattle.fields.proofs.Lists.{same_refl}
use Rattle.crc.specs.Crc.{crc_by}
use Rattle.lines.specs.Frame.{starts, stop_frame}
use Rattle.lines.specs.Element.{ok_name, form_of}
use Rattle.records.specs.Saved.{Saved, stamp_fits}
use Rattle.calls.specs.declared.Outcome.{Outcome}
use Rattle.calls.specs.declared.Outcome.TheVariants.{Success, CheckFailed}
use Rattle.bin.specs.declared.Announce.TheVariants.{Extended}
use Rattle.bin.specs.declared.SenderState.{SenderState}
use Rattle.bin.specs.declared.SenderState.TheVariants.{Start, Wait, Send, Ended}
use Rattle.bin.specs.declared.ReceiverState.{ReceiverState}
use Rattle.bin.specs.declared.ReceiverState.TheVariants.{Waiting, Basic as TakesBasic, Extended as Takes, Ended as Over}
use Rattle.bin.specs.Steps.{bytes_in, heard, joined, SenderSettings, SenderMove, goes, sends_from, resumes_at, sender_hears, sender_takes, sender_fails, ReceiverSettings, ReceiverMove, answers, says, judge_whole, judge_record, judge_extended, receiver_hears, takes_frame, receiver_fails, receiver_ended}
use Rattle.transfers.specs.MachinesBin.{cut, sender_transmits, receiver_takes}
use Rattle.transfers.specs.World.{World}
use Rattle.transfers.specs.Bin.{Settings, accepted_by, file_in}
use Rattle.transfers.proofs.Stored.{Stored, Stores, unmoved, kept-within}
use Rattle.transfers.proofs.BinFrames.{Block, Cut, cuts, sent_to, sent-one, our_line, our_kept, line-said, ok-said, kept-said, ok-starts, kept-starts, stop-said, held, restamped, grown-by}

-- ---- the frames on the way to the receiver

-- l is the file from k to p in frames, and then t
pub data Frames (file : List ℕ) (t : List (List ℕ)) : ℕ → ℕ → List (List ℕ) → Type 0 where
  sent : {k : ℕ} → Frames file t k k t
  frame : {k p : ℕ} {l : List (List ℕ)} (d : List ℕ) → Cut file k d → Frames file t (k + length d) p l → Frames file t k p (d ∷ l)

frames-append : {file : List ℕ} {t : List (List ℕ)} {k p : ℕ} {l : List (List ℕ)} (u : List (List ℕ)) → Frames file t k p l
    → Frames file (t ++ u) k p (l ++ u)
frames-append u sent = sent
frames-append u (frame d h r) = frame d h (frames-append u r)

frames-snoc : {file : List ℕ} {k p : ℕ} {l : List (List ℕ)} (d : List ℕ) → Cut file p d → Frames file [] k p l
    → Frames file [] k (p + length d) (l ++ (d ∷ []))
frames-snoc d h sent = frame d h sent
frames-snoc d h (frame d' h' r) = frame d' h' (frames-snoc d h r)

frames-le : {file : List ℕ} {t : List (List ℕ)} {k p : ℕ} {l : List (List ℕ)} → Frames file t k p l → k ≤ p
frames-le sent = omega arith
frames-le (frame d h r) = omega (arith, frames-le r)

-- what a sender that has ended sent last
pub data Stops : List (List ℕ) → Type 0 where
  none_yet : Stops []
  stop-sent : Stops (stop_frame ∷ [])

-- a line was accepted, and the end is not reached
abbrev pub is_taking : ReceiverState → Bool
is_taking Waiting = false
is_taking (TakesBasic size kept) = true
is_taking (Takes crc) = true
is_taking (Over o) = false

pub data EndedS : SenderState → Type 0 where
  is-ended : {o : Outcome} → EndedS (Ended o)

pub data OverR : ReceiverState → Type 0 where
  is-over : {o : Outcome} → OverR (Over o)

module _ (w : World) (t : Settings) where
  abbrev pub line_frame : ℕ → List ℕ
  line_frame m = bytes_in (form_of (our_line w t.reading m))

  -- the receiver has k bytes: more are to come, or all are there
  pub data Stage (k : ℕ) : ReceiverState → Type 0 where
    some_left : k < length w.file → Stage k (Takes (crc_by t.reading w.file))
    all_there : k ≡ length w.file → Stage k (Over Success)

  -- the OK of a receiver that has k bytes
  pub data OkReply : ℕ → List ℕ → Type 0 where
    from_start : OkReply 0 (bytes_in (form_of (ok_name w.name)))
    from-kept : {k : ℕ} → k ≤ length w.file → OkReply k (bytes_in (form_of (our_kept w t.reading k)))

  -- the phases of a session with neither timer nor stop: nothing sent; the line, the OK, frames of the file on the way; all sent
  pub data Good : SenderState → ReceiverState → Option Saved → List (List ℕ) → List (List ℕ) → Type 0 where
    g0 : {v : Option Saved} → Good Start Waiting v [] []
    g1 : {v : Option Saved} {m : ℕ} → m ≤ 0xFFFFFFFF → Good Wait Waiting v (line_frame m ∷ []) []
    g2 : {k : ℕ} {s : ReceiverState} {m : Option ℕ} {q : List ℕ} → Stage k s → OkReply k q → Good Wait s (held w k m) [] (q ∷ [])
    g3 : {k p : ℕ} {m : Option ℕ} {l : List (List ℕ)} → p < length w.file → Frames w.file [] k p l
        → Good (Send p) (Takes (crc_by t.reading w.file)) (held w k m) l []
    g4 : {k : ℕ} {s : ReceiverState} {m : Option ℕ} {l : List (List ℕ)} → Stage k s → Frames w.file [] k (length w.file) l
        → Good (Ended Success) s (held w k m) l []

  -- what may be on the way to a receiver when the sender has ended
  pub data Flight : ReceiverState → Option Saved → List (List ℕ) → Type 0 where
    at_rest : {o : Outcome} {v : Option Saved} {l : List (List ℕ)} → Flight (Over o) v l
    no_line : {v : Option Saved} {l : List (List ℕ)} → Stops l → Flight Waiting v l
    a-line : {v : Option Saved} {m : ℕ} {l : List (List ℕ)} → m ≤ 0xFFFFFFFF → Stops l → Flight Waiting v (line_frame m ∷ l)
    frames : {k p : ℕ} {m : Option ℕ} {x l : List (List ℕ)} → Stops x → Frames w.file x k p l
        → Flight (Takes (crc_by t.reading w.file)) (held w k m) l

  -- a good phase, or one end at rest; at true only a good phase
  pub data Inv (s : SenderState) (r : ReceiverState) (v : Option Saved) (lr ls : List (List ℕ)) : Bool → Type 0 where
    good : {o : Bool} → Good s r v lr ls → Inv s r v lr ls o
    fades : EndedS s → Flight r v lr → Inv s r v lr ls false
    faded : OverR r → Inv s r v lr ls false

  -- ---- what a receiver answers to a frame of the file and to the line
  pub data Judged (k : ℕ) (m : Option ℕ) (area : List ℕ) (reply : List (List ℕ)) : ReceiverMove → Type 0 where
    judged : {s : ReceiverState} {n : ℕ} → Stage k s → Judged k m area reply (answers s (held w k m) area reply n)

  pub data Accepts (area : List ℕ) (tally : ℕ) : ReceiverMove → Type 0 where
    at : {k : ℕ} {s : ReceiverState} {m : Option ℕ} {q : List ℕ} → stamp_fits m ≡ true → Stage k s → OkReply k q → k ≡ tally
        → {n : ℕ} → Accepts area tally (answers s (held w k m) area (q ∷ []) n)

  -- both CRCs are those of the same file
  judge : (k : ℕ) (m : Option ℕ) (area : List ℕ) (reply : List (List ℕ)) (n tally : ℕ) → Stored w (held w k m) area tally
      → Judged k m area reply (judge_whole t.reading (crc_by t.reading w.file) (held w k m) area reply n)
  unfolding judge_whole
  judge k m area reply n tally h = go (eqb k (length w.file)) refl
    where
      go : (x : Bool) → eqb k (length w.file) ≡ x
          → Judged k m area reply (pick x
          (pick (eqb (crc_by t.reading (take (length w.file) area)) (crc_by t.reading w.file)) (answers (Over Success) (held w k m) area reply n)
          (answers (Over CheckFailed) None area (stop_frame ∷ []) n)) (answers (Takes (crc_by t.reading w.file)) (held w k m) area reply n))
      go true e =
          let q : k ≡ length w.file = eqb-true k (length w.file) e in
          let z : tally ≡ length w.file = sym h.kept ∙ q in
          let same-file : take (length w.file) area ≡ w.file = (rw z at h.front) ∙ take-length w.file in
          rw (eq-eqb _ _ (ap (crc_by t.reading) same-file)) (judged (all_there q))
      go false e =
          let q : k ≢ length w.file = eqb-false k (length w.file) e in
          let l = kept-within w (held w k m) h.ours in
          judged (some_left (omega arith))

  abbrev pub our_room : ReceiverSettings
  our_room = record { room = length w.area; resumes = true; reading = t.reading }

  take-frame : (k : ℕ) (m : Option ℕ) (area : List ℕ) (tally : ℕ) (d : List ℕ) → Stored w (held w k m) area tally → Cut w.file k d
      → Judged (k + length d) m (appended k d area) [] (receiver_takes our_room (Takes (crc_by t.reading w.file)) (held w k m) area d)
  unfolding receiver_takes takes_frame
  take-frame k m area tally [] h c = absurd (omega (arith, c.block.filled))
  take-frame k m area tally (b ∷ d) h c =
      rw (c.no_display, c.no_stop, le-leb (k + length (b ∷ d)) (length w.file) c.block.fits)
      (judge (k + length (b ∷ d)) m (appended k (b ∷ d) area) [] (length (b ∷ d)) (tally + length (b ∷ d)) (grown-by w (b ∷ d) h c.block).stored)

  accepts : {k : ℕ} {m : Option ℕ} {area : List ℕ} {tally : ℕ} {q : List ℕ} {a : ReceiverMove} → stamp_fits m ≡ true → OkReply k q → k ≡ tally
      → Judged k m area (q ∷ []) a → Accepts area tally a
  accepts f q e (judged s) = at f s q e

  line_kept : (v : Option Saved) (area : List ℕ) (tally : ℕ) (m : ℕ) → m ≤ 0xFFFFFFFF → Stored w v area tally
      → Accepts area tally (judge_record our_room v area (length w.file) (crc_by t.reading w.file) m true w.name)
  unfolding judge_record
  line_kept None area tally m x h =
      let f : stamp_fits (Some m) ≡ true = le-leb m 0xFFFFFFFF x in
      accepts f from_start h.kept
      (judge 0 (Some m) area (says (ok_name w.name)) 0 tally (restamped w 0 (Some m) h h.kept f))
  line_kept (Some v) area tally m x h =
      let o = h.ours v refl in
      let f : stamp_fits (Some m) ≡ true = le-leb m 0xFFFFFFFF x in
      let same_name : same v.name w.name ≡ true = rw o.name (same_refl w.name) in
      let same_size : eqb v.size (length w.file) ≡ true = eq-eqb _ _ o.size in
      let front : take v.kept area ≡ take v.kept w.file = rw h.kept h.front in
      rw (same_name, same_size, front)
      (accepts f (from-kept o.kept) h.kept
      (judge v.kept (Some m) area (says (our_kept w t.reading v.kept)) 0 tally (restamped w v.kept (Some m) h h.kept f)))

  line_read : (v : Option Saved) (area : List ℕ) (tally : ℕ) (m : ℕ) → m ≤ 0xFFFFFFFF → (f : List ℕ) → heard f ≡ our_line w t.reading m → 1 ≤ length f
      → Stored w v area tally → Accepts area tally (receiver_takes our_room Waiting v area f)
  unfolding receiver_takes receiver_hears judge_extended
  line_read v area tally m x [] e l h = absurd (omega arith)
  line_read v area tally m x (b ∷ f) e l h = rw (e, le-leb (length w.file) (length w.area) w.fits) (line_kept v area tally m x h)

  take-line : (v : Option Saved) (area : List ℕ) (tally : ℕ) (m : ℕ) → m ≤ 0xFFFFFFFF → Stored w v area tally
      → Accepts area tally (receiver_takes our_room Waiting v area (line_frame m))
  take-line v area tally m x h = let s = line-said w t.reading m x in line_read v area tally m x (line_frame m) s.heard_so s.some_bytes h

  -- a stop frame before the line is ignored; behind it it ends the receiver
  early-stop : (v : Option Saved) (area : List ℕ) → receiver_takes our_room Waiting v area stop_frame ≡ answers Waiting v area [] 0
  unfolding receiver_takes receiver_hears form_of
  early-stop v area = rw stop-said.heard_so

  ok-fits : {k : ℕ} {q : List ℕ} → OkReply k q → k ≤ length w.file
  ok-fits from_start = omega arith
  ok-fits (from-kept h) = h

  -- an OK starts as one
  reply-starts : {k : ℕ} {q : List ℕ} → OkReply k q → accepted_by (q ++ []) false ≡ true
  reply-starts from_start = rw (append-nil (bytes_in (form_of (ok_name w.name))), ok-starts w)
  reply-starts (from-kept {k = k} h) = rw (append-nil (bytes_in (form_of (our_kept w t.reading k))), kept-starts w t.reading k h)

  ok-short : {k : ℕ} {q : List ℕ} → OkReply k q → length q ≤ 256
  ok-short from_start = (ok-said w).in_frame
  ok-short (from-kept {k = k} h) = (kept-said w t.reading k h).in_frame

  pub ok-some : {k : ℕ} {q : List ℕ} → OkReply k q → 1 ≤ length q
  ok-some from_start = (ok-said w).some_bytes
  ok-some (from-kept {k = k} h) = (kept-said w t.reading k h).some_bytes

  abbrev pub our_sender : SenderSettings
  our_sender = record { announce = Extended t.stamp true t.reading; name = w.name; size = length w.file; block = t.block }

  -- ---- the sender's calls; reply is the buffer that is lent
  module _ (reply : List ℕ) where
    abbrev pub SentOn : SenderMove → ReceiverState → Option Saved → List (List ℕ) → List (List ℕ) → Bool → Type 0
    SentOn a r v lr ls o = Inv a.state r v (sent_to lr a.out reply) ls o

    send-frame : {o : Bool} {k p : ℕ} {m : Option ℕ} {l : List (List ℕ)} → p < length w.file → Frames w.file [] k p l
        → SentOn (sender_transmits our_sender w.file (Send p)) (Takes (crc_by t.reading w.file)) (held w k m) l [] o
    unfolding sender_transmits sends_from
    send-frame {o} {k} {p} {m} {l} h r = rw (sent-one l d reply c.block.filled) (go (leb (length w.file) (p + length d)) refl)
      where
        d : List ℕ
        d = cut t.block (drop p w.file)

        c : Cut w.file p d
        c = cuts w.file p t.block h t.block_some t.block_most

        go : (x : Bool) → leb (length w.file) (p + length d) ≡ x
            → Inv (pick x (Ended Success) (Send (p + length d))) (Takes (crc_by t.reading w.file)) (held w k m) (l ++ (d ∷ [])) [] o
        go true e =
            let q : p + length d ≡ length w.file = omega (arith, leb-true, c.block.fits) in
            let s : k < length w.file = omega (arith, frames-le r) in
            good (g4 (some_left s) (rw q at (frames-snoc d c r)))
        go false e =
            let q : p + length d < length w.file = omega (arith, leb-false) in
            good (g3 q (frames-snoc d c r))

    begins-at : {k : ℕ} {s : ReceiverState} {m : Option ℕ} {o : Bool} → Stage k s → Inv (sends_from w.file k) s (held w k m) [] [] o
    unfolding sends_from
    begins-at {k} (some_left h) = rw (lt-leb (length w.file) k h) (good (g3 h sent))
    begins-at {k} (all_there e) =
        let le : length w.file ≤ k = omega arith in
        rw (le-leb (length w.file) k le) (good (g4 {l = []} (all_there e) (rw e sent)))

    pub inv-leaves : {o : Bool} {s : SenderState} {r : ReceiverState} {v : Option Saved} {lr ls : List (List ℕ)} → Inv s r v lr ls o
        → SentOn (sender_transmits our_sender w.file s) r v lr ls o
    unfolding sender_transmits
    inv-leaves (good g0) =
        rw (sent-one [] (line_frame t.stamp) reply (line-said w t.reading t.stamp t.stamp_in_range).some_bytes) (good (g1 t.stamp_in_range))
    inv-leaves (good (g1 x)) = good (g1 x)
    inv-leaves (good (g2 s q)) = good (g2 s q)
    inv-leaves (good (g3 h r)) = send-frame h r
    inv-leaves (good (g4 s r)) = good (g4 s r)
    inv-leaves (fades is-ended x) = fades is-ended x
    inv-leaves (faded x) = faded x

    -- an OK is read
    pub ok_read : {k : ℕ} {q : List ℕ} → OkReply k q → (f : List ℕ) → f ≡ q → 1 ≤ length f
        → sender_takes our_sender w.file Wait f ≡ goes (sends_from w.file k) []
    unfolding sender_takes sender_hears resumes_at
    ok_read q [] e l = absurd (omega arith)
    ok_read from_start (b ∷ f) e l = rw (ap heard e ∙ (ok-said w).heard_so)
    ok_read (from-kept {k = k} h) (b ∷ f) e l =
        rw (ap heard e ∙ (kept-said w t.reading k h).heard_so, le-leb k (length w.file) h, eq-eqb (crc_by t.reading (take k w.file)) _ refl)

    pub inv-takes_s : {o : Bool} {s : SenderState} {r : ReceiverState} {v : Option Saved} {lr ls : List (List ℕ)} {f : List ℕ} → Inv s r v lr (f ∷ ls) o
        → SentOn (sender_takes our_sender w.file s f) r v lr ls o
    unfolding sender_takes
    inv-takes_s {f = f} (good (g2 s q)) = rw (ok_read q f refl (ok-some q)) (begins-at s)
    inv-takes_s {f = []} (fades is-ended x) = fades is-ended x
    inv-takes_s {f = b ∷ f} (fades is-ended x) = fades is-ended x
    inv-takes_s (faded x) = faded x

    pub inv-fails_s : {o : Bool} {s : SenderState} {r : ReceiverState} {v : Option Saved} {lr ls : List (List ℕ)} (n : Outcome) → Inv s r v lr ls o
        → SentOn (sender_fails n s) r v lr ls false
    unfolding sender_fails
    inv-fails_s n (good g0) = rw (sent-one [] stop_frame reply (omega arith)) (fades is-ended (no_line stop-sent))
    inv-fails_s n (good (g1 {m = m} x)) = rw (sent-one (line_frame m ∷ []) stop_frame reply (omega arith)) (fades is-ended (a-line x stop-sent))
    inv-fails_s n (good (g2 (some_left h) q)) = rw (sent-one [] stop_frame reply (omega arith)) (fades is-ended (frames stop-sent sent))
    inv-fails_s n (good (g2 (all_there e) q)) = faded is-over
    inv-fails_s n (good (g3 {l = l} h r)) =
        rw (sent-one l stop_frame reply (omega arith)) (fades is-ended (frames stop-sent (frames-append (stop_frame ∷ []) r)))
    inv-fails_s n (good (g4 s r)) = good (g4 s r)
    inv-fails_s n (fades is-ended x) = fades is-ended x
    inv-fails_s n (faded x) = faded x

  -- ---- the receiver's calls
  module _ (reply area : List ℕ) (tally : ℕ) where
    -- a receiver moved from r; n bytes of the file came
    pub record TakenOn (r : ReceiverState) (s : SenderState) (a : ReceiverMove) (lr ls : List (List ℕ)) (o : Bool) (n : ℕ) : Type 0 where
      pub inv : Inv s a.state a.saved lr (sent_to ls a.out reply) o
      pub stored : Stores w area a.saved a.area tally n
      pub short : length (joined a.out) ≤ 256
      pub seen : receiver_ended a.state ≡ false → accepted_by (joined a.out) (is_taking r) ≡ is_taking a.state

    -- nothing is sent, and a receiver that has not ended is where it was
    unseen : (b : Bool) → accepted_by [] b ≡ b
    unfolding starts same
    unseen b = refl

    stage-flight : {k p : ℕ} {s : ReceiverState} {m : Option ℕ} {x l : List (List ℕ)} → Stage k s → Stops x → Frames w.file x k p l
        → Flight s (held w k m) l
    stage-flight (some_left h) q r = frames q r
    stage-flight (all_there e) q r = at_rest

    stage-seen : {k : ℕ} {s : ReceiverState} {q : List ℕ} → Stage k s → OkReply k q → receiver_ended s ≡ false → accepted_by (q ++ []) false ≡ is_taking s
    stage-seen (some_left h) q e = reply-starts q
    stage-seen (all_there x) q e = absurd (false≢true (sym e))

    stage-stays : {k : ℕ} {s : ReceiverState} → Stage k s → receiver_ended s ≡ false → accepted_by [] true ≡ is_taking s
    stage-stays (some_left h) e = unseen true
    stage-stays (all_there x) e = absurd (false≢true (sym e))

    accept-good : {v : Option Saved} {a : ReceiverMove} {o : Bool} → Accepts area tally a → Stored w v area tally → TakenOn Waiting Wait a [] [] o 0
    accept-good (at {k = k} {m = m} {q = p} f s q e) h = record {
      inv = rw (sent-one [] p reply (ok-some q)) (good (g2 s q));
      stored = unmoved w (restamped w k m h e f);
      short = rw append-nil (ok-short q);
      seen = stage-seen s q;
    }

    accept-fading : {v : Option Saved} {a : ReceiverMove} {s : SenderState} {l ls : List (List ℕ)} → Accepts area tally a → Stored w v area tally
        → EndedS s → Stops l → TakenOn Waiting s a l ls false 0
    accept-fading (at {k = k} {m = m} f s q e) h x z =
        record {
          inv = fades x (stage-flight s z sent);
          stored = unmoved w (restamped w k m h e f);
          short = rw append-nil (ok-short q);
          seen = stage-seen s q;
        }

    stage-good : {k p : ℕ} {s : ReceiverState} {m : Option ℕ} {l : List (List ℕ)} {o : Bool} → Stage k s → p < length w.file
        → Frames w.file [] k p l → Inv (Send p) s (held w k m) l [] o
    stage-good (some_left h) q r = good (g3 q r)
    stage-good (all_there e) q r = absurd (omega (arith, frames-le r))

    module _ {k : ℕ} {m : Option ℕ} {d : List ℕ} (h : Stored w (held w k m) area tally) (b : Block w.file k d) where
      frame-send : {p : ℕ} {l : List (List ℕ)} {o : Bool} {a : ReceiverMove} → Judged (k + length d) m (appended k d area) [] a → p < length w.file
          → Frames w.file [] (k + length d) p l → TakenOn (Takes (crc_by t.reading w.file)) (Send p) a l [] o (length d)
      frame-send (judged s) q r = record { inv = stage-good s q r; stored = grown-by w d h b; short = omega arith; seen = stage-stays s }

      frame-ended : {l : List (List ℕ)} {o : Bool} {a : ReceiverMove} → Judged (k + length d) m (appended k d area) [] a
          → Frames w.file [] (k + length d) (length w.file) l → TakenOn (Takes (crc_by t.reading w.file)) (Ended Success) a l [] o (length d)
      frame-ended (judged s) r = record { inv = good (g4 s r); stored = grown-by w d h b; short = omega arith; seen = stage-stays s }

      frame-fading : {p : ℕ} {s : SenderState} {x l ls : List (List ℕ)} {a : ReceiverMove} → Judged (k + length d) m (appended k d area) [] a
          → EndedS s → Stops x → Frames w.file x (k + length d) p l → TakenOn (Takes (crc_by t.reading w.file)) s a l ls false (length d)
      frame-fading (judged y) e z r = record { inv = fades e (stage-flight y z r); stored = grown-by w d h b; short = omega arith; seen = stage-stays y }

    -- a receiver that has ended
    over : {A : Type 0} → true ≡ false → A
    over e = absurd (false≢true (sym e))

    over-takes : {s : SenderState} (o : Outcome) (v : Option Saved) {lr ls : List (List ℕ)} (f : List ℕ) → Stored w v area tally
        → TakenOn (Over o) s (receiver_takes our_room (Over o) v area f) lr ls false 0
    unfolding receiver_takes
    over-takes o v [] h = record { inv = faded is-over; stored = unmoved w h; short = omega arith; seen = λ e. over e }
    over-takes o v (b ∷ f) h = record { inv = faded is-over; stored = unmoved w h; short = omega arith; seen = λ e. over e }

    early : {s : SenderState} {v : Option Saved} {a : ReceiverMove} {ls : List (List ℕ)} → a ≡ answers Waiting v area [] 0 → EndedS s → Stored w v area tally
        → TakenOn Waiting s a [] ls false 0
    early e x h = rw e (record { inv = fades x (no_line none_yet); stored = unmoved w h; short = omega arith; seen = λ z. unseen false })

    -- a frame of the file brings all its bytes, the stop frame none
    brings : {k : ℕ} {d : List ℕ} → Cut w.file k d → file_in true d ≡ length d
    brings c = rw (c.no_display, c.no_stop)

    late : {s : SenderState} {k : ℕ} {m : Option ℕ} {ls : List (List ℕ)} → EndedS s → Stored w (held w k m) area tally
        → TakenOn (Takes (crc_by t.reading w.file)) s (receiver_takes our_room (Takes (crc_by t.reading w.file)) (held w k m) area stop_frame) [] ls false (file_in true stop_frame)
    unfolding receiver_takes starts same
    late x h = record { inv = fades x at_rest; stored = unmoved w h; short = omega arith; seen = λ e. over e }

    pub inv-takes_r : {o : Bool} {s : SenderState} {r : ReceiverState} {v : Option Saved} {lr ls : List (List ℕ)} {f : List ℕ} → Inv s r v (f ∷ lr) ls o
        → Stored w v area tally → TakenOn r s (receiver_takes our_room r v area f) lr ls o (file_in (is_taking r) f)
    inv-takes_r (good (g1 {v = v} {m = m} x)) h = accept-good (take-line v area tally m x h) h
    inv-takes_r (good (g3 {k = k} {m = m} q (frame d c r))) h = rw (brings c) (frame-send h c.block (take-frame k m area tally d h c) q r)
    inv-takes_r (good (g4 {k = k} {m = m} (some_left q) (frame d c r))) h = rw (brings c) (frame-ended h c.block (take-frame k m area tally d h c) r)
    inv-takes_r (good (g4 (all_there e) (frame d c r))) h = absurd (omega (arith, c.block.filled, c.block.fits))
    inv-takes_r {f = f} (fades e (at_rest {o = n} {v = v})) h = over-takes n v f h
    inv-takes_r (fades e (no_line {v = v} stop-sent)) h = early (early-stop v area) e h
    inv-takes_r (fades e (a-line {v = v} {m = m} x z)) h = accept-fading (take-line v area tally m x h) h e z
    inv-takes_r (fades e (frames stop-sent sent)) h = late e h
    inv-takes_r (fades e (frames {k = k} {m = m} z (frame d c r))) h = rw (brings c) (frame-fading h c.block (take-frame k m area tally d h c) e z r)
    inv-takes_r {f = f} (faded (is-over {o = n})) h = over-takes n _ f h

    -- an empty frame changes nothing, and brings nothing
    none-come : (b : Bool) → file_in b [] ≡ 0
    unfolding starts same
    none-come true = refl
    none-come false = refl

    pub inv_nothing : {o : Bool} {s : SenderState} (r : ReceiverState) (v : Option Saved) {lr ls : List (List ℕ)} → Inv s r v lr ls o
        → Stored w v area tally → TakenOn r s (receiver_takes our_room r v area []) lr ls o (file_in (is_taking r) [])
    unfolding receiver_takes
    inv_nothing r v i h = rw (none-come (is_taking r)) (record { inv = i; stored = unmoved w h; short = omega arith; seen = λ e. unseen (is_taking r) })

    pub inv-fails_r : {s : SenderState} (n : Outcome) (r : ReceiverState) (v : Option Saved) {lr ls : List (List ℕ)} → Stored w v area tally
        → TakenOn r s (receiver_fails n r v area) lr ls false 0
    unfolding receiver_fails
    inv-fails_r n Waiting v h = record { inv = faded is-over; stored = unmoved w h; short = omega arith; seen = λ e. over e }
    inv-fails_r n (TakesBasic size kept) v h = record { inv = faded is-over; stored = unmoved w h; short = omega arith; seen = λ e. over e }
    inv-fails_r n (Takes crc) v h = record { inv = faded is-over; stored = unmoved w h; short = omega arith; seen = λ e. over e }
    inv-fails_r n (Over e) v h = record { inv = faded is-over; stored = unmoved w h; short = omega arith; seen = λ e. over e }

  -- what is on the way to a receiver that has not ended fits a frame
  pub front_short : {o : Bool} {s : SenderState} {r : ReceiverState} {v : Option Saved} {lr ls : List (List ℕ)} {f : List ℕ} → Inv s r v (f ∷ lr) ls o
      → receiver_ended r ≡ false → length f ≤ 256
  front_short (good (g1 {m = m} x)) e = (line-said w t.reading m x).in_frame
  front_short (good (g3 q (frame d c r))) e = c.most
  front_short (good (g4 x (frame d c r))) e = c.most
  front_short (fades x at_rest) e = absurd (false≢true (sym e))
  front_short (fades x (no_line stop-sent)) e = omega arith
  front_short (fades x (a-line {m = m} y z)) e = (line-said w t.reading m y).in_frame
  front_short (fades x (frames stop-sent sent)) e = omega arith
  front_short (fades x (frames z (frame d c r))) e = c.most
  front_short (faded is-over) e = absurd (false≢true (sym e))
