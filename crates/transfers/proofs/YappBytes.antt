-- The invariant over bytes: the two readers, the bytes on the way, and what a move of either end makes of them.
-- Assumes nothing.
use Rattle.std.specs.Prelude.{Option}
use Prim.Native.Nat.{ℕ, ◌-◌}
use mathlib.Core.Path.{◌≡◌, refl, sym, ◌∙◌}
use mathlib.Core.Bool.{Bool, true, false}
use mathlib.Core.List.{List, [], ◌∷◌, ◌++◌}
use mathlib.Core.Logic.{◌⊎◌, inl, inr}
use native.Mathlib.Nat.{sub-zero}
use lib.ListN.{length, take, drop}
use lib.Dec.{ltb}
use borrow.Author.Tests.{ltb-true}
use Rattle.records.specs.Saved.{Saved}
use Rattle.packets.specs.Content.{Content, unfinished}
use Rattle.packet_stream.specs.declared.Reader.{Reader}
use Rattle.packet_stream.specs.declared.Received.{Received}
use Rattle.packet_stream.specs.Reader.{checking, receive as reads}
use Rattle.yapp.specs.declared.SenderState.{SenderState}
use Rattle.yapp.specs.declared.ReceiverState.{ReceiverState}
use Rattle.yapp.specs.Steps.{SenderMove, ReceiverMove, goes, writes, sender_takes, sender_transmits, sender_times_out, sender_cancels, receiver_times_out, receiver_cancels}
use Rattle.yapp_sender.specs.Sender.{heard}
use Rattle.transfers.specs.MachinesYapp.{receiver_takes}
use Rattle.transfers.specs.World.{World}
use Rattle.transfers.specs.Yapp.{data_in, Settings}
use Rattle.transfers.proofs.Stored.{Stored, Stores, stays}
use Rattle.transfers.proofs.YappPhases.{machine, join, fall, is_rd, Sees, now, RestS, RestR, waits_r, ended_r, sender_set, receiver_set, Good, g0, g1, g2, g3, g4, g5, g6, g7, g8, g9, g10, Flight, Inv, good, fades, faded}
use Rattle.transfers.proofs.YappGood.{next_block, next-is, block_move, good-transmit_s, good-receive_s, good-receive_r}
use Rattle.transfers.proofs.YappWire.{Formed, Word, All, all_nil, all_cons, Brief, quiet, brief-words, words-formed, word-rr, word-af, word_at, word-si, word-ef, block-formed, plain-writes, Encodes, encodes-join, remode, View, waits, takes, view}
use Rattle.transfers.proofs.YappRest.{sender-unfinished, receiver-unfinished, unfinished-lays, reply-word, Rested, rest_take, rest_times, rest_stops, Still, still, flight_of, brief_takes, brief_times, brief_stops, Fading, fading_takes, fading_leaves, fading_times, fading_stops, quiet_leaves, good_times}

-- what is written in mode n may be read in mode m
pub record Sends (m n : Bool) (out : List Content) : Type 0 where
  pub formed : All Formed out
  pub alike : writes n out ≡ writes m out

plain-sends : {m n : Bool} {out : List Content} → All Word out → Sends m n out
plain-sends {m} {n} a = record { formed = words-formed a; alike = plain-writes n m a }

encodes-sent : {r : Reader} {flight : List ℕ} {l : List Content} (n : Bool) (out : List Content) → Encodes r flight l → Sends r.checked n out
    → Encodes r (flight ++ writes n out) (join l out)
encodes-sent n out e q = rw q.alike (encodes-join out e q.formed)

-- the reader stays in its mode
same-mode : {r : Reader} {k : Bool} {flight : List ℕ} {l : List Content} → r.checked ≡ k → Encodes r flight l → Encodes (checking k r) flight l
same-mode m e = rw (← m) e

-- the mode after a call: as it was, or what is in flight has no data
modes : {r : Reader} {k n : Bool} {flight : List ℕ} {l : List Content} → r.checked ≡ k → (n ≡ k) ⊎ All Word l → Encodes r flight l
    → Encodes (checking n r) flight l
modes m (inl q) e = same-mode (m ∙ sym q) e
modes {n = n} m (inr a) e = remode n a e

words-behind : {c : Content} {l : List Content} → All Word (c ∷ l) → All Word l
words-behind (all_cons q a) = a

-- a receiver at rest awaits no data
rest-none : {st : ReceiverState} → RestR st → (c : Content) → data_in (is_rd st) c ≡ 0
rest-none waits_r c = refl
rest-none ended_r c = refl

-- part of a packet brings none
pub none_yet : (b : Bool) → data_in b unfinished ≡ 0
unfolding machine
none_yet true = refl
none_yet false = refl

module _ (w : World) (t : Settings) where
  -- what is in flight to the sender
  good-words : {st : SenderState} {a : Bool} {rs : ReceiverState} {b : Bool} {v : Option Saved} {lr ls : List Content} → Good w t st a rs b v lr ls → All Word ls
  good-words g0 = all_nil
  good-words (g1 c) = all_nil
  good-words (g2 c) = all_cons word-rr all_nil
  good-words (g3 c) = all_nil
  good-words (g4 q) = all_cons (reply-word w t q) all_nil
  good-words (g5 h r) = all_nil
  good-words (g6 r) = all_nil
  good-words g7 = all_cons word-af all_nil
  good-words g8 = all_nil
  good-words g9 = all_cons word_at all_nil
  good-words g10 = all_nil

  sends-block : (b : Bool) (p : ℕ) (x : Bool) → ltb p (length w.file) ≡ x → Sends b (block_move w t p b x).checked (block_move w t p b x).out
  sends-block b p true e =
      let q = next-is w t p (ltb-true p (length w.file) e) in
      record { formed = all_cons (block-formed (next_block w t p) q.filled q.most) all_nil; alike = refl }
  sends-block b p false e = plain-sends (all_cons word-ef all_nil)

  sends-good : {st : SenderState} {a : Bool} {rs : ReceiverState} {b : Bool} {v : Option Saved} {lr ls : List Content} → Good w t st a rs b v lr ls
      → Sends b (sender_transmits (sender_set w t) w.file st a).checked (sender_transmits (sender_set w t) w.file st a).out
  unfolding machine
  sends-good g0 = plain-sends (all_cons word-si all_nil)
  sends-good (g1 c) = plain-sends all_nil
  sends-good (g2 c) = plain-sends all_nil
  sends-good (g3 c) = plain-sends all_nil
  sends-good (g4 q) = plain-sends all_nil
  sends-good (g5 {b = b} {p = p} h r) = sends-block b p (ltb p (length w.file)) refl
  sends-good (g6 r) = plain-sends all_nil
  sends-good g7 = plain-sends all_nil
  sends-good g8 = plain-sends all_nil
  sends-good g9 = plain-sends all_nil
  sends-good g10 = plain-sends all_nil

  -- at true only a good phase: no timer and no stop has been. The sender and its reader, the receiver, its reader and record, the bytes on
  -- the way to the receiver and to the sender
  pub data WInv (st : SenderState) (sr : Reader) (rs : ReceiverState) (rr : Reader) (v : Option Saved) (br bs : List ℕ) : Bool → Type 0 where
    in-phase : {o : Bool} {lr ls : List Content} → Good w t st sr.checked rs rr.checked v lr ls → Encodes rr br lr → Encodes sr bs ls
        → WInv st sr rs rr v br bs o
    fading : {lr : List Content} → RestS st → Flight w t rs v lr → Encodes rr br lr → WInv st sr rs rr v br bs false
    over : RestR rs → WInv st sr rs rr v br bs false

  -- ---- the sender moved, and has now the reader sr
  abbrev pub Moved : SenderMove → Reader → ReceiverState → Reader → Option Saved → List ℕ → List ℕ → Bool → Type 0
  Moved a sr rs rr v br bs o = WInv a.state (checking a.checked sr) rs rr v (br ++ writes a.checked a.out) bs o

  lift : (a : SenderMove) (sr : Reader) {rs : ReceiverState} {rr : Reader} {v : Option Saved} {br bs : List ℕ} {lr ls : List Content}
      → Inv w t a.state a.checked rs rr.checked v lr ls → Encodes rr br lr → Encodes (checking a.checked sr) bs ls
      → WInv a.state (checking a.checked sr) rs rr v br bs false
  lift a sr (good g) e f = in-phase g e f
  lift a sr (fades q x) e f = fading q x e
  lift a sr (faded x) e f = over x

  fade : (a : SenderMove) (sr : Reader) {rs : ReceiverState} {rr : Reader} {v : Option Saved} {br bs : List ℕ} {lr : List Content} → Fading w t a rs v lr
      → Brief a.out → Encodes rr br lr → Moved a sr rs rr v br bs false
  fade a sr f b e = fading f.rest f.flight (encodes-sent a.checked a.out e (plain-sends (brief-words b)))

  -- the receiver moved from rs in mode k, and has now the reader r and br on the way to it; area and tally are those before, and n bytes of the
  -- file came
  pub record Came (st : SenderState) (sr : Reader) (bs : List ℕ) (rs : ReceiverState) (k : Bool) (o : Bool) (area : List ℕ) (tally : ℕ) (r : Reader) (br : List ℕ)
      (a : ReceiverMove) (n : ℕ) : Type 0 where
    pub inv : WInv st sr a.state (checking a.checked r) a.saved br (bs ++ writes a.checked a.out) o
    pub stored : Stores w area a.saved a.area (tally - fall a.out) n
    pub brief : Brief a.out
    pub seen : Sees k rs a

  module _ (st : SenderState) (sr : Reader) (rs : ReceiverState) (rr : Reader) (v : Option Saved) (br bs : List ℕ) where
    pub wire-leaves : {o : Bool} → WInv st sr rs rr v br bs o → Moved (sender_transmits (sender_set w t) w.file st sr.checked) sr rs rr v br bs o
    wire-leaves (in-phase g e f) =
        in-phase (good-transmit_s w t g) (encodes-sent _ _ e (sends-good g)) (remode _ (good-words g) f)
    wire-leaves (fading q x e) = fade _ sr (fading_leaves w t sr.checked q x) (quiet_leaves w t sr.checked q) e
    wire-leaves (over q) = over q

    pub wire-times : {o : Bool} → WInv st sr rs rr v br bs o → Moved (sender_times_out st sr.checked) sr rs rr v br bs false
    wire-times (in-phase g e f) =
        lift (sender_times_out st sr.checked) sr (good_times w t g)
        (encodes-sent _ _ e (plain-sends (brief-words (brief_times w t st sr.checked)))) (remode _ (good-words g) f)
    wire-times (fading q x e) = fade _ sr (fading_times w t sr.checked q x) (brief_times w t st sr.checked) e
    wire-times (over q) = over q

    pub wire-stops : {o : Bool} → WInv st sr rs rr v br bs o → Moved (sender_cancels st sr.checked) sr rs rr v br bs false
    wire-stops (in-phase g e f) = fade _ sr (fading_stops w t st sr.checked (flight_of w t g)) (brief_stops w t st sr.checked) e
    wire-stops (fading q x e) = fade _ sr (fading_stops w t st sr.checked x) (brief_stops w t st sr.checked) e
    wire-stops (over q) = over q

    -- it received what the reader made of a chunk
    heard-good : {o : Bool} {lr ls : List Content} (g : Received) → Good w t st sr.checked rs rr.checked v lr ls → Encodes rr br lr → View bs ls g
        → Moved (sender_takes (sender_set w t) st sr.checked (heard g)) g.reader rs rr v br (drop g.taken bs) o
    heard-good g p e (waits h x) =
        rw (h, sender-unfinished (sender_set w t) st sr.checked)
        (in-phase p (encodes-sent sr.checked [] e (plain-sends all_nil)) (remode sr.checked (good-words p) x))
    heard-good g p e (takes {c = c} h x) =
        rw h
        (in-phase (good-receive_s w t p) (encodes-sent _ _ e (plain-sends (brief-words (brief_takes w t st sr.checked c))))
        (remode _ (words-behind (good-words p)) x))

    pub wire-heard : {o : Bool} (n : ℕ) → WInv st sr rs rr v br bs o
        → Moved (sender_takes (sender_set w t) st sr.checked (heard (reads sr (take n bs)))) (reads sr (take n bs)).reader rs rr v br
        (drop (reads sr (take n bs)).taken bs) o
    wire-heard n (in-phase g e f) = heard-good (reads sr (take n bs)) g e (view sr n bs f)
    wire-heard n (fading q x e) =
        let c = heard (reads sr (take n bs)) in
        fade _ (reads sr (take n bs)).reader (fading_takes w t sr.checked c q x) (brief_takes w t st sr.checked c) e
    wire-heard n (over q) = over q

    -- ---- the receiver's moves
    module _ (area : List ℕ) (tally : ℕ) (h : Stored w v area tally) where
      rested : {a : ReceiverMove} {r : Reader} {b : List ℕ} → Rested w t area tally rs rr.checked a → Came st sr bs rs rr.checked false area tally r b a 0
      rested y = record { inv = over y.rest; stored = y.stored; brief = y.brief; seen = y.seen }

      pub wire-times_r : Came st sr bs rs rr.checked false area tally rr br (receiver_times_out (now rs rr.checked v) area rs) 0
      wire-times_r = rested (rest_times w t area tally rs rr.checked v h)

      pub wire-stops_r : Came st sr bs rs rr.checked false area tally rr br (receiver_cancels (now rs rr.checked v) area rs) 0
      wire-stops_r = rested (rest_stops w t area tally rs rr.checked v h)

      -- part of a packet
      nothing_yet : Stores w area v (receiver_takes (receiver_set w t) (now rs rr.checked v) area unfinished).area (tally - 0) 0
      nothing_yet = stays w (rw sub-zero h) (unfinished-lays w (receiver_set w t) rs rr.checked v area (tally - 0))

      silent : Sees rr.checked rs (goes (now rs rr.checked v) (receiver_takes (receiver_set w t) (now rs rr.checked v) area unfinished).area rs [])
      unfolding machine
      silent = record { mode = refl; awaits = refl }

      came-good : {o : Bool} {lr ls : List Content} (g : Received) → g.reader.checked ≡ rr.checked → Good w t st sr.checked rs rr.checked v lr ls
          → Encodes sr bs ls → View br lr g
          → Came st sr bs rs rr.checked o area tally g.reader (drop g.taken br) (receiver_takes (receiver_set w t) (now rs rr.checked v) area (heard g)) (data_in (is_rd rs) (heard g))
      came-good g m p f (waits e x) =
          rw (e, receiver-unfinished (receiver_set w t) rs rr.checked v area, none_yet (is_rd rs))
          (record { inv = in-phase p (same-mode m x) (encodes-sent rr.checked [] f (plain-sends all_nil)); stored = nothing_yet; brief = quiet; seen = silent })
      came-good g m p f (takes {c = c} {l = l} e x) =
          let y : Still w t area tally rs rr.checked (receiver_takes (receiver_set w t) (now rs rr.checked v) area c) l (data_in (is_rd rs) c) =
          still w t area tally (flight_of w t p) h in
          rw e
          (record {
            inv = in-phase (good-receive_r w t area tally p h) (modes m y.mode x) (encodes-sent _ _ f (plain-sends (brief-words y.brief)));
            stored = y.stored;
            brief = y.brief;
            seen = y.seen;
          })

      came-fading : {lr : List Content} (g : Received) → g.reader.checked ≡ rr.checked → RestS st → Flight w t rs v lr → View br lr g
          → Came st sr bs rs rr.checked false area tally g.reader (drop g.taken br) (receiver_takes (receiver_set w t) (now rs rr.checked v) area (heard g)) (data_in (is_rd rs) (heard g))
      came-fading g m q p (waits e x) =
          rw (e, receiver-unfinished (receiver_set w t) rs rr.checked v area, none_yet (is_rd rs))
          (record { inv = fading q p (same-mode m x); stored = nothing_yet; brief = quiet; seen = silent })
      came-fading g m q p (takes {c = c} {l = l} e x) =
          let y : Still w t area tally rs rr.checked (receiver_takes (receiver_set w t) (now rs rr.checked v) area c) l (data_in (is_rd rs) c) =
          still w t area tally p h in
          rw e (record { inv = fading q y.flight (modes m y.mode x); stored = y.stored; brief = y.brief; seen = y.seen })

      pub wire-came : {o : Bool} (n : ℕ) → WInv st sr rs rr v br bs o
          → Came st sr bs rs rr.checked o area tally (reads rr (take n br)).reader (drop (reads rr (take n br)).taken br)
          (receiver_takes (receiver_set w t) (now rs rr.checked v) area (heard (reads rr (take n br)))) (data_in (is_rd rs) (heard (reads rr (take n br))))
      wire-came n (in-phase g e f) = came-good (reads rr (take n br)) refl g f (view rr n br e)
      wire-came n (fading q x e) = came-fading (reads rr (take n br)) refl q x (view rr n br e)
      wire-came n (over q) =
          let c = heard (reads rr (take n br)) in rw (rest-none q c) (rested (rest_take w t area tally rr.checked v c q h))
