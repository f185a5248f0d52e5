-- The listing of a capture does not depend on how it was cut: a lister writes, whatever the chunks, the listing of the whole.
-- Assumes nothing.
use Rattle.std.proofs.Common.{◌≡◌, ℕ, zero, suc, ◌+◌, ◌^◌, ◌<◌, false, List, [], ◌∷◌, ◌++◌, length, take, drop, refl, ap, ◌∙◌, append_assoc, arith, take_at}
use mathlib.Core.List.{flatten}
use Rattle.fields.specs.Buffer.{over}
use Rattle.packets.specs.declared.spans.Span.{Span}
use Rattle.packets.specs.declared.spans.Span.TheVariants.{Open, Whole, Drop}
use Rattle.packets.specs.Span.{size_of}
use Rattle.packets.proofs.KindLaws.{kind-same}
use Rattle.packets.proofs.spans.Laws.{at_none}
use Rattle.packet_stream.specs.declared.Received.{Received}
use Rattle.packet_stream.specs.Reader.{receive}
use Rattle.packet_stream.specs.Stream.{Piece, noted, ran, stream_of, Bytes}
use Rattle.packet_stream.specs.Stream.{Run as Read, hand_over as read_over, hand_all as read_all}
use Rattle.packet_stream.proofs.Chunks.{chunks}
use Rattle.listing.specs.declared.Lister.{Lister}
use Rattle.listing.specs.Text.{heading, lines, size_all, listing}
use Rattle.listing.specs.Lister.{new, advanced, line_by, stepped, wrote, Run, hand_over, hand_all, end_text}
use Rattle.listing.proofs.Sizes.{sized}

-- what a step wrote is its line
front : (bs d : List ℕ) → take (length bs) (over 0 bs d) ≡ bs
unfolding over
front bs d = take_at bs (drop (0 + length bs) d) (length bs) refl

lines-append : (offset : ℕ) (a b : List Piece) → lines offset (a ++ b) ≡ lines offset a ++ lines (offset + size_all a) b
unfolding lines size_all
lines-append offset [] b = ap (λ n. lines n b) (omega arith)
lines-append offset (p ∷ a) b =
    let e : offset + (size_of p.span + size_all a) ≡ offset + size_of p.span + size_all a = omega arith in
    rw (lines-append (offset + size_of p.span) a b, e, append_assoc)

size-append : (a b : List Piece) → size_all (a ++ b) ≡ size_all a + size_all b
unfolding size_all
size-append [] b = omega arith
size-append (p ∷ a) b = omega (arith, size-append a b)

-- what a call found, before what was found behind it
noted-size : (v : Span) (a : Received) (l : List Piece) → size_all (noted v a l) ≡ size_of v + size_all l
unfolding size_all
noted-size Open a l = omega arith
noted-size (Whole n) a l = refl
noted-size (Drop n) a l = refl

noted-lines : (offset : ℕ) (v : Span) (a : Received) (l : List Piece)
    → lines offset (noted v a l) ≡ line_by offset v a.packet ++ lines (offset + size_of v) l
unfolding lines
noted-lines offset Open a l = ap (λ n. lines n l) (omega arith)
noted-lines offset (Whole n) a l = rw (kind-same a.reader.pending a.packet)
noted-lines offset (Drop n) a l = rw (kind-same a.reader.pending a.packet)

-- The lister's run beside its reader's: the lines of the reader's packets and drops, and the offset behind them.
record Follows (offset : ℕ) (m : Run) (r : Read) : Type 0 where
  reader : m.lister.reader ≡ r.reader
  behind : m.lister.offset ≡ offset + size_all r.pieces
  text : m.text ≡ lines offset r.pieces

-- one step, and the steps behind it
one : (offset : ℕ) (a : Received) (d : List ℕ) (m : Run) (r : Read) → offset + size_all (ran a r).pieces < 2 ^ 64
    → Follows (advanced offset (size_of a.found)) m r → Follows offset (wrote (stepped offset a d) m) (ran a r)
one offset a d m r h f =
    let n = noted-size a.found a r.pieces in
    let b : advanced offset (size_of a.found) ≡ offset + size_of a.found = omega arith in
    record {
      reader = f.reader;
      behind = omega (arith, f.behind);
      text = rw (front (line_by offset a.found a.packet) d, f.text, b, noted-lines offset a.found a r.pieces);
    }

over-follows : (n : ℕ) (l : Lister) (s d : List ℕ) → l.offset + size_all (read_over n l.reader s).pieces < 2 ^ 64
    → Follows l.offset (hand_over n l s d) (read_over n l.reader s)
unfolding hand_over read_over lines size_all
over-follows zero l s d h = record { reader = refl; behind = omega arith; text = refl }
over-follows (suc n) l s d h =
    let a = receive l.reader s in
    let x = stepped l.offset a d in
    let r = read_over n a.reader (drop a.taken s) in
    let e = noted-size a.found a r.pieces in
    one l.offset a d (hand_over n x.listed.lister (drop a.taken s) x.out) r h
    (over-follows n x.listed.lister (drop a.taken s) x.out (omega arith))

all-follows : (cs : List (List ℕ)) (l : Lister) (d : List ℕ) → l.offset + size_all (read_all l.reader cs).pieces < 2 ^ 64
    → Follows l.offset (hand_all l cs d) (read_all l.reader cs)
unfolding hand_all read_all lines size_all
all-follows [] l d h = record { reader = refl; behind = omega arith; text = refl }
all-follows (c ∷ cs) l d h =
    let x = hand_over (length c) l c d in
    let r = read_over (length c) l.reader c in
    let q = read_all r.reader cs in
    let e = size-append r.pieces q.pieces in
    let f = over-follows (length c) l c d (omega arith) in
    let g : Follows x.lister.offset (hand_all x.lister cs x.out) q =
    rw f.reader at (all-follows cs x.lister x.out (rw f.reader (omega (arith, f.behind)))) in
    record {
      reader = g.reader;
      behind = omega (arith, g.behind, f.behind);
      text = rw (f.text, g.text, f.behind, lines-append l.offset r.pieces q.pieces);
    }

-- LISTS. For every capture, cut into chunks in any way, and whatever the buffer held: the heading, the lines of all the steps in order and
-- the text of the end are together the listing of the capture.
pub lists : (cs : List (List ℕ)) (d : List ℕ) → Bytes (flatten cs) → length (flatten cs) < 2 ^ 64
    → heading ++ ((hand_all new cs d).text ++ end_text (hand_all new cs d).lister) ≡ listing (flatten cs)
lists cs d hb hl =
    let l = (hand_all new cs d).lister in
    let s = stream_of false (flatten cs) in
    let y = chunks false cs hb in
    let z = sized false [] (flatten cs) (at_none false 0 0 0 0 refl) in
    let p = ap size_all y.pieces in
    let f = all-follows cs new d (omega arith) in
    let t : (hand_all new cs d).text ≡ lines 0 s.pieces = f.text ∙ ap (lines 0) y.pieces in
    let o : l.offset ≡ size_all s.pieces = omega (arith, f.behind) in
    let n : l.reader.filled ≡ length s.left = ap (λ r. r.filled) f.reader ∙ y.holds.waits.count in
    let e : advanced l.offset l.reader.filled ≡ length (flatten cs) = omega arith in
    rw (t, e, o, n)
