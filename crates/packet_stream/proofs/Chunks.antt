-- Any cutting of a stream of bytes into chunks yields the same packets and drops.
-- Assumes nothing.
use mathlib.Core.Path.{◌≡◌, refl, ap, sym, ◌∙◌}
use mathlib.Core.Bool.{Bool}
use mathlib.Core.Logic.{◌⊎◌, ⊎_elim}
use mathlib.Core.List.{List, [], ◌∷◌, ◌++◌, append_assoc, flatten}
use Prim.Native.Nat.{ℕ, zero, suc, ◌+◌, ◌≤◌, ◌<◌}
use native.Mathlib.Omega.{arith}
use lib.ListN.{length, take, drop, length-append, take-append-drop}
use lib.Seq.{drop-length, drop_at}
use Rattle.packets.specs.declared.spans.Span.{Span}
use Rattle.packets.specs.declared.spans.Span.TheVariants.{Open, Whole, Drop}
use Rattle.packets.specs.Span.{span, size_of}
use Rattle.packets.specs.Packet.{packet_in}
use Rattle.packets.specs.Content.{content_of}
use Rattle.packets.proofs.spans.Laws.{at_none, open-fits}
use Rattle.packet_stream.specs.declared.Reader.{Reader}
use Rattle.packet_stream.specs.Pending.{Fed, feed}
use Rattle.packet_stream.specs.Reader.{fresh, received}
use Rattle.packet_stream.specs.Stream.{Piece, Stream, piece_of, joined, by_span, stream_from, stream_of, Run, noted, ran, hand_over, hand_all, Bytes}
use Rattle.packet_stream.proofs.Framing.{Waits, Goes, Stops, fed}
use Rattle.packet_stream.proofs.Held.{piece-more, front-closed, stream-front}

-- ---- bytes

bytes-front : (s t : List ℕ) → Bytes (s ++ t) → Bytes s
bytes-front [] t h i = omega arith
bytes-front (x ∷ s) t h zero = h 0
bytes-front (x ∷ s) t h (suc i) = bytes-front s t (λ j. h (suc j)) i

bytes-behind : (s t : List ℕ) → Bytes (s ++ t) → Bytes t
bytes-behind [] t h = h
bytes-behind (x ∷ s) t h = bytes-behind s t (λ j. h (suc j))

bytes-join : (s t : List ℕ) → Bytes s → Bytes t → Bytes (s ++ t)
bytes-join [] t hs ht i = ht i
bytes-join (x ∷ s) t hs ht zero = hs 0
bytes-join (x ∷ s) t hs ht (suc i) = bytes-join s t (λ j. hs (suc j)) ht i

-- ---- the stream alone: what is left of s goes before t

abbrev stream_behind : Bool → Stream → List ℕ → Stream
stream_behind k a t = record { pieces = a.pieces ++ (stream_from k a.left t).pieces; left = (stream_from k a.left t).left }

pub stream-append : (k : Bool) (p s t : List ℕ) → stream_from k p (s ++ t) ≡ stream_behind k (stream_from k p s) t
unfolding stream_from
stream-append k p [] t = refl
stream-append k p (x ∷ s) t = go (span k b) (stream-append k b s t) (stream-append k [] s t)
  where
    b : List ℕ
    b = p ++ x ∷ []

    go : (v : Span) → stream_from k b (s ++ t) ≡ stream_behind k (stream_from k b s) t → stream_from k [] (s ++ t) ≡ stream_behind k (stream_from k [] s) t
        → by_span k v b (stream_from k b (s ++ t)) (stream_from k [] (s ++ t)) ≡ stream_behind k (by_span k v b (stream_from k b s) (stream_from k [] s)) t
    go Open on next = on
    go (Whole n) on next = ap (joined (piece_of k (Whole n) b)) next
    go (Drop n) on next = ap (joined (piece_of k (Drop n) b)) next

-- ---- one chunk, in as many calls as it has bytes

-- the reader r holds the unfinished packet p
pub record Holds (k : Bool) (r : Reader) (p : List ℕ) : Type 0 where
  pub mode : r.checked ≡ k
  pub waits : Waits r.pending r.filled p
  pub unfinished : span k p ≡ Open
  pub bytes : Bytes p

-- what the reader came to is what the stream is: the same packets and drops, all n bytes taken, and what is left waits
pub record Yields (k : Bool) (run : Run) (s : Stream) (n : ℕ) : Type 0 where
  pub pieces : run.pieces ≡ s.pieces
  pub taken : run.taken ≡ n
  pub holds : Holds k run.reader s.left

none-held : (k : Bool) (r : Reader) → r.checked ≡ k → Waits r.pending r.filled [] → Holds k r []
none-held k r e w = record { mode = e; waits = w; unfinished = at_none k 0 0 0 0 refl; bytes = λ i. omega arith }

-- the packet at the front of the buffer a is the same with the rest of the buffer behind it
piece_is : (k : Bool) (v : Span) (a b : List ℕ) (n : ℕ) → take n a ≡ b → size_of v ≤ length b → piece_of k v b ≡ piece_of k v a
piece_is k v a b n e h = sym (piece-more k v b (drop n a) h) ∙ rw (← e, take-append-drop)

noted-closed : (k : Bool) (f : Fed) (l : List Piece) → 0 < size_of f.found
    → noted f.found (received k f) l ≡ piece_of k f.found f.pending ∷ l
noted-closed k f l h = go f.found h
  where
    go : (v : Span) → 0 < size_of v → noted v (received k f) l ≡ record { span = v; content = content_of f.pending (packet_in k f.found f.pending) } ∷ l
    go Open h' = absurd (omega arith)
    go (Whole n) h' = refl
    go (Drop n) h' = refl

abbrev HandsOver : Bool → ℕ → Type 0
HandsOver k n = (s : List ℕ) → length s ≤ n → (r : Reader) (p : List ℕ) → Holds k r p → Bytes s → Yields k (hand_over n r s) (stream_from k p s) (length s)

-- one call, and the calls behind it
call : (k : Bool) (n : ℕ) → HandsOver k n → (s : List ℕ) → length s ≤ suc n → (p : List ℕ) (f : Fed) → span k p ≡ Open → Bytes p → Bytes s
    → Goes k p s 0 f ⊎ Stops k p s 0 f
    → Yields k (ran (received k f) (hand_over n (received k f).reader (drop f.taken s))) (stream_from k p s) (length s)
unfolding stream_from
call k n next s le p f o hp hs =
    ⊎_elim
    (λ g.
    let t : f.taken ≡ length s = omega (arith, g.taken) in
    let d : drop f.taken s ≡ [] = rw t (drop-length s) in
    let e : stream_from k p s ≡ record { pieces = []; left = p ++ s } = rw g.unfinished at (stream-front k p s o) in
    let h : Holds k (received k f).reader (p ++ s) = record { mode = refl; waits = g.waits; unfinished = g.unfinished; bytes = bytes-join p s hp hs } in
    let y = next [] (omega arith) (received k f).reader (p ++ s) h (λ i. omega arith) in
    rw (d, e, g.found) (record { pieces = y.pieces; taken = omega (arith, y.taken); holds = y.holds }))
    (λ g.
    let b = p ++ g.front in
    let l : length s ≡ length g.front + length g.rest = ap length g.cut ∙ length-append g.front g.rest in
    let m : length b ≡ length p + length g.front = length-append p g.front in
    let d : drop f.taken s ≡ g.rest = rw g.cut (drop_at g.front g.rest f.taken (omega (arith, g.taken))) in
    let c : piece_of k f.found b ≡ piece_of k f.found f.pending = piece_is k f.found f.pending b (length b) g.bytes (omega (arith, g.size)) in
    let e : stream_from k p s ≡ joined (piece_of k f.found f.pending) (stream_of k g.rest)
    = stream-front k p s o ∙ rw (g.cut, ← append_assoc p g.front g.rest, ← c) (front-closed k b g.rest f.found g.found (omega (arith, g.size)) (omega (arith, g.some))) in
    let y = next g.rest (omega (arith, g.some)) (received k f).reader [] (none-held k (received k f).reader refl g.empty) (bytes-behind g.front g.rest (rw g.cut at hs)) in
    rw (d, e)
    (record {
      pieces = noted-closed k f _ (omega (arith, g.size, g.some)) ∙ ap (λ m. piece_of k f.found f.pending ∷ m) y.pieces;
      taken = omega (arith, y.taken, g.taken);
      holds = y.holds;
    }))

hand-over : (k : Bool) (n : ℕ) → HandsOver k n
unfolding hand_over stream_from
hand-over k zero [] le r p h hs = record { pieces = refl; taken = refl; holds = h }
hand-over k zero (x ∷ s) le r p h hs = absurd (omega arith)
hand-over k (suc n) s le r p h hs =
    rw h.mode (call k n (hand-over k n) s le p (feed k r.pending r.filled 0 s) h.unfinished h.bytes hs
    (fed k s p r.pending r.filled 0 h.waits h.unfinished
    (λ b t e o. open-fits k b (begins b t e 1) (begins b t e 2) o)))
  where
    begins : (b t : List ℕ) → b ++ t ≡ p ++ s → Bytes b
    begins b t e = bytes-front b t (rw e (bytes-join p s h.bytes hs))

-- ---- all chunks

hand-all : (k : Bool) (cs : List (List ℕ)) (r : Reader) (p : List ℕ) → Holds k r p → Bytes (flatten cs)
    → Yields k (hand_all r cs) (stream_from k p (flatten cs)) (length (flatten cs))
unfolding hand_all flatten stream_from
hand-all k [] r p h hs = record { pieces = refl; taken = refl; holds = h }
hand-all k (c ∷ cs) r p h hs =
    let a = hand-over k (length c) c (omega arith) r p h (bytes-front c (flatten cs) hs) in
    let b = hand-all k cs (hand_over (length c) r c).reader (stream_from k p c).left a.holds (bytes-behind c (flatten cs) hs) in
    rw (stream-append k p c (flatten cs), length-append c (flatten cs))
    (record { pieces = rw (a.pieces, b.pieces); taken = rw (a.taken, b.taken); holds = b.holds })

-- CHUNKS. A fresh reader that is handed a stream of bytes in any chunks finds the packets and drops of the stream, takes every byte,
-- and what the stream leaves waits in it.
pub chunks : (k : Bool) (cs : List (List ℕ)) → Bytes (flatten cs)
    → Yields k (hand_all (fresh k) cs) (stream_of k (flatten cs)) (length (flatten cs))
chunks k cs hs = hand-all k cs (fresh k) [] (none-held k (fresh k) refl (record { room = refl; count = refl; bytes = refl })) hs

-- Any two cuttings of the same stream yield the same packets and drops, and take as many bytes.
pub cutting : (k : Bool) (cs ds : List (List ℕ)) → flatten cs ≡ flatten ds → Bytes (flatten cs)
    → ((hand_all (fresh k) cs).pieces ≡ (hand_all (fresh k) ds).pieces) × ((hand_all (fresh k) cs).taken ≡ (hand_all (fresh k) ds).taken)
cutting k cs ds e hs =
    let a = chunks k cs hs in
    let b = chunks k ds (rw e at hs) in
    (a.pieces ∙ rw e (sym b.pieces), a.taken ∙ rw e (sym b.taken))
