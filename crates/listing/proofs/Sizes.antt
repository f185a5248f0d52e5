-- How many bytes a packet or a drop has that a reader found, and how many there are in a whole stream.
-- Assumes nothing.
use Rattle.std.proofs.Common.{◌≡◌, ℕ, ◌+◌, ◌<◌, ◌≤◌, Bool, List, [], ◌∷◌, ◌++◌, length, take, set, sym, refl, ◌∙◌, ⊎_elim, arith, length-append, length-take, le-ltb, lt-ltb}
use Rattle.fields.proofs.Lists.{le-or-lt}
use Rattle.packets.specs.declared.spans.Span.{Span}
use Rattle.packets.specs.declared.spans.Span.TheVariants.{Open, Whole, Drop}
use Rattle.packets.specs.Span.{span, size_of}
use Rattle.packets.proofs.spans.Laws.{at_none, grown, size-within}
use Rattle.packet_stream.specs.Pending.{Fed, slot, after, feed}
use Rattle.packet_stream.specs.Stream.{by_span, stream_from}
use Rattle.listing.specs.Text.{size_all}

slot-below : (n : ℕ) → slot n < 259
unfolding slot
slot-below n = ⊎_elim (λ (h : 259 ≤ n). rw (le-ltb n 259 h) (omega arith)) (λ (h : n < 259). rw (lt-ltb n 259 h) h) (le-or-lt 259 n)

after-size : (v : Span) (a : List ℕ) (i : ℕ) (on : Fed) (m : ℕ) → size_of v ≤ m → size_of on.found ≤ m → size_of (after v a i on).found ≤ m
after-size Open a i on m h g = g
after-size (Whole w) a i on m h g = h
after-size (Drop w) a i on m h g = h

-- what is found is at most as long as the pending buffer
pub feed-size : (k : Bool) (a : List ℕ) (n i : ℕ) (s : List ℕ) → size_of (feed k a n i s).found ≤ 259
unfolding feed
feed-size k a n i [] = omega arith
feed-size k a n i (x ∷ s) =
    let b = set a (slot n) x in
    let t = take (slot n + 1) b in
    let l : length t ≤ slot n + 1 = simp length-take (omega arith) in
    after-size (span k t) b (i + 1) (feed k b (slot n + 1) (i + 1) s) 259
    (omega (arith, size-within k t, slot-below n))
    (feed-size k b (slot n + 1) (i + 1) s)

-- the packets and drops of a stream and what is left are all its bytes
pub sized : (k : Bool) (p s : List ℕ) → span k p ≡ Open
    → size_all (stream_from k p s).pieces + length (stream_from k p s).left ≡ length p + length s
unfolding stream_from size_all
sized k p [] o = omega arith
sized k p (x ∷ s) o = go (span k b) refl (λ e. sized k b s e) (sized k [] s (at_none k 0 0 0 0 refl))
  where
    b : List ℕ
    b = p ++ (x ∷ [])

    size : length b ≡ length p + 1
    size = length-append p (x ∷ [])

    whole : (v : Span) → span k b ≡ v → (v ≡ Open → ⊥) → size_of v ≡ length p + 1
    whole v e h =
        ⊎_elim
        (λ g. absurd (h (sym e ∙ g.0 ∙ o)))
        (λ g. let z : length p < size_of v = rw e at g.1 in let y : size_of v ≤ length b = rw e at (size-within k b) in omega (arith, size))
        (grown k p (x ∷ []))

    go : (v : Span) → span k b ≡ v
        → (span k b ≡ Open → size_all (stream_from k b s).pieces + length (stream_from k b s).left ≡ length b + length s)
        → size_all (stream_from k [] s).pieces + length (stream_from k [] s).left ≡ 0 + length s
        → size_all (by_span k v b (stream_from k b s) (stream_from k [] s)).pieces + length (by_span k v b (stream_from k b s) (stream_from k [] s)).left
        ≡ length p + length (x ∷ s)
    go Open e on next = omega (arith, on e, size)
    go (Whole n) e on next = let w = whole (Whole n) e (λ q. let z : ◌≡◌ {A = ℕ} 0 1 = cc in omega arith) in omega arith
    go (Drop n) e on next = let w = whole (Drop n) e (λ q. let z : ◌≡◌ {A = ℕ} 0 1 = cc in omega arith) in omega arith
