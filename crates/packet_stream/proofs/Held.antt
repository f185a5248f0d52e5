-- A stream that is held whole: what stands at its front is its first packet or drop, and the stream goes on behind it.
-- Assumes nothing.
use mathlib.Core.Path.{◌≡◌, refl, ap, sym, ◌∙◌}
use mathlib.Core.Bool.{Bool}
use mathlib.Core.Logic.{⊎_elim}
use mathlib.Core.List.{List, [], ◌∷◌, ◌++◌, append-nil}
use Prim.Native.Nat.{ℕ, ◌+◌, ◌≤◌, ◌<◌}
use native.Mathlib.Omega.{arith}
use lib.ListN.{length, drop, length-append}
use lib.Seq.{append_snoc, drop_at}
use Rattle.packets.specs.declared.spans.Span.{Span}
use Rattle.packets.specs.declared.spans.Span.TheVariants.{Open, Whole, Drop}
use Rattle.packets.specs.Span.{span, size_of}
use Rattle.packets.proofs.spans.Laws.{at_none, grown, size-within, closed-more}
use Rattle.packets.proofs.Places.{places}
use Rattle.packet_stream.specs.Stream.{Stream, piece_of, joined, by_span, stream_from, stream_of}

by-span-closed : (k : Bool) (v : Span) (b : List ℕ) (on next : Stream) → 0 < size_of v → by_span k v b on next ≡ joined (piece_of k v b) next
by-span-closed k Open b on next h = absurd (omega arith)
by-span-closed k (Whole n) b on next h = refl
by-span-closed k (Drop n) b on next h = refl

-- a piece is the same with more bytes behind its own
pub piece-more : (k : Bool) (v : Span) (b t : List ℕ) → size_of v ≤ length b → piece_of k v (b ++ t) ≡ piece_of k v b
piece-more k v b t h = ap (λ c. record { span = v; content = c }) (places k v b t h)

-- a stream by what stands at its front, whose span is v
abbrev pub front : Bool → Span → List ℕ → Stream
front k v s = by_span k v s (record { pieces = []; left = s }) (stream_of k (drop (size_of v) s))

-- b is one packet or one drop
pub front-closed : (k : Bool) (b t : List ℕ) (v : Span) → span k b ≡ v → size_of v ≡ length b → 0 < length b
    → front k (span k (b ++ t)) (b ++ t) ≡ joined (piece_of k v b) (stream_of k t)
front-closed k b t v e n h =
    rw (closed-more k b t v e (omega arith))
    (by-span-closed k v (b ++ t) _ _ (omega arith) ∙ rw (drop_at b t (size_of v) (sym n), piece-more k v b t (omega arith)))

pub stream-front : (k : Bool) (p s : List ℕ) → span k p ≡ Open → stream_from k p s ≡ front k (span k (p ++ s)) (p ++ s)
unfolding stream_from
stream-front k p [] o = rw (append-nil, o)
stream-front k p (x ∷ s) o =
    ⊎_elim
    (λ g. let e : span k b ≡ Open = g.0 ∙ o in rw e (stream-front k b s e))
    (λ g.
    by-span-closed k (span k b) b _ _ (omega (arith, g.1))
    ∙ sym (front-closed k b s (span k b) refl (omega (arith, g.1, size, size-within k b)) (omega (arith, size))))
    (grown k p (x ∷ []))
    ∙ ap (λ l. front k (span k l) l) (append_snoc p x s)
  where
    b : List ℕ
    b = p ++ x ∷ []

    size : length b ≡ length p + 1
    size = length-append p (x ∷ [])

-- HELD. A capture held whole reads the same as one that comes in chunks: while bytes are at hand, take what stands at their front,
-- then go on behind it; an unfinished packet at the end is left.
module _ (k : Bool) (s : List ℕ) where
  pub held : (v : Span) → span k s ≡ v → stream_of k s ≡ front k v s
  held v e = rw e at (stream-front k [] s (at_none k 0 0 0 0 refl))

  pub held-open : span k s ≡ Open → stream_of k s ≡ record { pieces = []; left = s }
  held-open e = held Open e

  pub held_whole : (n : ℕ) → span k s ≡ Whole n → stream_of k s ≡ joined (piece_of k (Whole n) s) (stream_of k (drop n s))
  held_whole n e = held (Whole n) e

  pub held-drop : (n : ℕ) → span k s ≡ Drop n → stream_of k s ≡ joined (piece_of k (Drop n) s) (stream_of k (drop n s))
  held-drop n e = held (Drop n) e
