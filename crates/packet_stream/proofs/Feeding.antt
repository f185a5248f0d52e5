-- The laws of `feed`.
-- Assumes nothing.
use mathlib.Core.Path.{◌≡◌, refl}
use mathlib.Core.Bool.{Bool}
use mathlib.Core.List.{List, [], ◌∷◌}
use Prim.Native.Nat.{ℕ, ◌+◌, ◌≤◌, ◌<◌}
use native.Mathlib.Omega.{arith}
use lib.ListN.{length, get_or, take, drop, set}
use Rattle.fields.proofs.Lists.{drop-one}
use Rattle.packets.specs.declared.spans.Span.{Span}
use Rattle.packets.specs.declared.spans.Span.TheVariants.{Open, Whole, Drop}
use Rattle.packets.specs.Span.{span}
use Rattle.packet_stream.specs.Pending.{Fed, slot, after, feed}

-- one turn: the byte at i of the chunk s goes to the place at
pub feed-step : (k : Bool) (a : List ℕ) (n i : ℕ) (s : List ℕ) (at : ℕ) (v : Span) → at ≡ slot n → i < length s
    → v ≡ span k (take (at + 1) (set a at (get_or s i 0)))
    → feed k a n i (drop i s)
    ≡ after v (set a at (get_or s i 0)) (i + 1) (feed k (set a at (get_or s i 0)) (at + 1) (i + 1) (drop (i + 1) s))
unfolding feed
feed-step k a n i s at v e h p = rw (p, e, drop-one s i h)

-- a packet or a drop ends the feeding
pub stopped : (v : Span) (a : List ℕ) (i : ℕ) (more : Fed) → (v ≡ Open → ⊥) → after v a i more ≡ record { pending = a; filled = 0; taken = i; found = v }
stopped Open a i more h = absurd (h refl)
stopped (Whole w) a i more h = refl
stopped (Drop w) a i more h = refl

-- How many bytes are taken: at least one of a chunk that has one, and no more than it has.
pub record Within (lo hi : ℕ) (f : Fed) : Type 0 where
  pub least : lo ≤ f.taken
  pub most : f.taken ≤ hi

after-within : (v : Span) (a : List ℕ) (i : ℕ) (more : Fed) (lo hi : ℕ) → lo ≤ i → i ≤ hi → Within lo hi more → Within lo hi (after v a i more)
after-within Open a i more lo hi p q h = h
after-within (Whole w) a i more lo hi p q h = record { least = p; most = q }
after-within (Drop w) a i more lo hi p q h = record { least = p; most = q }

pub feed-within : (k : Bool) (a : List ℕ) (n i : ℕ) (s : List ℕ) → Within i (i + length s) (feed k a n i s)
unfolding feed
feed-within k a n i [] = record { least = omega arith; most = omega arith }
feed-within k a n i (x ∷ xs) =
    let b = set a (slot n) x in
    let more = feed-within k b (slot n + 1) (i + 1) xs in
    after-within (span k (take (slot n + 1) b)) b (i + 1) (feed k b (slot n + 1) (i + 1) xs) i (i + length (x ∷ xs)) (omega arith) (omega arith)
    (record { least = omega (arith, more.least); most = omega (arith, more.most) })

pub feed-some : (k : Bool) (a : List ℕ) (n i : ℕ) (s : List ℕ) → 0 < length s → Within (i + 1) (i + length s) (feed k a n i s)
unfolding feed
feed-some k a n i [] h = absurd (omega arith)
feed-some k a n i (x ∷ xs) h =
    let b = set a (slot n) x in
    let more = feed-within k b (slot n + 1) (i + 1) xs in
    after-within (span k (take (slot n + 1) b)) b (i + 1) (feed k b (slot n + 1) (i + 1) xs) (i + 1) (i + length (x ∷ xs)) (omega arith) (omega arith)
    (record { least = more.least; most = omega (arith, more.most) })
