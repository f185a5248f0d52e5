-- Framing: bytes that begin with a packet, fed in any chunks, are taken up to the end of that packet and no further.
-- Assumes nothing.
use mathlib.Core.Path.{◌≡◌, refl, ap, sym, ◌∙◌}
use mathlib.Core.Bool.{Bool}
use mathlib.Core.Logic.{◌⊎◌, inl, inr, ⊎_elim}
use mathlib.Core.List.{List, [], ◌∷◌, ◌++◌, append_assoc, append-nil}
use Prim.Native.Nat.{ℕ, ◌+◌, ◌≤◌, ◌<◌}
use native.Mathlib.Numerals.{add-one}
use native.Mathlib.Omega.{arith}
use lib.ListN.{length, take, drop, set, length-append, length-set}
use lib.Seq.{take-suc-set, take_at, append_snoc, drop-append-add, drop-append_seam}
use borrow.Author.Tests.{lt-ltb}
use Rattle.packets.specs.declared.spans.Span.{Span}
use Rattle.packets.specs.declared.spans.Span.TheVariants.{Open, Whole, Drop}
use Rattle.packets.specs.Span.{span, size_of}
use Rattle.packets.proofs.spans.Laws.{grown, size-within, closed-more, open-short, open-before}
use Rattle.packet_stream.specs.Pending.{Fed, slot, after, feed}

-- the buffer a holds n pending bytes, p
pub record Waits (a : List ℕ) (n : ℕ) (p : List ℕ) : Type 0 where
  pub room : length a ≡ 259
  pub count : n ≡ length p
  pub bytes : take n a ≡ p

-- the chunk s was taken whole, and the packet is still open
pub record Goes (k : Bool) (p s : List ℕ) (i : ℕ) (f : Fed) : Type 0 where
  pub found : f.found ≡ Open
  pub taken : f.taken ≡ i + length s
  pub waits : Waits f.pending f.filled (p ++ s)
  pub unfinished : span k (p ++ s) ≡ Open

-- the chunk s was taken up to the end of a packet or a drop, which stands at the front of the buffer
pub record Stops (k : Bool) (p s : List ℕ) (i : ℕ) (f : Fed) : Type 0 where
  pub front : List ℕ
  pub rest : List ℕ
  pub cut : s ≡ front ++ rest
  pub some : 0 < length front
  pub taken : f.taken ≡ i + length front
  pub empty : Waits f.pending f.filled []
  pub bytes : take (length (p ++ front)) f.pending ≡ p ++ front
  pub found : span k (p ++ front) ≡ f.found
  pub size : size_of f.found ≡ length p + length front

-- every unfinished beginning of l leaves room for a byte more
abbrev pub Room : Bool → List ℕ → Type 0
Room k l = (b t : List ℕ) → b ++ t ≡ l → span k b ≡ Open → length b < 259

slot_is : (n : ℕ) → n < 259 → slot n ≡ n
unfolding slot
slot_is n h = simp (lt-ltb n 259 h)

after-closed : (v : Span) (a : List ℕ) (i : ℕ) (more : Fed) → 0 < size_of v
    → after v a i more ≡ record { pending = a; filled = 0; taken = i; found = v }
after-closed Open a i more h = absurd (omega arith)
after-closed (Whole w) a i more h = refl
after-closed (Drop w) a i more h = refl

-- What a call comes to.
pub fed : (k : Bool) (s p a : List ℕ) (n i : ℕ) → Waits a n p → span k p ≡ Open → Room k (p ++ s)
    → Goes k p s i (feed k a n i s) ⊎ Stops k p s i (feed k a n i s)
unfolding feed
fed k [] p a n i w o r = inl (record { found = refl; taken = omega arith; waits = rw append-nil w; unfinished = rw append-nil o })
fed k (x ∷ s) p a n i w o r =
    ⊎_elim (λ g. goes (g.0 ∙ o) (fed k s b a' (n + 1) (i + 1) one (g.0 ∙ o) (rw append_snoc r))) (λ g. inr (stops g.1)) (grown k p (x ∷ []))
  where
    b : List ℕ
    b = p ++ x ∷ []

    a' : List ℕ
    a' = set a n x

    fits : n < 259
    fits = omega (arith, w.count, r p (x ∷ s) refl o)

    size : length b ≡ length p + 1
    size = length-append p (x ∷ [])

    -- one more byte in the buffer
    one : Waits a' (n + 1) b
    one = record {
      room = length-set a n x ∙ w.room;
      count = omega (arith, w.count, size);
      bytes = rw (add-one, take-suc-set a n x (rw w.room fits), w.bytes);
    }

    step : feed k a n i (x ∷ s) ≡ after (span k b) a' (i + 1) (feed k a' (n + 1) (i + 1) s)
    step = rw (slot_is n fits, one.bytes)

    goes : span k b ≡ Open → Goes k b s (i + 1) (feed k a' (n + 1) (i + 1) s) ⊎ Stops k b s (i + 1) (feed k a' (n + 1) (i + 1) s)
        → Goes k p (x ∷ s) i (feed k a n i (x ∷ s)) ⊎ Stops k p (x ∷ s) i (feed k a n i (x ∷ s))
    goes e next =
        rw (step, e)
        (⊎_elim
        (λ g. inl (record { found = g.found; taken = omega (arith, g.taken); waits = rw append_snoc at g.waits; unfinished = rw append_snoc at g.unfinished }))
        (λ g. inr (record {
          front = x ∷ g.front;
          rest = g.rest;
          cut = ap (λ l. x ∷ l) g.cut;
          some = omega arith;
          taken = omega (arith, g.taken);
          empty = g.empty;
          bytes = rw append_snoc at g.bytes;
          found = rw append_snoc at g.found;
          size = omega (arith, g.size, size);
        }))
        next)

    stops : length p < size_of (span k b) → Stops k p (x ∷ s) i (feed k a n i (x ∷ s))
    stops h =
        rw (step ∙ after-closed (span k b) a' (i + 1) (feed k a' (n + 1) (i + 1) s) (omega arith))
        (record {
          front = x ∷ [];
          rest = s;
          cut = refl;
          some = omega arith;
          taken = refl;
          empty = record { room = one.room; count = refl; bytes = refl };
          bytes = rw (← one.count) one.bytes;
          found = refl;
          size = omega (arith, size, size-within k b);
        })

-- q is one whole packet, or one drop
pub record Frame (k : Bool) (q : List ℕ) (v : Span) : Type 0 where
  pub spans : span k q ≡ v
  pub size : size_of v ≡ length q
  pub fits : length q ≤ 259

-- the chunk was taken whole, and the packet is still open
pub record More (q p chunk : List ℕ) (i : ℕ) (f : Fed) : Type 0 where
  pub found : f.found ≡ Open
  pub taken : f.taken ≡ i + length chunk
  pub waits : Waits f.pending f.filled (p ++ chunk)
  pub short : length p + length chunk < length q

-- the chunk was taken to the packet's end, and the packet stands at the front of the buffer
pub record Done (q : List ℕ) (v : Span) (p chunk : List ℕ) (i : ℕ) (f : Fed) : Type 0 where
  pub found : f.found ≡ v
  pub taken : f.taken + length p ≡ i + length q
  pub empty : Waits f.pending f.filled []
  pub bytes : take (length q) f.pending ≡ q
  pub reached : length q ≤ length p + length chunk

-- FRAMING. What waits and what comes are together a packet q and more behind it. Then a chunk, of what comes, is either taken whole
-- and the packet stays open, or taken just to the packet's end, with the answer that q has by itself.
pub framing : (k : Bool) (q : List ℕ) (v : Span) → Frame k q v → (chunk p later more : List ℕ) (a : List ℕ) (n i : ℕ)
    → Waits a n p → length p < length q → p ++ (chunk ++ later) ≡ q ++ more
    → More q p chunk i (feed k a n i chunk) ⊎ Done q v p chunk i (feed k a n i chunk)
framing k q v f chunk p later more a n i w lt eq =
    ⊎_elim (λ g. inl (record { found = g.found; taken = g.taken; waits = g.waits; short = short g.unfinished })) (λ g. inr (done (feed k a n i chunk) g))
    (fed k chunk p a n i w
    (open-before k p (chunk ++ later) v (rw eq whole) (omega (arith, f.size)))
    (λ b t e o. omega (arith, f.size, f.fits, open-short k b (t ++ later) v o (rw (← append_assoc b t later, e, append_assoc, eq) whole) (omega (arith, f.size)))))
  where
    whole : span k (q ++ more) ≡ v
    whole = closed-more k q more v f.spans (omega (arith, f.size))

    short : span k (p ++ chunk) ≡ Open → length p + length chunk < length q
    short o =
        omega (arith, f.size, length-append p chunk, open-short k (p ++ chunk) later v o (rw (append_assoc, eq) whole) (omega (arith, f.size)))

    done : (x : Fed) → Stops k p chunk i x → Done q v p chunk i x
    done x g =
        let b = p ++ g.front in
        let size : length b ≡ length p + length g.front = length-append p g.front in
        let l : b ++ (g.rest ++ later) ≡ q ++ more = rw (append_assoc, ← append_assoc g.front g.rest later, ← g.cut) eq in
        let e : x.found ≡ v = sym (closed-more k b (g.rest ++ later) x.found g.found (omega (arith, g.size, g.some))) ∙ rw l whole in
        let n : length b ≡ length q = omega (arith, g.size, f.size, ap size_of e) in
        let same : b ≡ q = sym (take_at b (g.rest ++ later) (length q) n) ∙ rw l (take_at q more (length q) refl) in
        record {
          found = e;
          taken = omega (arith, g.taken);
          empty = g.empty;
          bytes = rw same at g.bytes;
          reached = omega (arith, ap length g.cut, length-append g.front g.rest);
        }

-- What the packet's end leaves on the way is what stands behind the packet.
pub rest-is : (q : List ℕ) (v : Span) (p chunk later more : List ℕ) (f : Fed) → p ++ (chunk ++ later) ≡ q ++ more
    → Done q v p chunk 0 f → drop f.taken (chunk ++ later) ≡ more
rest-is q v p chunk later more f e d =
    let n : length p + f.taken ≡ length q = omega (arith, d.taken) in
    sym (drop-append-add p (chunk ++ later) f.taken) ∙ (rw (n, e) (drop-append_seam q more))
