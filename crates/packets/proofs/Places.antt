-- The places of a packet lie within its own bytes, so bytes behind it change nothing of what it says.
-- Assumes nothing.
use Rattle.packets.specs.declared.Resume.{Resume}
use Rattle.std.specs.Prelude.{None, Option, Some, ℕ}
use mathlib.Core.Path.{◌≡◌, refl}
use mathlib.Core.Bool.{Bool, true, false}
use mathlib.Core.List.{List, [], ◌∷◌, ◌++◌}
use Prim.Native.Nat.{ℕ, zero, suc, ◌+◌, ◌-◌, ◌≤◌}
use native.Mathlib.Omega.{arith}
use lib.ListN.{length, get_or, take, drop, length-take}
use lib.Seq.{length-take-le, take-append-le}
use lib.Dec.{ltb, eqb}
use Rattle.fields.specs.Pick.{pick}
use Rattle.fields.specs.Lists.{up_to, bytes_at}
use Rattle.fields.specs.Name.{is_name}
use Rattle.numbers.specs.Reading.{read_size}
use Rattle.fields.specs.declared.Place.{Place}
use Rattle.packets.specs.declared.spans.Span.{Span}
use Rattle.packets.specs.declared.spans.Span.TheVariants.{Open, Whole, Drop}
use Rattle.packets.specs.declared.Packet.{Packet}
use Rattle.packets.specs.declared.Packet.TheVariants.{RR, RF, AF, AT, CA, RT, SI, RI}
use Rattle.packets.specs.Span.{place_at, size_of}
use Rattle.packets.specs.Packet.{sized_by, header_size, header_read, header_by, header_packet, resume_read, nak_by, acknowledge_of, place_of, data_of, whole_of, packet_in}
use Rattle.packets.specs.Content.{content_of}
use Rattle.fields.proofs.Lists.{up_to-le}
use Rattle.packets.proofs.Bounds.{either, lead-least}

part_same : (q t : List ℕ) (i n : ℕ) → n ≤ length q - i → take n (drop i (q ++ t)) ≡ take n (drop i q)
part_same q t i zero h = refl
part_same [] t i (suc n) h = absurd (omega arith)
part_same (x ∷ q) t zero (suc n) h = take-append-le (suc n) (x ∷ q) t (omega arith)
part_same (x ∷ q) t (suc i) (suc n) h = part_same q t i (suc n) (omega arith)

-- where x says anything by a place, the place is within the first m bytes
abbrev Inside : ℕ → Packet → Type 0
Inside m x = (q t : List ℕ) → m ≤ length q → content_of (q ++ t) x ≡ content_of q x

place_same : (m : ℕ) (p : Place) → p.len ≤ m - p.start → (q t : List ℕ) → m ≤ length q → bytes_at (q ++ t) p ≡ bytes_at q p
place_same m p h q t le = part_same q t p.start p.len (omega arith)

-- ---- a header's name

sized_inside : (d : List ℕ) (m n : ℕ) (v : Option ℕ) (o : List ℕ) → n ≤ m - 2 → Inside m (header_by d (sized_by n v o))
unfolding content_of
sized_inside d m n (Some v) o h q t le = rw (place_same m (record { start = 2; len = n }) h q t le)
sized_inside d m n None o h q t le = refl

size-inside : (d : List ℕ) (m n : ℕ) (t : List ℕ) → n ≤ m - 2 → Inside m (header_by d (header_size n t))
unfolding content_of header_size
size-inside d m n t h =
    either (λ r. Inside m (header_by d r)) (ltb (length (up_to 0 t)) (length t)) _ None
    (sized_inside d m n (read_size (up_to 0 t)) (drop (length (up_to 0 t) + 1) t) h) (λ q u le. refl)

header-inside : (m : ℕ) (d : List ℕ) → length d ≤ m - 2 → Inside m (header_packet d)
unfolding content_of header_read
header-inside m d h =
    either (λ r. Inside m (header_by d r)) (ltb (length (up_to 0 d)) (length d)) _ None
    (either (λ r. Inside m (header_by d r)) (is_name (up_to 0 d)) _ None
    (size-inside d m (length (up_to 0 d)) (drop (length (up_to 0 d) + 1) d) (omega (arith, up_to-le 0 d))) (λ q t le. refl)) (λ q t le. refl)

-- ---- the others

data-place : (k : Bool) (b : List ℕ) → (place_of k b).len ≤ length b - (place_of k b).start
unfolding place_at
data-place k b = omega arith

data-short : (k : Bool) (b : List ℕ) → length (data_of k b) ≤ length b - 2
unfolding place_at
data-short k b = simp length-take (omega (arith, lead-least (get_or b 0 0) (get_or b 1 0)))

nak-inside : (m : ℕ) (r : Option Resume) (p : Place) → p.len ≤ m - p.start → Inside m (nak_by r p)
unfolding content_of
nak-inside m (Some r) p h q t le = refl
nak-inside m None p h q t le = rw (place_same m p h q t le)

acknowledge-inside : (m b : ℕ) → Inside m (acknowledge_of b)
unfolding content_of acknowledge_of
acknowledge-inside m b q t le = go (eqb b 1) (eqb b 2) (eqb b 3) (eqb b 4) (eqb b 5)
  where
    go : (b1 b2 b3 b4 b5 : Bool) → content_of (q ++ t) (pick b1 RR (pick b2 RF (pick b3 AF (pick b4 AT (pick b5 CA RT)))))
        ≡ content_of q (pick b1 RR (pick b2 RF (pick b3 AF (pick b4 AT (pick b5 CA RT)))))
    go true b2 b3 b4 b5 = refl
    go false true b3 b4 b5 = refl
    go false false true b4 b5 = refl
    go false false false true b5 = refl
    go false false false false true = refl
    go false false false false false = refl

whole-inside : (k : Bool) (b : List ℕ) → Inside (length b) (whole_of k b)
unfolding content_of whole_of
whole-inside k b =
    or 1 _ _ (header-inside (length b) (data_of k b) (data-short k b))
    (or 2 _ _ (λ q t le. rw (place_same (length b) (place_of k b) (data-place k b) q t le))
    (or 3 _ _ (λ q t le. refl)
    (or 4 _ _ (λ q t le. refl)
    (or 5 _ _ (either (Inside (length b)) (eqb (get_or b 1 0) 1) SI (RI (place_of k b)) (λ q t le. refl) (λ q t le. rw (at q t le)))
    (or 6 _ _ (acknowledge-inside (length b) (get_or b 1 0))
    (or 0x10 _ _ (λ q t le. rw (at q t le))
    (or 0x15 _ _ (nak-inside (length b) (resume_read (data_of k b)) (place_of k b) (data-place k b))
    (λ q t le. rw (at q t le)))))))))
  where
    or : (n : ℕ) (x y : Packet) → Inside (length b) x → Inside (length b) y → Inside (length b) (pick (eqb (get_or b 0 0) n) x y)
    or n x y p q = either (Inside (length b)) (eqb (get_or b 0 0) n) x y p q

    at : (q t : List ℕ) → length b ≤ length q → bytes_at (q ++ t) (place_of k b) ≡ bytes_at q (place_of k b)
    at q t le = place_same (length b) (place_of k b) (data-place k b) q t le

-- PLACES. Bytes behind those that the span takes change nothing of what it says.
pub places : (k : Bool) (v : Span) (q t : List ℕ) → size_of v ≤ length q
    → content_of (q ++ t) (packet_in k v (q ++ t)) ≡ content_of q (packet_in k v q)
unfolding content_of
places k Open q t h = refl
places k (Drop n) q t h = refl
places k (Whole n) q t h =
    rw (take-append-le n q t h) (whole-inside k (take n q) q t (rw (length-take-le n q h) h))
