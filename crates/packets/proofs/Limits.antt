-- What is read keeps to the limits of a name, a size, a stamp, a position and a block.
-- Assumes nothing.
use Rattle.std.specs.Prelude.{None, Option, Some}
use mathlib.Core.Path.{◌≡◌, refl, ◌∙◌}
use mathlib.Core.Bool.{Bool, true, false}
use mathlib.Core.List.{List, [], ◌∷◌, ◌++◌}
use Prim.Native.Nat.{ℕ, ◌≤◌, ◌<◌}
use native.Mathlib.Omega.{arith}
use lib.Dec.{eqb}
use lib.ListN.{length, take, drop, get_or, length-append, take-append-drop}
use lib.Seq.{length-take-le, take-append-le}
use Rattle.numbers.specs.Canonical.{is_byte}
use Rattle.fields.specs.Lists.{all, bytes_at, up_to}
use Rattle.fields.specs.Name.{is_name}
use Rattle.fields.proofs.Lists.{take-up_to, up_to-le}
use Rattle.numbers.proofs.Reading.{size_below}
use Rattle.packets.specs.declared.spans.Span.TheVariants.{Open as Unfinished, Whole, Drop}
use Rattle.packets.specs.declared.Packet.{Packet}
use Rattle.packets.specs.declared.Header.{Header}
use Rattle.packets.specs.declared.Resume.{Resume}
use Rattle.packets.specs.declared.spans.Span.{Span}
use Rattle.packets.specs.declared.Block.{Block}
use Rattle.packets.specs.declared.Packet.TheVariants.{RR, RF, AF, AT, CA, RT, SI, RI, HD, Malformed, DT, EF, ET, NR, RE, CN, TX, Dropped, Open}
use Rattle.packets.specs.Span.{counted, total, span, lead, trail, place_at}
use Rattle.packets.specs.Packet.{header_read, header_by, resume_read, nak_by, acknowledge_of, place_of, data_of, whole_of, packet_of, packet_in}
use Rattle.packets.specs.Content.{stamp_fits}
use Rattle.packets.specs.Canonical.{behind}
use Rattle.packets.proofs.Bounds.{either, data-length}
use Rattle.packets.proofs.Parts.{header-parts, stamp_in_range, resume-parts}
use Rattle.packets.proofs.Whole.{Framed, whole-front, data-behind, known_is, byte_at}

-- the limits of a packet whose places are in b; those of a DT where its length is a byte
Keeps : List ℕ → Packet → Type 0
Keeps b RR = Unit {0}
Keeps b RF = Unit {0}
Keeps b AF = Unit {0}
Keeps b AT = Unit {0}
Keeps b CA = Unit {0}
Keeps b RT = Unit {0}
Keeps b SI = Unit {0}
Keeps b (RI p) = Unit {0}
Keeps b (HD h) = (is_name (bytes_at b h.name) ≡ true) × (h.size ≤ 99999999) × (stamp_fits h.stamp ≡ true)
Keeps b (Malformed f) = Unit {0}
Keeps b (DT d) = get_or b 1 0 < 256 → (1 ≤ d.place.len) × (d.place.len ≤ 256) × (length (bytes_at b d.place) ≡ d.place.len)
Keeps b EF = Unit {0}
Keeps b ET = Unit {0}
Keeps b (NR p) = Unit {0}
Keeps b (RE r) = r.position ≤ 99999999
Keeps b (CN p) = Unit {0}
Keeps b (TX p) = Unit {0}
Keeps b (Dropped n) = Unit {0}
Keeps b Open = Unit {0}

-- ---- A whole packet a x t, with r behind it

module _ (k : Bool) (x : ℕ) (t r : List ℕ) where
  header-keeps : Keeps ((1 ∷ x ∷ t) ++ r) (whole_of k (1 ∷ x ∷ t))
  unfolding whole_of Keeps counted
  header-keeps = rw (data-behind k 1 x t refl) (go (header_read t) refl)
    where
      go : (v : Option Header) → header_read t ≡ v → Keeps ((1 ∷ x ∷ t) ++ r) (header_by t v)
      go None e = tt
      go (Some h) e =
          let p = header-parts t h e in
          let n : take (length (up_to 0 t)) (t ++ r) ≡ up_to 0 t = take-append-le (length (up_to 0 t)) t r (up_to-le 0 t) ∙ take-up_to 0 t (length (up_to 0 t)) refl in
          (rw (p.place, n) p.name, size_below h.size (up_to 0 (behind t)) p.size, rw p.stamp (stamp_in_range (behind (behind t))))

  nak-keeps : Keeps ((0x15 ∷ x ∷ t) ++ r) (whole_of k (0x15 ∷ x ∷ t))
  unfolding whole_of Keeps
  nak-keeps = go (resume_read (data_of k (0x15 ∷ x ∷ t))) refl
    where
      go : (v : Option Resume) → resume_read (data_of k (0x15 ∷ x ∷ t)) ≡ v → Keeps ((0x15 ∷ x ∷ t) ++ r) (nak_by v (place_of k (0x15 ∷ x ∷ t)))
      go (Some a) e = size_below a.position _ (resume-parts _ a e).position
      go None e = tt

  acknowledge-keeps : (b : List ℕ) → Keeps b (acknowledge_of x)
  unfolding acknowledge_of Keeps
  acknowledge-keeps b =
      either (Keeps b) (eqb x 1) _ _ tt (either (Keeps b) (eqb x 2) _ _ tt (either (Keeps b) (eqb x 3) _ _ tt
      (either (Keeps b) (eqb x 4) _ _ tt (either (Keeps b) (eqb x 5) _ _ tt tt))))

block-keeps : (k : Bool) (x : ℕ) (t r : List ℕ) → Framed k (2 ∷ x ∷ t) → Keeps ((2 ∷ x ∷ t) ++ r) (whole_of k (2 ∷ x ∷ t))
unfolding whole_of Keeps total counted place_at lead trail
block-keeps true x t r f h =
    let d = data-length x h in
    (omega (arith, f.ends), omega (arith, f.ends), length-take-le _ (t ++ r) (rw length-append (omega arith)))
block-keeps false x t r f h =
    let d = data-length x h in
    (omega (arith, f.ends), omega (arith, f.ends), length-take-le _ (t ++ r) (rw length-append (omega arith)))

whole-keeps : (k : Bool) (q r : List ℕ) → Framed k q → Keeps (q ++ r) (whole_of k q)
unfolding whole_of Keeps
whole-keeps k [] r f = absurd (omega (arith, f.two))
whole-keeps k (a ∷ []) r f = absurd (omega (arith, f.two))
whole-keeps k (a ∷ x ∷ t) r f =
    known_is (λ n. Framed k (n ∷ x ∷ t) → Keeps ((n ∷ x ∷ t) ++ r) (whole_of k (n ∷ x ∷ t)))
    (record {
      p1 = λ f. header-keeps k x t r;
      p2 = block-keeps k x t r;
      p3 = λ f. tt;
      p4 = λ f. tt;
      p5 = λ f. either (Keeps ((5 ∷ x ∷ t) ++ r)) (eqb x 1) _ _ tt tt;
      p6 = λ f. acknowledge-keeps k x t r ((6 ∷ x ∷ t) ++ r);
      p10 = λ f. tt;
      p15 = λ f. nak-keeps k x t r;
      p18 = λ f. tt;
    })
    a f.starts f

-- ---- What stands at the front of b

keeps : (k : Bool) (b : List ℕ) → Keeps b (packet_of k b)
unfolding Keeps
keeps k b = go (span k b) refl
  where
    go : (v : Span) → span k b ≡ v → Keeps b (packet_in k v b)
    go Unfinished e = tt
    go (Drop n) e = tt
    go (Whole n) e = rw (take-append-drop n b) at (whole-keeps k (take n b) (drop n b) (whole-front k b n e))

module _ (k : Bool) (b : List ℕ) where
  -- a header's name, size and stamp
  pub header-limits : (h : Header) → packet_of k b ≡ HD h
      → (is_name (bytes_at b h.name) ≡ true) × (h.size ≤ 99999999) × (stamp_fits h.stamp ≡ true)
  unfolding Keeps
  header-limits h e = rw e at (keeps k b)

  -- a resume's position
  pub resume-limits : (r : Resume) → packet_of k b ≡ RE r → r.position ≤ 99999999
  unfolding Keeps
  resume-limits r e = rw e at (keeps k b)

  -- a block has 1 to 256 bytes of data, and they are there
  pub block-limits : (d : Block) → all is_byte b ≡ true → packet_of k b ≡ DT d
      → (1 ≤ d.place.len) × (d.place.len ≤ 256) × (length (bytes_at b d.place) ≡ d.place.len)
  unfolding Keeps
  block-limits d h e = (rw e at (keeps k b)) (byte_at b 1 h)
