-- A whole packet in the form that we write is written back unchanged.
-- Assumes nothing.
use Rattle.std.specs.Prelude.{None, Option, Some, ℕ}
use mathlib.Core.Path.{◌≡◌, refl, sym, ap, ◌∙◌}
use mathlib.Core.Bool.{Bool, true, false, ◌&&◌, ◌||◌}
use mathlib.Core.List.{List, [], ◌∷◌, ◌++◌, append-nil}
use Prim.Native.Nat.{ℕ, suc, ◌+◌, ◌-◌, ◌%◌, ◌≤◌, ◌<◌}
use native.Mathlib.Omega.{arith}
use lib.Dec.{leb, eqb}
use lib.ListN.{length, take, drop, get_or, take-append-drop, drop_of_length-le}
use lib.Seq.{length-take-le, drop-cons}
use borrow.Author.Tests.{le-leb, ne_eqb, leb-true, eqb-true, eqb-false}
use Rattle.fields.specs.Pick.{pick}
use Rattle.numbers.specs.Canonical.{plain, capitals, is_byte}
use Rattle.fields.specs.Lists.{all, up_to}
use Rattle.numbers.specs.Writing.{hex}
use Rattle.fields.specs.Buffer.{bytes}
use Rattle.fields.proofs.Lists.{both, up_to-cut}
use Rattle.numbers.proofs.RoundTrip.{size_back, hex-back}
use Rattle.numbers.proofs.Reading.{size_below}
use Rattle.packets.specs.declared.spans.Span.TheVariants.{Whole}
use Rattle.packets.specs.declared.Header.{Header}
use Rattle.packets.specs.declared.Resume.{Resume}
use Rattle.packets.specs.Span.{paired, data_length, counted, total, span, lead, trail, place_at}
use Rattle.packets.specs.Packet.{stamp_of, header_read, resume_read, checksum, is_sound, data_of, packet_of}
use Rattle.packets.specs.Content.{Content, rr, rf, af, at, ca, rt, si, ef, et, ri, nr, cn, tx, hd, dt, re, content_of, stamp_data, header_data, header_form, block_form, refusal_form, resume_data, resume_form, request_form, form_of}
use Rattle.packets.specs.Canonical.{behind, is_good, is_present, option_in_form, header_in_form, nak_in_form, in_form}
use Rattle.packets.proofs.RoundTrip.{header-cut, reads-back}
use Rattle.packets.proofs.Parts.{HeaderParts, header-parts, stamp-parts, stamp_in_range, ResumeParts, resume-parts}
use Rattle.packets.proofs.Whole.{Framed, whole-framed, counted-ends, counted-data, one-to-six, known_is, byte_at}

never : {A : Type 0} → false ≡ true → A
never e = let z : ◌≡◌ {A = ℕ} 0 1 = cc in absurd (omega arith)

-- ---- The data of HD and RE

-- all but the last element, and the last
last-is : (n c : ℕ) (s : List ℕ) → length s ≡ n + 1 → c ≡ get_or s n 0 → take n s ++ (c ∷ []) ≡ s
last-is n c s l e =
    let d : drop n s ≡ c ∷ [] = drop-cons s n 0 (omega arith) ∙ rw (← e, drop_of_length-le s {i = suc n} (omega arith)) in
    ap (λ (r : List ℕ). take n s ++ r) (sym d) ∙ take-append-drop n s

present-back : (o : List ℕ) (v : ℕ) → stamp_of o ≡ Some v → capitals (take 8 o) ≡ true → hex 8 v ++ (0 ∷ []) ≡ o
present-back o v e c =
    let p = stamp-parts o v e in
    rw (hex-back v (take 8 o) p.digits c) (last-is 8 0 o p.nine (sym p.last))

option_back : (o : List ℕ) → option_in_form o ≡ true → stamp_data (stamp_of o) ≡ o
unfolding option_in_form stamp_data stamp_of
option_back [] h = refl
option_back (c ∷ o) h = go (stamp_of (c ∷ o)) refl (rw (ne_eqb (suc (length o)) 0 (omega arith)) at h)
  where
    go : (s : Option ℕ) → stamp_of (c ∷ o) ≡ s → is_present (stamp_of (c ∷ o)) && capitals (take 8 (c ∷ o)) ≡ true → stamp_data (stamp_of (c ∷ o)) ≡ c ∷ o
    go (Some v) e h = rw e (present-back (c ∷ o) v e (both (is_present (stamp_of (c ∷ o))) (capitals (take 8 (c ∷ o))) h).1)
    go None e h = never (rw e at (both (is_present (stamp_of (c ∷ o))) (capitals (take 8 (c ∷ o))) h).0)

header-data : (d : List ℕ) (h : Header) → HeaderParts d h → plain (up_to 0 (behind d)) ≡ true → option_in_form (behind (behind d)) ≡ true
    → header_data (up_to 0 d) h.size h.stamp ≡ d
header-data d h p n o =
    header-cut (up_to 0 d) h.size h.stamp
    ∙ rw (size_back h.size (up_to 0 (behind d)) p.size n, p.stamp, option_back (behind (behind d)) o)
    (ap (λ (l : List ℕ). up_to 0 d ++ (0 ∷ l)) (sym (up_to-cut 0 (behind d) p.sized)) ∙ sym (up_to-cut 0 d p.named))

resume-data : (d : List ℕ) (r : Resume) → ResumeParts d r → plain (up_to 0 (drop 2 d)) ≡ true → resume_data r.position r.checked ≡ d
unfolding resume_data
resume-data d r p n =
    rw (size_back r.position (up_to 0 (drop 2 d)) p.position n, ← p.mode)
    (ap (λ (l : List ℕ). 82 ∷ 0 ∷ l) (sym (up_to-cut 0 (drop 2 d) p.ended)) ∙ sym p.asks)

-- ---- Each packet

-- b is what some packet is written as
record Written (k : Bool) (b : List ℕ) : Type 0 where
  content : Content
  form : form_of k content ≡ bytes b

module _ (k : Bool) (d : List ℕ) where
  header-written : header_in_form d ≡ true → Written k (1 ∷ length d ∷ d)
  unfolding form_of header_form header_in_form
  header-written h =
      let g = both (is_good (header_read d)) (plain (up_to 0 (behind d)) && option_in_form (behind (behind d))) h in
      go (header_read d) refl g.0 (both _ _ g.1)
    where
      go : (r : Option Header) → header_read d ≡ r → is_good (header_read d) ≡ true
          → (plain (up_to 0 (behind d)) ≡ true) × (option_in_form (behind (behind d)) ≡ true) → Written k (1 ∷ length d ∷ d)
      go None e g f = never (rw e at g)
      go (Some v) e g f =
          let p = header-parts d v e in
          let q = header-data d v p f.0 f.1 in
          record {
            content = hd (up_to 0 d) v.size v.stamp;
            form = rw (q, p.name, le-leb v.size 99999999 (size_below v.size _ p.size), p.stamp, stamp_in_range (behind (behind d)));
          }

  nak-written : length d ≤ 255 → nak_in_form d ≡ true → Written k (0x15 ∷ length d ∷ d)
  unfolding form_of refusal_form resume_form nak_in_form
  nak-written l h = go (resume_read d) refl
    where
      go : (r : Option Resume) → resume_read d ≡ r → Written k (0x15 ∷ length d ∷ d)
      go (Some r) e =
          let p = resume-parts d r e in
          let q = resume-data d r p (rw e at h) in
          record { content = re r.position r.checked; form = rw (q, le-leb r.position 99999999 (size_below r.position _ p.position)) }
      go None e = record { content = nr d; form = rw (e, le-leb (length d) 255 l) }

  cancel-written : length d ≤ 255 → Written k (0x18 ∷ length d ∷ d)
  unfolding form_of
  cancel-written l = record { content = cn d; form = rw (le-leb (length d) 255 l) }

  text-written : length d ≤ 255 → Written k (0x10 ∷ length d ∷ d)
  unfolding form_of
  text-written l = record { content = tx d; form = rw (le-leb (length d) 255 l) }

  request-written : length d ≤ 255 → Written k (5 ∷ 2 ∷ length d ∷ d)
  unfolding form_of request_form
  request-written l = record { content = ri d; form = rw (le-leb (length d) 255 l) }

  block_written : (x : ℕ) → x < 256 → data_length x ≡ length d → Written k ((2 ∷ x ∷ d) ++ pick k (checksum d ∷ []) [])
  unfolding form_of block_form data_length
  block_written x h e = go (eqb x 0) refl e
    where
      go : (t : Bool) → eqb x 0 ≡ t → pick t 256 x ≡ length d → Written k ((2 ∷ x ∷ d) ++ pick k (checksum d ∷ []) [])
      go true p e = let z = eqb-true x 0 p in let m : length d % 256 ≡ x = omega arith in
          record { content = dt d true; form = rw (le-leb 1 (length d) (omega arith), le-leb (length d) 256 (omega arith), m) }
      go false p e = let z = eqb-false x 0 p in let m : length d % 256 ≡ x = omega arith in
          record { content = dt d true; form = rw (le-leb 1 (length d) (omega arith), le-leb (length d) 256 (omega arith), m) }

-- ---- Every packet, by its first byte

module _ (k : Bool) (x : ℕ) (t : List ℕ) (small : x < 256) where
  counted-length : (a : ℕ) → counted a ≡ true → Framed k (a ∷ x ∷ t) → x ≡ length t
  counted-length a c f = omega (arith, f.ends, counted-ends a c k x (get_or t 0 0))

  header-case : Framed k (1 ∷ x ∷ t) → in_form k (1 ∷ x ∷ t) ≡ true → Written k (1 ∷ x ∷ t)
  unfolding in_form counted
  header-case f h =
      let e = counted-length 1 refl f in
      let g : header_in_form (data_of k (1 ∷ length t ∷ t)) ≡ true = rw e at h in
      rw e (header-written k t (rw (counted-data k 1 t refl) at g))

  nak-case : Framed k (0x15 ∷ x ∷ t) → in_form k (0x15 ∷ x ∷ t) ≡ true → Written k (0x15 ∷ x ∷ t)
  unfolding in_form counted
  nak-case f h =
      let e = counted-length 0x15 refl f in
      let g : nak_in_form (data_of k (0x15 ∷ length t ∷ t)) ≡ true = rw e at h in
      rw e (nak-written k t (omega arith) (rw (counted-data k 0x15 t refl) at g))

  cancel-case : Framed k (0x18 ∷ x ∷ t) → Written k (0x18 ∷ x ∷ t)
  unfolding counted
  cancel-case f = let e = counted-length 0x18 refl f in rw e (cancel-written k t (omega arith))

  text-case : Framed k (0x10 ∷ x ∷ t) → Written k (0x10 ∷ x ∷ t)
  unfolding counted
  text-case f = let e = counted-length 0x10 refl f in rw e (text-written k t (omega arith))

-- a DT in plain YAPP, and one with its checksum
block-case : (k : Bool) (x : ℕ) (t : List ℕ) → x < 256 → Framed k (2 ∷ x ∷ t) → in_form k (2 ∷ x ∷ t) ≡ true → Written k (2 ∷ x ∷ t)
unfolding total counted in_form is_sound place_at lead trail
block-case false x t small f h = rw append-nil at (block_written false t x small (omega (arith, f.ends)))
block-case true x t small f h =
    let n : length t ≡ data_length x + 1 = omega (arith, f.ends) in
    let l : suc (suc (length t)) - 3 ≡ data_length x = omega arith in
    let d = take (data_length x) t in
    let e : length d ≡ data_length x = length-take-le (data_length x) t (omega arith) in
    let s : checksum d ≡ get_or (2 ∷ x ∷ t) (2 + data_length x) 0 = eqb-true _ _ (rw l at h) in
    let i : 2 + data_length x ≡ suc (suc (data_length x)) = omega arith in
    rw (last-is (data_length x) (checksum d) t n (s ∙ ap (λ (j : ℕ). get_or (2 ∷ x ∷ t) j 0) i)) at (block_written true d x small (sym e))

-- the packets of two bytes
pair-case : (k : Bool) (a x : ℕ) (t : List ℕ) → total k a x (get_or t 0 0) ≡ 2 → Framed k (a ∷ x ∷ t) → Written k (a ∷ x ∷ []) → Written k (a ∷ x ∷ t)
pair-case k a x [] e f w = w
pair-case k a x (y ∷ t) e f w = absurd (omega (arith, f.ends))

module _ (k : Bool) (x : ℕ) (t : List ℕ) where
  end-case : Framed k (3 ∷ x ∷ t) → Written k (3 ∷ x ∷ t)
  unfolding total counted paired form_of
  end-case f = pair-case k 3 x t refl f (rw (eqb-true x 1 f.pairs) (record { content = ef; form = refl }))

  last-case : Framed k (4 ∷ x ∷ t) → Written k (4 ∷ x ∷ t)
  unfolding total counted paired form_of
  last-case f = pair-case k 4 x t refl f (rw (eqb-true x 1 f.pairs) (record { content = et; form = refl }))

  acknowledge-case : Framed k (6 ∷ x ∷ t) → Written k (6 ∷ x ∷ t)
  unfolding total counted paired form_of
  acknowledge-case f =
      let p = both (leb 1 x) (leb x 6) f.pairs in
      pair-case k 6 x t refl f
      (one-to-six (λ n. Written k (6 ∷ n ∷ []))
      (record { content = rr; form = refl }) (record { content = rf; form = refl }) (record { content = af; form = refl })
      (record { content = at; form = refl }) (record { content = ca; form = refl }) (record { content = rt; form = refl })
      x (leb-true 1 x p.0) (leb-true x 6 p.1))

enquiry-case : (k : Bool) (x : ℕ) (t : List ℕ) → get_or t 0 0 < 256 → Framed k (5 ∷ x ∷ t) → Written k (5 ∷ x ∷ t)
unfolding total counted paired form_of
enquiry-case k x t third f = go (eqb x 1) refl (eqb x 2) refl f.pairs
  where
    two : (t : List ℕ) → get_or t 0 0 < 256 → Framed k (5 ∷ 2 ∷ t) → Written k (5 ∷ 2 ∷ t)
    two [] h f = absurd (omega (arith, f.ends))
    two (y ∷ t) h f = let e : y ≡ length t = omega (arith, f.ends) in rw e (request-written k t (omega arith))

    go : (u : Bool) → eqb x 1 ≡ u → (v : Bool) → eqb x 2 ≡ v → eqb x 1 || eqb x 2 ≡ true → Written k (5 ∷ x ∷ t)
    go true e v g p = let q = eqb-true x 1 e in rw q (pair-case k 5 1 t refl (rw q at f) (record { content = si; form = refl }))
    go false e true g p = let q = eqb-true x 2 g in rw q (two t third (rw q at f))
    go false e false g p = never (rw (e, g) at p)

-- ---- What is written back

every-case : (k : Bool) (a x : ℕ) (t : List ℕ) → x < 256 → get_or t 0 0 < 256 → Framed k (a ∷ x ∷ t) → in_form k (a ∷ x ∷ t) ≡ true → Written k (a ∷ x ∷ t)
every-case k a x t hx ht f h =
    known_is (λ n. Framed k (n ∷ x ∷ t) → in_form k (n ∷ x ∷ t) ≡ true → Written k (n ∷ x ∷ t))
    (record {
      p1 = header-case k x t hx;
      p2 = block-case k x t hx;
      p3 = λ f h. end-case k x t f;
      p4 = λ f h. last-case k x t f;
      p5 = λ f h. enquiry-case k x t ht f;
      p6 = λ f h. acknowledge-case k x t f;
      p10 = λ f h. text-case k x t hx f;
      p15 = nak-case k x t hx;
      p18 = λ f h. cancel-case k x t hx f;
    })
    a f.starts f h

written : (k : Bool) (b : List ℕ) → all is_byte b ≡ true → Framed k b → in_form k b ≡ true → Written k b
written k [] h f g = absurd (omega (arith, f.two))
written k (a ∷ []) h f g = absurd (omega (arith, f.two))
written k (a ∷ x ∷ t) h f g = every-case k a x t (byte_at (a ∷ x ∷ t) 1 h) (byte_at (a ∷ x ∷ t) 2 h) f g

-- a whole packet in the form that we write is written back unchanged
pub writes-back : (k : Bool) (b : List ℕ) → all is_byte b ≡ true → span k b ≡ Whole (length b) → in_form k b ≡ true
    → form_of k (content_of b (packet_of k b)) ≡ bytes b
writes-back k b h e g =
    let w = written k b h (whole-framed k b e) g in
    ap (form_of k) (reads-back k w.content b w.form).1 ∙ w.form
