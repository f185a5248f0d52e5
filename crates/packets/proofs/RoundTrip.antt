-- What is written is one whole packet, in the form that we write, and reads back as the same packet.
-- Assumes nothing.
use Rattle.packets.specs.declared.Resume.{Resume}
use Rattle.std.specs.Prelude.{None, Option, Some, ℕ}
use mathlib.Core.Path.{◌≡◌, refl, sym, ap, ◌∙◌}
use mathlib.Core.Bool.{Bool, true, false, not}
use mathlib.Core.List.{List, [], ◌∷◌, ◌++◌, append_assoc, append-nil}
use mathlib.Core.Logic.{⊎_elim}
use Prim.Native.Nat.{ℕ, suc, ◌+◌, ◌-◌, ◌%◌, ◌≤◌, ◌<◌}
use native.Mathlib.Omega.{arith}
use lib.ListN.{length, take, length-append}
use lib.Seq.{take_all, take_at, get_or_at}
use borrow.Author.Tests.{lt-ltb, le-ltb, eq-eqb, ne_eqb, leb-true}
use Rattle.fields.specs.Pick.{pick}
use Rattle.fields.specs.Name.{is_name_byte, is_name}
use Rattle.numbers.specs.Writing.{decimal, hex}
use Rattle.fields.specs.Buffer.{formless, bytes, form_if}
use Rattle.fields.proofs.Lists.{le-or-lt, both, name-length, name_free, cut-before, cut_inside, cut-behind}
use Rattle.numbers.proofs.numerals.Writing.{hex-length}
use Rattle.numbers.proofs.RoundTrip.{decimal-plain, read-size, read-hex, decimal-length}
use Rattle.numbers.proofs.Canonical.{decimal-free, hex-capitals}
use Rattle.packets.specs.declared.spans.Span.TheVariants.{Whole}
use Rattle.packets.specs.Span.{known, paired, data_length, counted, total, span, lead, trail, place_at}
use Rattle.packets.specs.Packet.{stamp_of, header_size, header_read, resume_mode, resume_digits, resume_read, checksum, is_sound, acknowledge_of, whole_of, packet_of}
use Rattle.packets.specs.Content.{Content, rr, rf, af, at, ca, rt, si, ef, et, ri, nr, cn, tx, hd, malformed, dt, re, dropped, unfinished, content_of, stamp_data, stamp_fits, header_data, header_form, block_form, is_asked, refusal_form, resume_data, resume_form, request_form, form_of}
use Rattle.packets.specs.Canonical.{option_in_form, header_in_form, nak_in_form, in_form, is_block}
use Rattle.packets.specs.Kind.{kind_of}
use Rattle.packets.proofs.Whole.{Framed, framed-whole, packet-whole, counted-framed, counted-data}

-- ---- The data of HD

stamp-back : (s : Option ℕ) → stamp_fits s ≡ true → stamp_of (stamp_data s) ≡ s
unfolding stamp_of stamp_data
stamp-back (Some v) h =
    let l : length (hex 8 v ++ (0 ∷ [])) ≡ 9 = simp (length-append, hex-length) in
    let b = leb-true v 0xFFFFFFFF h in
    rw (eq-eqb _ 9 l, get_or_at (hex 8 v) 0 [] 0 8 (hex-length 8 v), take_at (hex 8 v) (0 ∷ []) 8 (hex-length 8 v), read-hex v (omega arith))
stamp-back None h = refl

stamp-length : (s : Option ℕ) → length (stamp_data s) ≤ 9
unfolding stamp_data
stamp-length (Some v) = rw (length-append, hex-length 8 v) (omega arith)
stamp-length None = omega arith

option-form : (s : Option ℕ) → stamp_fits s ≡ true → option_in_form (stamp_data s) ≡ true
unfolding option_in_form stamp_data
option-form (Some v) h =
    let l : length (hex 8 v ++ (0 ∷ [])) ≡ 9 = simp (length-append, hex-length) in
    let t : take 8 (hex 8 v ++ (0 ∷ [])) ≡ hex 8 v = take_at (hex 8 v) (0 ∷ []) 8 (hex-length 8 v) in
    rw (ne_eqb (length (hex 8 v ++ (0 ∷ []))) 0 (omega arith), stamp-back (Some v) h, t, hex-capitals 8 v)
option-form None h = refl

-- name 00, and behind it size 00 option
pub header-cut : (name : List ℕ) (size : ℕ) (stamp : Option ℕ) → header_data name size stamp ≡ name ++ (0 ∷ (decimal size ++ (0 ∷ stamp_data stamp)))
unfolding header_data
header-cut name size stamp = simp append_assoc

module _ (name : List ℕ) (size : ℕ) (stamp : Option ℕ) (n : is_name name ≡ true) (h : size ≤ 99999999) (f : stamp_fits stamp ≡ true) where
  size_back : (i : ℕ) → header_size i (decimal size ++ (0 ∷ stamp_data stamp)) ≡ Some (record { name = record { start = 2; len = i }; size = size; stamp = stamp })
  unfolding header_size
  size_back i =
      let o = stamp_data stamp in
      let c = cut-before 0 (decimal size) o (decimal-free 0 size refl) in
      rw (c, lt-ltb _ _ (cut_inside 0 (decimal size) o), read-size size h, cut-behind 0 (decimal size) o, stamp-back stamp f)

  pub header-back : header_read (header_data name size stamp) ≡ Some (record { name = record { start = 2; len = length name }; size = size; stamp = stamp })
  unfolding header_read is_name_byte
  header-back =
      let r = decimal size ++ (0 ∷ stamp_data stamp) in
      let c = cut-before 0 name r (name_free 0 name refl n) in
      rw (header-cut name size stamp, c, lt-ltb _ _ (cut_inside 0 name r), n, cut-behind 0 name r) (size_back (length name))

  -- the data are short enough for the length byte
  pub header-length : length (header_data name size stamp) ≤ 83
  header-length =
      rw header-cut
      (simp length-append (omega (arith, name-length name n, decimal-length 7 size (omega arith) (omega arith), stamp-length stamp)))

header-form : (name : List ℕ) (size : ℕ) (stamp : Option ℕ) → is_name name ≡ true → size ≤ 99999999 → stamp_fits stamp ≡ true
    → header_in_form (header_data name size stamp) ≡ true
unfolding header_in_form is_name_byte
header-form name size stamp n h f =
    let o = stamp_data stamp in
    let r = decimal size ++ (0 ∷ o) in
    rw (
      header-back name size stamp n h f,
      header-cut name size stamp,
      cut-before 0 name r (name_free 0 name refl n),
      cut-behind 0 name r,
      cut-before 0 (decimal size) o (decimal-free 0 size refl),
      decimal-plain size (omega arith),
      cut-behind 0 (decimal size) o,
    )
    (option-form stamp f)

-- ---- The data of RE

module _ (p : ℕ) (h : p ≤ 99999999) where
  pub resume-back : (c : Bool) → resume_read (resume_data p c) ≡ Some (record { position = p; checked = c })
  unfolding resume_read resume_data resume_digits resume_mode
  resume-back c =
      let o : List ℕ = pick c (67 ∷ 0 ∷ []) [] in
      let e = cut-before 0 (decimal p) o (decimal-free 0 p refl) in
      rw (le-ltb (length (resume_data p c)) 2 (omega arith), e, lt-ltb _ _ (cut_inside 0 (decimal p) o), read-size p h, cut-behind 0 (decimal p) o) (mode c)
    where
      mode : (c : Bool) → resume_mode p (pick c (67 ∷ 0 ∷ []) []) ≡ Some (record { position = p; checked = c })
      mode true = refl
      mode false = refl

  pub resume-length : (c : Bool) → length (resume_data p c) ≤ 13
  unfolding resume_data
  resume-length true = rw length-append (omega (arith, decimal-length 7 p (omega arith) (omega arith)))
  resume-length false = rw length-append (omega (arith, decimal-length 7 p (omega arith) (omega arith)))

resume-form : (p : ℕ) (c : Bool) → p ≤ 99999999 → nak_in_form (resume_data p c) ≡ true
unfolding nak_in_form resume_data
resume-form p c h =
    rw (resume-back p h c, cut-before 0 (decimal p) (pick c (67 ∷ 0 ∷ []) []) (decimal-free 0 p refl))
    (decimal-plain p (omega arith))

-- ---- DT

block-count : (n : ℕ) → 1 ≤ n → n ≤ 256 → data_length (n % 256) ≡ n
unfolding data_length
block-count n h g = ⊎_elim
    (λ (l : 256 ≤ n). let e : n ≡ 256 = omega arith in rw e)
    (λ (l : n < 256). let e : n % 256 ≡ n = omega arith in rw (e, ne_eqb n 0 (omega arith)))
    (le-or-lt 256 n)

-- ---- Every packet

-- bs is one whole packet that says c, in the form that we write
record Reads (k : Bool) (c : Content) (bs : List ℕ) : Type 0 where
  frame : Framed k bs
  fits : length bs ≤ 259
  says : content_of bs (whole_of k bs) ≡ c
  form : in_form k bs ≡ true

-- a form that is there: its test holds, and its bytes are these
form-is : (t : Bool) (s bs : List ℕ) → form_if t s ≡ bytes bs → (t ≡ true) × (s ≡ bs)
form-is true s bs e = (refl, cc)
form-is false s bs e = let z : ◌≡◌ {A = ℕ} 0 1 = cc in absurd (omega arith)

formless-not : {A : Type 0} (bs : List ℕ) → formless ≡ bytes bs → A
formless-not bs e = let z : ◌≡◌ {A = ℕ} 0 1 = cc in absurd (omega arith)

pair : (k : Bool) (c : Content) (a b : ℕ) (bs : List ℕ) → bytes (a ∷ b ∷ []) ≡ bytes bs → known a ≡ true → paired a b ≡ true → total k a b 0 ≡ 2
    → content_of (a ∷ b ∷ []) (whole_of k (a ∷ b ∷ [])) ≡ c → in_form k (a ∷ b ∷ []) ≡ true → Reads k c bs
pair k c a b bs e s p t w f =
    let q : a ∷ b ∷ [] ≡ bs = cc in
    rw (← q) (record { frame = record { two = omega arith; starts = s; pairs = p; ends = t }; fits = omega arith; says = w; form = f })

not-asked : (r : Option Resume) → not (is_asked r) ≡ true → r ≡ None
not-asked (Some r) h = let z : ◌≡◌ {A = ℕ} 0 1 = cc in absurd (omega arith)
not-asked None h = refl

abbrev block_bytes : Bool → List ℕ → List ℕ
block_bytes k d = (2 ∷ length d % 256 ∷ d) ++ pick k (checksum d ∷ []) []

block-says : (k : Bool) (d : List ℕ) → content_of (block_bytes k d) (whole_of k (block_bytes k d)) ≡ dt d true
unfolding whole_of content_of place_at lead trail is_sound
block-says true d =
    let l : length (d ++ (checksum d ∷ [])) ≡ length d + 1 = length-append d (checksum d ∷ []) in
    let n : suc (suc (length (d ++ (checksum d ∷ [])))) - 3 ≡ length d = omega arith in
    rw (n, take_at d (checksum d ∷ []) (length d) refl, get_or_at (2 ∷ length d % 256 ∷ d) (checksum d) [] 0 (2 + length d) (omega arith), eq-eqb (checksum d) (checksum d) refl)
block-says false d =
    ap (λ (l : List ℕ). dt l true) (take_all (suc (suc (length (d ++ []))) - 2) (d ++ []) (omega arith) ∙ append-nil d)

block-sound : (k : Bool) (d : List ℕ) → in_form k (block_bytes k d) ≡ true
unfolding in_form whole_of content_of
block-sound k d = let s = block-says k d in cc

block_size : (k : Bool) (d : List ℕ) → (length (block_bytes k d) ≡ pick k (length d + 3) (length d + 2)) × (length (block_bytes k d) ≤ length d + 3)
block_size true d = let l = length-append d (checksum d ∷ []) in (omega arith, omega arith)
block_size false d = let l = ap length (append-nil d) in (omega arith, omega arith)

block_reads : (k : Bool) (d : List ℕ) → 1 ≤ length d → length d ≤ 256 → Reads k (dt d true) (block_bytes k d)
unfolding known paired counted total
block_reads k d h g =
    let l = block_size k d in
    record {
      frame = record { two = omega arith; starts = refl; pairs = refl; ends = rw (block-count (length d) h g) (sym l.0) };
      fits = omega arith;
      says = block-says k d;
      form = block-sound k d;
    }

refusal-form : (s : List ℕ) → resume_read s ≡ None → nak_in_form s ≡ true
unfolding nak_in_form
refusal-form s e = rw e

module _ (k : Bool) where
  header-reads : (name : List ℕ) (size : ℕ) (stamp : Option ℕ) → is_name name ≡ true → size ≤ 99999999 → stamp_fits stamp ≡ true
      → Reads k (hd name size stamp) (1 ∷ length (header_data name size stamp) ∷ header_data name size stamp)
  unfolding whole_of content_of counted in_form
  header-reads name size stamp n h f =
      let d = header_data name size stamp in
      record {
        frame = counted-framed k 1 d refl;
        fits = omega (arith, header-length name size stamp n h f);
        says = rw (counted-data k 1 d refl, header-back name size stamp n h f)
            (ap (λ (l : List ℕ). hd l size stamp)
            (ap (take (length name)) (header-cut name size stamp) ∙ take_at name _ (length name) refl));
        form = rw (counted-data k 1 d refl) (header-form name size stamp n h f);
      }

  refusal-reads : (s : List ℕ) → length s ≤ 255 → resume_read s ≡ None → Reads k (nr s) (0x15 ∷ length s ∷ s)
  unfolding whole_of content_of counted in_form
  refusal-reads s h e = record {
    frame = counted-framed k 0x15 s refl;
    fits = omega arith;
    says = rw (counted-data k 0x15 s refl, e) (ap nr (counted-data k 0x15 s refl));
    form = rw (counted-data k 0x15 s refl) (refusal-form s e);
  }

  resume-reads : (p : ℕ) (c : Bool) → p ≤ 99999999 → Reads k (re p c) (0x15 ∷ length (resume_data p c) ∷ resume_data p c)
  unfolding whole_of content_of counted in_form
  resume-reads p c h = record {
    frame = counted-framed k 0x15 (resume_data p c) refl;
    fits = omega (arith, resume-length p h c);
    says = rw (counted-data k 0x15 (resume_data p c) refl, resume-back p h c);
    form = rw (counted-data k 0x15 (resume_data p c) refl) (resume-form p c h);
  }

  cancel-reads : (s : List ℕ) → length s ≤ 255 → Reads k (cn s) (0x18 ∷ length s ∷ s)
  unfolding whole_of content_of counted in_form
  cancel-reads s h = record { frame = counted-framed k 0x18 s refl; fits = omega arith; says = rw (counted-data k 0x18 s refl); form = refl }

  text-reads : (s : List ℕ) → length s ≤ 255 → Reads k (tx s) (0x10 ∷ length s ∷ s)
  unfolding whole_of content_of counted in_form
  text-reads s h = record { frame = counted-framed k 0x10 s refl; fits = omega arith; says = rw (counted-data k 0x10 s refl); form = refl }

  request-reads : (s : List ℕ) → length s ≤ 255 → Reads k (ri s) (5 ∷ 2 ∷ length s ∷ s)
  unfolding known paired counted total whole_of content_of place_at lead trail in_form
  request-reads s h = record {
    frame = record { two = omega arith; starts = refl; pairs = refl; ends = omega arith };
    fits = omega arith;
    says = ap ri (take_all (suc (suc (suc (length s))) - 3) s (omega arith));
    form = refl;
  }

reads : (k : Bool) (c : Content) (bs : List ℕ) → form_of k c ≡ bytes bs → Reads k c bs
unfolding form_of in_form known paired counted total whole_of content_of acknowledge_of header_form block_form refusal_form resume_form request_form
reads k rr bs e = pair k rr 6 1 bs e refl refl refl refl refl
reads k rf bs e = pair k rf 6 2 bs e refl refl refl refl refl
reads k af bs e = pair k af 6 3 bs e refl refl refl refl refl
reads k at bs e = pair k at 6 4 bs e refl refl refl refl refl
reads k ca bs e = pair k ca 6 5 bs e refl refl refl refl refl
reads k rt bs e = pair k rt 6 6 bs e refl refl refl refl refl
reads k si bs e = pair k si 5 1 bs e refl refl refl refl refl
reads k ef bs e = pair k ef 3 1 bs e refl refl refl refl refl
reads k et bs e = pair k et 4 1 bs e refl refl refl refl refl
reads k (ri s) bs e =
    let f = form-is _ _ bs e in
    rw (← f.1) (request-reads k s (leb-true _ _ f.0))
reads k (nr s) bs e =
    let f = form-is _ _ bs e in
    let g = both _ _ f.0 in
    rw (← f.1) (refusal-reads k s (leb-true _ _ g.0) (not-asked _ g.1))
reads k (cn s) bs e =
    let f = form-is _ _ bs e in
    rw (← f.1) (cancel-reads k s (leb-true _ _ f.0))
reads k (tx s) bs e =
    let f = form-is _ _ bs e in
    rw (← f.1) (text-reads k s (leb-true _ _ f.0))
reads k (hd name size stamp) bs e =
    let f = form-is _ _ bs e in
    let g = both _ _ f.0 in
    let h = both _ _ g.1 in
    rw (← f.1) (header-reads k name size stamp g.0 (leb-true _ _ h.0) h.1)
reads k (malformed f) bs e = formless-not bs e
reads k (dt d true) bs e =
    let f = form-is _ _ bs e in
    let g = both _ _ f.0 in
    rw (← f.1) (block_reads k d (leb-true _ _ g.0) (leb-true _ _ g.1))
reads k (dt d false) bs e = formless-not bs e
reads k (re p c) bs e =
    let f = form-is _ _ bs e in
    rw (← f.1) (resume-reads k p c (leb-true _ _ f.0))
reads k (dropped n) bs e = formless-not bs e
reads k unfinished bs e = formless-not bs e

-- ---- What is written

module _ (k : Bool) (c : Content) (bs : List ℕ) (e : form_of k c ≡ bytes bs) where
  -- it is whole at its own length, and reads back as the same packet
  pub reads-back : (span k bs ≡ Whole (length bs)) × (content_of bs (packet_of k bs) ≡ c)
  reads-back =
      let r = reads k c bs e in
      let w = framed-whole k bs r.frame in
      (w, ap (content_of bs) (packet-whole k bs w) ∙ r.says)

  -- its first three bytes are known ones and give its length
  pub form-framed : Framed k bs
  form-framed = (reads k c bs e).frame

  -- it is in the form that we write
  pub in-form : in_form k bs ≡ true
  in-form = (reads k c bs e).form

  -- it fits the least reply buffer
  pub reply-fits : length bs ≤ 259
  reply-fits = (reads k c bs e).fits

-- a packet that is no DT is written alike in both modes
pub plain-alike : (k m : Bool) (c : Content) → is_block c ≡ false → form_of k c ≡ form_of m c
unfolding form_of is_block kind_of
plain-alike k m rr h = refl
plain-alike k m rf h = refl
plain-alike k m af h = refl
plain-alike k m at h = refl
plain-alike k m ca h = refl
plain-alike k m rt h = refl
plain-alike k m si h = refl
plain-alike k m ef h = refl
plain-alike k m et h = refl
plain-alike k m (ri s) h = refl
plain-alike k m (nr s) h = refl
plain-alike k m (cn s) h = refl
plain-alike k m (tx s) h = refl
plain-alike k m (hd n v s) h = refl
plain-alike k m (malformed f) h = refl
plain-alike k m (dt d s) h = let z : ◌≡◌ {A = ℕ} 0 1 = cc in absurd (omega arith)
plain-alike k m (re p c) h = refl
plain-alike k m (dropped n) h = refl
plain-alike k m unfinished h = refl
