-- What is written reads back, and what is read from the form that we write is written back unchanged. Assumes nothing.
use mathlib.Core.Path.{◌≡◌, refl, sym, ap, ◌∙◌}
use mathlib.Core.Bool.{Bool, true, ◌&&◌}
use mathlib.Core.List.{List, []}
use Prim.Native.Nat.{ℕ, ◌≤◌, ◌<◌, ◌^◌}
use native.Mathlib.Omega.{arith}
use lib.ListN.{length}
use lib.Dec.{leb}
use borrow.Author.Tests.{le-leb, leb-true}
use Rattle.fields.specs.Lists.{bytes_at}
use Rattle.fields.specs.Name.{is_name}
use Rattle.numbers.specs.Canonical.{plain, capitals}
use Rattle.numbers.specs.Writing.{decimal, hex}
use Rattle.fields.specs.Buffer.{bytes}
use Rattle.fields.proofs.Lists.{never, both}
use Rattle.fields.proofs.Buffer.{form-is, formless-not}
use Rattle.numbers.proofs.Reading.{size_below, crc-below, hex-below}
use Rattle.numbers.proofs.Canonical.{hex-capitals}
use Rattle.numbers.proofs.RoundTrip.{read-size, read-crc, read-hex, decimal-plain, size_back, crc-back, hex-back}
use Rattle.lines.specs.declared.Frame.{Frame}
use Rattle.lines.specs.Frame.{no_mark, stop_frame, ends, body, text_of, frame_of}
use Rattle.lines.specs.Element.{Element, basic, extended, malformed_line, ok, ok_name, ok_kept, malformed_ok, no, stop, display, other, content_of, basic_bytes, line_bytes, ok_bytes, kept_bytes, no_bytes, basic_form, line_form, ok_name_form, ok_kept_form, no_form, form_of}
use Rattle.lines.specs.Canonical.{canonical_as, canonical}
use Rattle.lines.proofs.Fields.{framed}
use Rattle.lines.proofs.Reading.{basic-reads, basic-body, line_reads, line_plain, line-name, ok-reads, name-place, name-reads, kept-reads, kept-plain, kept-name, no_reads, no-ends, no_place, no_text, stop-reads, Seen, is_basic, is_extended, is_malformed_line, is_bare_ok, is_named, is_kept, is_malformed_ok, is_no, is_stop, is_display, is_other, seen}

-- ---- What is written

-- the element that bs is written for is within the limits, and bs its bytes
pub data Made (bs : List ℕ) : Element → Type 0 where
  from_basic : (n : ℕ) → n ≤ 99999999 → bs ≡ basic_bytes (decimal n) → Made bs (basic n)
  from_extended : (n k v : ℕ) (r : Bool) (name : List ℕ) → n ≤ 99999999 → k ≤ 65535 → v < 16 ^ 8 → is_name name ≡ true
      → bs ≡ line_bytes (decimal n) (decimal k) (hex 8 v) r name → Made bs (extended n k v r name)
  from_ok : bs ≡ ok_bytes [] → Made bs ok
  from_named : (name : List ℕ) → is_name name ≡ true → bs ≡ ok_bytes name → Made bs (ok_name name)
  from_kept : (name : List ℕ) (n k : ℕ) → is_name name ≡ true → n ≤ 99999999 → k ≤ 65535 → bs ≡ kept_bytes name (decimal n) (decimal k)
      → Made bs (ok_kept name n k)
  from_no : (text : List ℕ) → length text ≤ 80 → bs ≡ no_bytes text → Made bs (no text)
  from_stop : bs ≡ stop_frame → Made bs stop

pub made : (c : Element) (bs : List ℕ) → form_of c ≡ bytes bs → Made bs c
unfolding form_of basic_form line_form ok_name_form ok_kept_form no_form
made (basic n) bs h =
    let f = form-is (leb n 99999999) _ bs h in
    from_basic n (leb-true n 99999999 f.0) (sym f.1)
made (extended n k v r name) bs h =
    let f = form-is (is_name name && (leb n 99999999 && (leb k 65535 && leb v 0xFFFFFFFF))) _ bs h in
    let a = both (is_name name) _ f.0 in
    let b = both (leb n 99999999) _ a.1 in
    let c = both (leb k 65535) _ b.1 in
    let d = leb-true v 0xFFFFFFFF c.1 in
    from_extended n k v r name (leb-true n 99999999 b.0) (leb-true k 65535 c.0) (omega arith) a.0 (sym f.1)
made (malformed_line f) bs h = formless-not bs h
made ok bs h = let e : bs ≡ ok_bytes [] = cc in from_ok e
made (ok_name name) bs h = let f = form-is (is_name name) _ bs h in from_named name f.0 (sym f.1)
made (ok_kept name n k) bs h =
    let f = form-is (is_name name && (leb n 99999999 && leb k 65535)) _ bs h in
    let a = both (is_name name) _ f.0 in
    let b = both (leb n 99999999) _ a.1 in
    from_kept name n k a.0 (leb-true n 99999999 b.0) (leb-true k 65535 b.1) (sym f.1)
made (malformed_ok f) bs h = formless-not bs h
made (no text) bs h = let f = form-is (leb (length text) 80) _ bs h in from_no text (leb-true (length text) 80 f.0) (sym f.1)
made stop bs h = let e : bs ≡ stop_frame = cc in from_stop e
made (display text) bs h = formless-not bs h
made other bs h = formless-not bs h

-- THE LAW: what is written reads back
pub reads-back : (c : Element) (bs : List ℕ) → form_of c ≡ bytes bs → content_of bs (frame_of bs) ≡ c
unfolding content_of
reads-back c bs h = go c (made c bs h)
  where
    go : (c : Element) → Made bs c → content_of bs (frame_of bs) ≡ c
    go _ (from_basic n l e) = rw (e, basic-reads (decimal n) n (read-size n l))
    go _ (from_extended n k v r name l m w i e) =
        let a = read-size n l in
        let b = read-crc k m in
        let d = read-hex v w in
        rw (e, line_reads (decimal n) (decimal k) (hex 8 v) name n k v r a b d i)
        (ap (extended n k v r) (line-name (decimal n) (decimal k) (hex 8 v) name n k v r a b d i))
    go _ (from_ok e) = rw (e, ok-reads)
    go _ (from_named name i e) = rw (e, name-reads name i) (ap ok_name (name-place name))
    go _ (from_kept name n k i l m e) =
        let a = read-size n l in
        let b = read-crc k m in
        rw (e, kept-reads name (decimal n) (decimal k) n k i a b)
        (ap (λ (x : List ℕ). ok_kept x n k) (kept-name name (decimal n) (decimal k) n k i a b))
    go _ (from_no text l e) = rw (e, no_reads text) (ap no (no_text text))
    go _ (from_stop e) = rw (e, stop-reads)

-- what is written is in the form that we write
pub written-canonical : (c : Element) (bs : List ℕ) → form_of c ≡ bytes bs → canonical bs ≡ true
unfolding canonical
written-canonical c bs h = go c (made c bs h)
  where
    go : (c : Element) → Made bs c → canonical bs ≡ true
    go _ (from_basic n l e) =
        let a = read-size n l in
        rw (e, basic-reads (decimal n) n a, basic-body (decimal n) n a) (decimal-plain n (omega arith))
    go _ (from_extended n k v r name l m w i e) =
        let a = read-size n l in
        let b = read-crc k m in
        let d = read-hex v w in
        rw (e, line_reads (decimal n) (decimal k) (hex 8 v) name n k v r a b d i, line_plain (decimal n) (decimal k) (hex 8 v) name n k v r a b d i, decimal-plain n (omega arith), decimal-plain k (omega arith))
        (hex-capitals 8 v)
    go _ (from_ok e) = rw (e, ok-reads)
    go _ (from_named name i e) = rw (e, name-reads name i)
    go _ (from_kept name n k i l m e) =
        let a = read-size n l in
        let b = read-crc k m in
        rw (e, kept-reads name (decimal n) (decimal k) n k i a b, kept-plain name (decimal n) (decimal k) n k i a b, decimal-plain n (omega arith))
        (decimal-plain k (omega arith))
    go _ (from_no text l e) = rw (e, no_reads text, no-ends text, no_place text) (le-leb (length text) 80 l)
    go _ (from_stop e) = rw (e, stop-reads)

-- THE LAW: what is read from the form that we write is written back unchanged
pub writes-back : (b : List ℕ) → canonical b ≡ true → form_of (content_of b (frame_of b)) ≡ bytes b
unfolding canonical content_of form_of basic_form line_form ok_name_form ok_kept_form no_form no_bytes ok_bytes ends
writes-back b h = go (frame_of b) (seen b) h
  where
    go : (f : Frame) → Seen b f → canonical_as b f ≡ true → form_of (content_of b f) ≡ bytes b
    go _ (is_basic size n e a) p =
        let q : plain size ≡ true = rw (e, basic-body size n a) at p in
        rw (le-leb n 99999999 (size_below n size a), size_back n size a q) (ap bytes (sym e))
    go _ (is_extended size crc stamp name n k v r e a b d i) p =
        let q : plain size && (plain crc && capitals stamp) ≡ true = rw (e, line_plain size crc stamp name n k v r a b d i) at p in
        let s = both (plain size) _ q in
        let t = both (plain crc) _ s.1 in
        let w = hex-below v stamp d in
        rw (e, line-name size crc stamp name n k v r a b d i, i, le-leb n 99999999 (size_below n size a), le-leb k 65535 (crc-below k crc b), le-leb v 0xFFFFFFFF (omega arith), size_back n size a s.0, crc-back k crc b t.0, hex-back v stamp d t.1)
    go _ (is_malformed_line s) p = never p
    go _ (is_bare_ok e) p = ap bytes (sym e)
    go _ (is_named name e i) p = rw (e, name-place name, i)
    go _ (is_kept name digits crc n k e i a b) p =
        let q : plain digits && plain crc ≡ true = rw (e, kept-plain name digits crc n k i a b) at p in
        let s = both (plain digits) _ q in
        rw (e, kept-name name digits crc n k i a b, i, le-leb n 99999999 (size_below n digits a), le-leb k 65535 (crc-below k crc b), size_back n digits a s.0, crc-back k crc b s.1)
    go _ (is_malformed_ok s) p = never p
    go _ (is_no s) p =
        let q = both (ends b) _ p in
        let e : b ≡ no_bytes (body 4 b) = framed no_mark b refl s q.0 in
        let t = body 4 b in
        let x : bytes_at b (text_of b) ≡ t = ap (λ (y : List ℕ). bytes_at y (text_of y)) e ∙ no_text t in
        let l : leb (length t) 80 ≡ true = rw (e, no_place t) at q.1 in
        rw (x, l) (ap bytes (sym e))
    go _ (is_stop e) p = ap bytes (sym e)
    go _ (is_display s) p = never p
    go _ is_other p = never p
