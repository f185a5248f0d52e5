-- What is read keeps to the limits, what is written fits a frame, and no frame is two elements. Assumes nothing.
use mathlib.Core.Path.{◌≡◌, refl, sym, ap, ◌∙◌}
use mathlib.Core.Bool.{Bool, true, false}
use mathlib.Core.List.{List}
use Prim.Native.Nat.{ℕ, ◌+◌, ◌≤◌, ◌<◌, ◌^◌}
use native.Mathlib.Omega.{arith}
use lib.ListN.{length, get_or, take, length-append}
use lib.Seq.{get_or-take}
use lib.Dec.{eqb}
use borrow.Author.Tests.{eq-eqb, ne_eqb, eqb-true}
use Rattle.fields.specs.Pick.{pick}
use Rattle.fields.specs.Lists.{same}
use Rattle.fields.specs.Name.{is_name}
use Rattle.fields.specs.Buffer.{bytes}
use Rattle.fields.proofs.Lists.{same-eq, name-length}
use Rattle.numbers.proofs.Reading.{size_below, crc-below, hex-below}
use Rattle.numbers.proofs.numerals.Writing.{hex-length}
use Rattle.numbers.proofs.RoundTrip.{decimal-length}
use Rattle.lines.specs.declared.Frame.{Frame}
use Rattle.lines.specs.Frame.{line_mark, ok_mark, no_mark, stop_frame, display_mark, starts, frame_of}
use Rattle.lines.specs.Element.{Element, basic, extended, malformed_line, ok, ok_name, ok_kept, malformed_ok, no, stop, display, other, content_of, resume_mark, basic_bytes, line_bytes, ok_bytes, kept_bytes, no_bytes, form_of}
use Rattle.lines.proofs.Reading.{line-name, name-place, kept-name, Seen, is_basic, is_extended, is_malformed_line, is_bare_ok, is_named, is_kept, is_malformed_ok, is_no, is_stop, is_display, is_other, seen}
use Rattle.lines.proofs.RoundTrip.{Made, from_basic, from_extended, from_ok, from_named, from_kept, from_no, from_stop, made}

-- ---- What is read

-- sizes and counts of at most eight digits, a CRC of at most 65,535, a stamp of 32 bits, names within the limits of a name
abbrev pub Within : Element → Type 0
Within (basic size) = size ≤ 99999999
Within (extended size crc stamp resumable name) = (size ≤ 99999999) × (crc ≤ 65535) × (stamp < 2 ^ 32) × (is_name name ≡ true)
Within (malformed_line f) = Unit {0}
Within ok = Unit {0}
Within (ok_name name) = is_name name ≡ true
Within (ok_kept name kept crc) = (is_name name ≡ true) × (kept ≤ 99999999) × (crc ≤ 65535)
Within (malformed_ok f) = Unit {0}
Within (no text) = Unit {0}
Within stop = Unit {0}
Within (display text) = Unit {0}
Within other = Unit {0}

-- THE LAW: what is read keeps to the limits
pub limits : (b : List ℕ) → Within (content_of b (frame_of b))
unfolding content_of
limits b = go (frame_of b) (seen b)
  where
    go : (f : Frame) → Seen b f → Within (content_of b f)
    go _ (is_basic size n e a) = size_below n size a
    go _ (is_extended size crc stamp name n k v r e a c d i) =
        let w = hex-below v stamp d in
        (size_below n size a, crc-below k crc c, omega arith, rw (e, line-name size crc stamp name n k v r a c d i) i)
    go _ (is_malformed_line s) = tt
    go _ (is_bare_ok e) = tt
    go _ (is_named name e i) = rw (e, name-place name) i
    go _ (is_kept name digits crc n k e i a c) = (rw (e, kept-name name digits crc n k i a c) i, size_below n digits a, crc-below k crc c)
    go _ (is_malformed_ok s) = tt
    go _ (is_no s) = tt
    go _ (is_stop e) = tt
    go _ (is_display s) = tt
    go _ is_other = tt

-- ---- What is written

pub mark-short : (r : Bool) → length (resume_mark r) ≤ 1
mark-short true = omega arith
mark-short false = omega arith

-- THE LAW: what is written is a frame of 1 to 256 bytes
pub lengths : (c : Element) (bs : List ℕ) → form_of c ≡ bytes bs → (1 ≤ length bs) × (length bs ≤ 256)
unfolding basic_bytes line_bytes ok_bytes kept_bytes no_bytes
lengths c bs h = go c (made c bs h)
  where
    go : (c : Element) → Made bs c → (1 ≤ length bs) × (length bs ≤ 256)
    go _ (from_basic n l e) =
        let d = decimal-length 7 n (omega arith) (omega arith) in
        rw e (omega arith, simp length-append (omega arith))
    go _ (from_extended n k v r name l m w i e) =
        let d = decimal-length 7 n (omega arith) (omega arith) in
        let c = decimal-length 4 k (omega arith) (omega arith) in
        let s = name-length name i in
        rw e (omega arith, simp length-append (omega (arith, hex-length 8 v, mark-short r)))
    go _ (from_ok e) = rw e (omega arith, omega arith)
    go _ (from_named name i e) = let s = name-length name i in rw e (omega arith, simp length-append (omega arith))
    go _ (from_kept name n k i l m e) =
        let d = decimal-length 7 n (omega arith) (omega arith) in
        let c = decimal-length 4 k (omega arith) (omega arith) in
        let s = name-length name i in
        rw e (omega arith, simp length-append (omega arith))
    go _ (from_no text l e) = rw e (omega arith, simp length-append (omega arith))
    go _ (from_stop e) = rw e (omega arith, omega arith)

-- ---- Apart

abbrev pub one : Bool → ℕ
one t = pick t 1 0

-- the second byte tells them apart
second : (m b : List ℕ) → 1 < length m → starts m b ≡ true → get_or b 1 0 ≡ get_or m 1 0
unfolding starts
second m b l h = sym (ap (λ (s : List ℕ). get_or s 1 0) (same-eq m (take (length m) b) h) ∙ get_or-take (length m) b 1 0 l)

at-most : (x v : ℕ) (t : Bool) → (t ≡ true → x ≡ v) → one t ≤ one (eqb x v)
at-most x v true h = rw (eq-eqb x v (h refl)) (omega arith)
at-most x v false h = omega arith

distinct : (x : ℕ) → one (eqb x 66) + (one (eqb x 79) + (one (eqb x 78) + (one (eqb x 35) + one (eqb x 80)))) ≤ 1
distinct x = go (eqb x 66) refl (eqb x 79) refl (eqb x 78) refl (eqb x 35) refl (eqb x 80) refl
  where
    not-two : (v w : ℕ) → eqb x v ≡ true → (v ≡ w → ⊥) → eqb x w ≡ false
    not-two v w e n = ne_eqb x w (λ q. n (sym (eqb-true x v e) ∙ q))

    last : (t : Bool) → one t ≤ 1
    last true = omega arith
    last false = omega arith

    go : (a : Bool) → eqb x 66 ≡ a → (b : Bool) → eqb x 79 ≡ b → (c : Bool) → eqb x 78 ≡ c → (d : Bool) → eqb x 35 ≡ d → (f : Bool) → eqb x 80 ≡ f
        → one (eqb x 66) + (one (eqb x 79) + (one (eqb x 78) + (one (eqb x 35) + one (eqb x 80)))) ≤ 1
    go true p b q c r d s f t =
        rw (not-two 66 79 p (λ e. omega arith), not-two 66 78 p (λ e. omega arith), not-two 66 35 p (λ e. omega arith), not-two 66 80 p (λ e. omega arith), p) (omega arith)
    go false p true q c r d s f t =
        rw (p, not-two 79 78 q (λ e. omega arith), not-two 79 35 q (λ e. omega arith), not-two 79 80 q (λ e. omega arith), q) (omega arith)
    go false p false q true r d s f t = rw (p, q, not-two 78 35 r (λ e. omega arith), not-two 78 80 r (λ e. omega arith), r) (omega arith)
    go false p false q false r true s f t = rw (p, q, r, not-two 35 80 s (λ e. omega arith), s) (omega arith)
    go false p false q false r false s f t = rw (p, q, r, s) (omega (arith, last (eqb x 80)))

-- THE LAW: at most one holds of a frame: it starts `#BIN#`, starts `#OK#`, starts `#NO#`, is the stop frame, starts `SP\-`
pub apart : (b : List ℕ)
    → one (starts line_mark b) + (one (starts ok_mark b) + (one (starts no_mark b) + (one (same stop_frame b) + one (starts display_mark b)))) ≤ 1
apart b =
    let x = get_or b 1 0 in
    let p = at-most x 66 (starts line_mark b) (λ h. second line_mark b (omega arith) h) in
    let q = at-most x 79 (starts ok_mark b) (λ h. second ok_mark b (omega arith) h) in
    let r = at-most x 78 (starts no_mark b) (λ h. second no_mark b (omega arith) h) in
    let s = at-most x 35 (same stop_frame b) (λ h. sym (ap (λ (l : List ℕ). get_or l 1 0) (same-eq stop_frame b h))) in
    let t = at-most x 80 (starts display_mark b) (λ h. second display_mark b (omega arith) h) in
    omega (arith, p, q, r, s, t, distinct x)
