-- What the bytes of each element read as, and that every frame which reads as an element has its bytes. Assumes nothing.
use Rattle.std.specs.Prelude.{None, Option, Some, ℕ}
use mathlib.Core.Path.{◌≡◌, refl, sym, ap, ◌∙◌}
use mathlib.Core.Bool.{Bool, true, false, ◌&&◌}
use mathlib.Core.List.{List, [], ◌∷◌, ◌++◌, append-nil, append_assoc}
use mathlib.Core.Logic.{inl}
use Prim.Native.Nat.{ℕ, ◌-◌, ◌≤◌}
use native.Mathlib.Omega.{arith}
use lib.ListN.{length, drop, length-append}
use lib.Seq.{take-append_seam}
use lib.Dec.{eqb}
use borrow.Author.Tests.{ne_eqb, eqb-true}
use Rattle.fields.specs.Lists.{bytes_at, up_to, same}
use Rattle.fields.specs.Name.{is_name_byte, is_name}
use Rattle.numbers.specs.Reading.{radix, hex_digit, read_size, read_crc, read_hex}
use Rattle.fields.proofs.Lists.{either, same-eq, free_snoc, cut-before, name-length, name_free}
use Rattle.numbers.proofs.Reading.{value-without, decimal-without, crc-form, hex-form}
use Rattle.faults.specs.Faults.{line_fault, ok_fault}
use Rattle.lines.specs.declared.Frame.{Frame}
use Rattle.lines.specs.declared.Frame.TheVariants.{Basic, Extended, MalformedLine, OK, OKName, OKKept, MalformedOK, NO, Stop, Display, Other}
use Rattle.lines.specs.Frame.{line_mark, ok_mark, no_mark, stop_frame, display_mark, starts, ends, body, has_hash, behind, marked, line_name, has_resume, stamp_digits, stamp_by, line_stamp, crc_by, line_crc, size_by, basic_by, line_read, line_of, ok_crc_by, ok_kept_by, ok_kept, ok_name, ok_read, ok_of, line_by, ok_by, line_frame, ok_frame, text_of, shown_of, frame_of}
use Rattle.numbers.specs.Canonical.{plain, capitals}
use Rattle.lines.specs.Canonical.{plain_line, plain_kept}
use Rattle.lines.specs.Element.{resume_mark, basic_bytes, line_bytes, ok_bytes, kept_bytes, no_bytes}
use Rattle.lines.proofs.Fields.{ends-back, body_back, framed, last-place, hash-yes, behind-cut, marked-cut, hash-no, hash-split, marked-split, resume-back, digits-back, field-split}

-- ---- What each mark leads to

module _ (s : List ℕ) where
  line_first : frame_of (line_mark ++ s) ≡ line_frame (line_mark ++ s)
  unfolding frame_of starts same
  line_first = refl

  ok-first : frame_of (ok_mark ++ s) ≡ ok_frame (ok_mark ++ s)
  unfolding frame_of starts same
  ok-first = refl

  no-first : frame_of (no_mark ++ s) ≡ NO (text_of (no_mark ++ s))
  unfolding frame_of starts same
  no-first = refl

-- between a mark and the final `\r`
line-between : (t : List ℕ)
    → frame_of (line_mark ++ (t ++ (13 ∷ [])))
    ≡ line_by (line_mark ++ (t ++ (13 ∷ []))) (line_read (length (line_mark ++ (t ++ (13 ∷ []))) - 1) t)
unfolding line_of
line-between t = line_first (t ++ (13 ∷ [])) ∙ rw (ends-back (line_mark ++ t), body_back line_mark t 5 refl)

ok-between : (t : List ℕ) → frame_of (ok_mark ++ (t ++ (13 ∷ []))) ≡ ok_by (ok_mark ++ (t ++ (13 ∷ []))) (ok_read t)
unfolding ok_of
ok-between t = ok-first (t ++ (13 ∷ [])) ∙ rw (ends-back (ok_mark ++ t), body_back ok_mark t 4 refl)

-- ---- Numbers and names have no `#`

size-free : (s : List ℕ) (n : ℕ) → read_size s ≡ Some n → up_to 35 s ≡ s
size-free s n h = decimal-without 8 35 n s (inl (omega arith)) h

crc-free : (s : List ℕ) (k : ℕ) → read_crc s ≡ Some k → up_to 35 s ≡ s
crc-free s k h = decimal-without 5 35 k s (inl (omega arith)) (crc-form k s h).1

stamp-free : (s : List ℕ) (v : ℕ) (r : Bool) → read_hex s ≡ Some v → up_to 35 (s ++ resume_mark r) ≡ s ++ resume_mark r
unfolding radix hex_digit
stamp-free s v r h = go r
  where
    free : up_to 35 s ≡ s
    free = let g : 16 ≤ 16 = omega arith in value-without _ 35 0 v s g (hex-form v s h).1

    go : (r : Bool) → up_to 35 (s ++ resume_mark r) ≡ s ++ resume_mark r
    go true = free_snoc 35 63 s free (λ e. omega arith)
    go false = rw (append-nil s) free

hash-free-name : (s : List ℕ) → is_name s ≡ true → up_to 35 s ≡ s
unfolding is_name_byte
hash-free-name s h = name_free 35 s refl h

-- ---- A basic line

module _ (size : List ℕ) (n : ℕ) (hs : read_size size ≡ Some n) where
  pub basic-reads : frame_of (basic_bytes size) ≡ Basic n
  unfolding basic_bytes line_read
  basic-reads = line-between size ∙ rw (hash-no size (size-free size n hs), hs)

  pub basic-body : body 5 (basic_bytes size) ≡ size
  unfolding basic_bytes
  basic-body = body_back line_mark size 5 refl

-- ---- An extended line

-- what stands between its marks; the field of the stamp may end with `?`
abbrev pub line_fields : List ℕ → List ℕ → List ℕ → List ℕ → List ℕ
line_fields size crc field name = size ++ (35 ∷ (124 ∷ (crc ++ (35 ∷ (36 ∷ (field ++ (35 ∷ name)))))))

pub line-is : (size crc stamp : List ℕ) (r : Bool) (name : List ℕ)
    → line_bytes size crc stamp r name ≡ line_mark ++ (line_fields size crc (stamp ++ resume_mark r) name ++ (13 ∷ []))
unfolding line_bytes
line-is size crc stamp r name = simp append_assoc

module _ (size crc stamp name : List ℕ) (n k v : ℕ) (r : Bool) (hs : read_size size ≡ Some n) (hc : read_crc crc ≡ Some k)
    (hv : read_hex stamp ≡ Some v) (hn : is_name name ≡ true) where
  field : List ℕ
  field = stamp ++ resume_mark r

  eight : length stamp ≡ 8
  eight = (hex-form v stamp hv).0

  stamp-reads : (end : ℕ) → line_stamp end n k (36 ∷ (field ++ (35 ∷ name))) ≡ line_name end n k v r name
  unfolding line_stamp field
  stamp-reads end =
      let f = stamp-free stamp v r hv in
      rw (marked-cut (stamp ++ resume_mark r) name f 36, cut-before 35 (stamp ++ resume_mark r) name f, behind-cut (stamp ++ resume_mark r) name f, digits-back stamp eight r, resume-back stamp eight r, hv)

  crc-reads : (end : ℕ) → line_crc end n (124 ∷ (crc ++ (35 ∷ (36 ∷ (field ++ (35 ∷ name)))))) ≡ line_name end n k v r name
  unfolding line_crc
  crc-reads end =
      let f = crc-free crc k hc in
      let x : List ℕ = 36 ∷ (field ++ (35 ∷ name)) in
      rw (marked-cut crc x f 124, cut-before 35 crc x f, behind-cut crc x f, hc) (stamp-reads end)

  size-reads : (end : ℕ) → line_read end (line_fields size crc field name) ≡ line_name end n k v r name
  unfolding line_read
  size-reads end =
      let f = size-free size n hs in
      let x : List ℕ = 124 ∷ (crc ++ (35 ∷ (36 ∷ (field ++ (35 ∷ name))))) in
      rw (hash-yes size x f, cut-before 35 size x f, behind-cut size x f, hs) (crc-reads end)

  pub line_reads : frame_of (line_bytes size crc stamp r name) ≡ Extended (record {
    size = n;
    crc = k;
    stamp = v;
    resumable = r;
    name = record { start = length (line_bytes size crc stamp r name) - 1 - length name; len = length name };
  })
  unfolding line_name field
  line_reads = rw (line-is size crc stamp r name) (line-between (line_fields size crc field name) ∙ ap (line_by _) (size-reads _) ∙ rw hn)

  pub line-body : body 5 (line_bytes size crc stamp r name) ≡ line_fields size crc (stamp ++ resume_mark r) name
  line-body = rw (line-is size crc stamp r name) (body_back line_mark (line_fields size crc (stamp ++ resume_mark r) name) 5 refl)

  pub line_plain : plain_line (body 5 (line_bytes size crc stamp r name)) ≡ plain size && (plain crc && capitals stamp)
  unfolding plain_line
  line_plain =
      let f = size-free size n hs in
      let g = crc-free crc k hc in
      let h = stamp-free stamp v r hv in
      let z : List ℕ = 36 ∷ ((stamp ++ resume_mark r) ++ (35 ∷ name)) in
      let x : List ℕ = 124 ∷ (crc ++ (35 ∷ z)) in
      rw (line-body, cut-before 35 size x f, behind-cut size x f, cut-before 35 crc z g, behind-cut crc z g, cut-before 35 (stamp ++ resume_mark r) name h, digits-back stamp eight r)

  pub line-name : bytes_at (line_bytes size crc stamp r name) (record { start = length (line_bytes size crc stamp r name) - 1 - length name; len = length name }) ≡ name
  unfolding line_bytes
  line-name =
      let p = line_mark ++ (size ++ (35 ∷ 124 ∷ (crc ++ (35 ∷ 36 ∷ (stamp ++ (resume_mark r ++ (35 ∷ []))))))) in
      let e : p ++ (name ++ (13 ∷ [])) ≡ line_bytes size crc stamp r name = simp append_assoc in
      last-place (line_bytes size crc stamp r name) p name (sym e)

-- ---- OKs

pub ok-reads : frame_of (ok_bytes []) ≡ OK
unfolding ok_bytes ok_read ok_name has_hash up_to
ok-reads = ok-between [] ∙ refl

module _ (name : List ℕ) where
  pub ok-place : (s : List ℕ) → bytes_at (ok_mark ++ (name ++ s)) (record { start = 4; len = length name }) ≡ name
  ok-place s = take-append_seam name s

  pub name-place : bytes_at (ok_bytes name) (record { start = 4; len = length name }) ≡ name
  unfolding ok_bytes
  name-place = ok-place (13 ∷ [])

  pub name-reads : is_name name ≡ true → frame_of (ok_bytes name) ≡ OKName (record { start = 4; len = length name })
  unfolding ok_bytes ok_read ok_name
  name-reads hn =
      let some : length name ≡ 0 → ⊥ = λ e. omega (arith, name-length name hn) in
      ok-between name ∙ rw (hash-no name (hash-free-name name hn), ne_eqb (length name) 0 some, hn)

module _ (name kept crc : List ℕ) where
  -- what stands between the marks
  abbrev pub kept_fields : List ℕ
  kept_fields = name ++ (35 ∷ (36 ∷ (kept ++ (35 ∷ crc))))

  pub kept-is : kept_bytes name kept crc ≡ ok_mark ++ (kept_fields ++ (13 ∷ []))
  unfolding kept_bytes
  kept-is = simp append_assoc

  pub kept-body : body 4 (kept_bytes name kept crc) ≡ kept_fields
  kept-body = rw kept-is (body_back ok_mark kept_fields 4 refl)

  module _ (n k : ℕ) (hn : is_name name ≡ true) (hs : read_size kept ≡ Some n) (hc : read_crc crc ≡ Some k) where
    pub kept-reads : frame_of (kept_bytes name kept crc) ≡ OKKept (record { name = record { start = 4; len = length name }; kept = n; crc = k })
    unfolding ok_read ok_kept
    kept-reads =
        let f = hash-free-name name hn in
        let g = size-free kept n hs in
        let x : List ℕ = 36 ∷ (kept ++ (35 ∷ crc)) in
        rw kept-is
        (ok-between kept_fields
        ∙ rw (hash-yes name x f, cut-before 35 name x f, behind-cut name x f, hn, marked-cut kept crc g 36, cut-before 35 kept crc g, behind-cut kept crc g, hs, hc))

    pub kept-plain : plain_kept (body 4 (kept_bytes name kept crc)) ≡ plain kept && plain crc
    unfolding plain_kept
    kept-plain =
        let f = hash-free-name name hn in
        let g = size-free kept n hs in
        let x : List ℕ = 36 ∷ (kept ++ (35 ∷ crc)) in
        rw (kept-body, behind-cut name x f, cut-before 35 kept crc g, behind-cut kept crc g)

    pub kept-name : bytes_at (kept_bytes name kept crc) (record { start = 4; len = length name }) ≡ name
    unfolding kept_bytes
    kept-name = ok-place name (35 ∷ 36 ∷ (kept ++ (35 ∷ (crc ++ (13 ∷ [])))))

-- ---- NO and the stop frame

module _ (text : List ℕ) where
  pub no_reads : frame_of (no_bytes text) ≡ NO (text_of (no_bytes text))
  unfolding no_bytes
  no_reads = no-first (text ++ (13 ∷ []))

  pub no-ends : ends (no_bytes text) ≡ true
  unfolding no_bytes
  no-ends = ends-back (no_mark ++ text)

  pub no_place : text_of (no_bytes text) ≡ record { start = 4; len = length text }
  unfolding no_bytes text_of
  no_place =
      let n : length (no_mark ++ (text ++ (13 ∷ []))) - 5 ≡ length text = simp length-append (omega arith) in
      rw (no-ends, n)

  pub no_text : bytes_at (no_bytes text) (text_of (no_bytes text)) ≡ text
  unfolding no_bytes
  no_text = rw no_place (take-append_seam text (13 ∷ []))

pub stop-reads : frame_of stop_frame ≡ Stop
unfolding frame_of starts same
stop-reads = refl

-- ---- Every frame

-- what is known of the frame b that reads as what follows
pub data Seen (b : List ℕ) : Frame → Type 0 where
  is_basic : (size : List ℕ) (n : ℕ) → b ≡ basic_bytes size → read_size size ≡ Some n → Seen b (Basic n)
  is_extended : (size crc stamp name : List ℕ) (n k v : ℕ) (r : Bool) → b ≡ line_bytes size crc stamp r name
      → read_size size ≡ Some n → read_crc crc ≡ Some k → read_hex stamp ≡ Some v → is_name name ≡ true
      → Seen b (Extended (record { size = n; crc = k; stamp = v; resumable = r; name = record { start = length b - 1 - length name; len = length name } }))
  is_malformed_line : starts line_mark b ≡ true → Seen b (MalformedLine (line_fault b))
  is_bare_ok : b ≡ ok_bytes [] → Seen b OK
  is_named : (name : List ℕ) → b ≡ ok_bytes name → is_name name ≡ true → Seen b (OKName (record { start = 4; len = length name }))
  is_kept : (name digits crc : List ℕ) (n k : ℕ) → b ≡ kept_bytes name digits crc → is_name name ≡ true → read_size digits ≡ Some n → read_crc crc ≡ Some k
      → Seen b (OKKept (record { name = record { start = 4; len = length name }; kept = n; crc = k }))
  is_malformed_ok : starts ok_mark b ≡ true → Seen b (MalformedOK (ok_fault b))
  is_no : starts no_mark b ≡ true → Seen b (NO (text_of b))
  is_stop : b ≡ stop_frame → Seen b Stop
  is_display : starts display_mark b ≡ true → Seen b (Display (shown_of b))
  is_other : Seen b Other

line-whole : (size crc field name : List ℕ)
    → line_mark ++ (line_fields size crc field name ++ (13 ∷ [])) ≡ line_bytes size crc (stamp_digits field) (has_resume field) name
line-whole size crc field name =
    ap (λ (f : List ℕ). line_mark ++ (line_fields size crc f name ++ (13 ∷ []))) (field-split field)
    ∙ sym (line-is size crc (stamp_digits field) (has_resume field) name)

-- what is known where something well-formed stands behind the mark
abbrev ReadAs : List ℕ → Option Frame → Type 0
ReadAs b (Some f) = Seen b f
ReadAs b None = Unit {0}

module _ (b : List ℕ) where
  name-seen : (size crc field t : List ℕ) (n k v : ℕ) → b ≡ line_mark ++ (line_fields size crc field t ++ (13 ∷ []))
      → read_size size ≡ Some n → read_crc crc ≡ Some k → read_hex (stamp_digits field) ≡ Some v
      → ReadAs b (line_name (length b - 1) n k v (has_resume field) t)
  unfolding line_name
  name-seen size crc field t n k v e hs hc hv =
      either (ReadAs b) (is_name t) _ _
      (λ h. is_extended size crc (stamp_digits field) t n k v (has_resume field) (e ∙ line-whole size crc field t) hs hc hv h)
      (λ h. tt)

  stamp-seen : (size crc t : List ℕ) (n k : ℕ) → b ≡ line_mark ++ ((size ++ (35 ∷ (124 ∷ (crc ++ (35 ∷ t))))) ++ (13 ∷ []))
      → read_size size ≡ Some n → read_crc crc ≡ Some k → ReadAs b (line_stamp (length b - 1) n k t)
  unfolding line_stamp
  stamp-seen size crc t n k e hs hc =
      either (ReadAs b) (marked 36 t) _ _ (λ h. go (read_hex (stamp_digits (up_to 35 (drop 1 t)))) refl h) (λ h. tt)
    where
      go : (x : Option ℕ) → read_hex (stamp_digits (up_to 35 (drop 1 t))) ≡ x → marked 36 t ≡ true
          → ReadAs b (stamp_by (length b - 1) n k x (has_resume (up_to 35 (drop 1 t))) (behind (drop 1 t)))
      go (Some v) q h =
          name-seen size crc (up_to 35 (drop 1 t)) (behind (drop 1 t)) n k v
          (e ∙ ap (λ (u : List ℕ). line_mark ++ ((size ++ (35 ∷ (124 ∷ (crc ++ (35 ∷ u))))) ++ (13 ∷ []))) (marked-split 36 t h)) hs hc q
      go None q h = tt

  crc-seen : (size t : List ℕ) (n : ℕ) → b ≡ line_mark ++ ((size ++ (35 ∷ t)) ++ (13 ∷ [])) → read_size size ≡ Some n → ReadAs b (line_crc (length b - 1) n t)
  unfolding line_crc
  crc-seen size t n e hs =
      either (ReadAs b) (marked 124 t) _ _ (λ h. go (read_crc (up_to 35 (drop 1 t))) refl h) (λ h. tt)
    where
      go : (x : Option ℕ) → read_crc (up_to 35 (drop 1 t)) ≡ x → marked 124 t ≡ true → ReadAs b (crc_by (length b - 1) n x (behind (drop 1 t)))
      go (Some k) q h =
          stamp-seen size (up_to 35 (drop 1 t)) (behind (drop 1 t)) n k
          (e ∙ ap (λ (u : List ℕ). line_mark ++ ((size ++ (35 ∷ u)) ++ (13 ∷ []))) (marked-split 124 t h)) hs q
      go None q h = tt

  line-seen : (t : List ℕ) → b ≡ line_mark ++ (t ++ (13 ∷ [])) → ReadAs b (line_read (length b - 1) t)
  unfolding line_read basic_bytes
  line-seen t e = either (ReadAs b) (has_hash t) _ _ (λ h. long (read_size (up_to 35 t)) refl h) (λ h. short (read_size t) refl)
    where
      long : (x : Option ℕ) → read_size (up_to 35 t) ≡ x → has_hash t ≡ true → ReadAs b (size_by (length b - 1) x (behind t))
      long (Some n) q h =
          crc-seen (up_to 35 t) (behind t) n (e ∙ ap (λ (u : List ℕ). line_mark ++ (u ++ (13 ∷ []))) (hash-split t h)) q
      long None q h = tt

      short : (x : Option ℕ) → read_size t ≡ x → ReadAs b (basic_by x)
      short (Some n) q = is_basic t n e q
      short None q = tt

  kept_seen : (name t : List ℕ) → b ≡ ok_mark ++ ((name ++ (35 ∷ t)) ++ (13 ∷ [])) → is_name name ≡ true → ReadAs b (ok_kept (length name) t)
  unfolding ok_kept
  kept_seen name t e hn =
      either (ReadAs b) (marked 36 t) _ _ (λ h. go (read_size (up_to 35 (drop 1 t))) refl h) (λ h. tt)
    where
      last : (n : ℕ) → read_size (up_to 35 (drop 1 t)) ≡ Some n → marked 36 t ≡ true → (y : Option ℕ) → read_crc (behind (drop 1 t)) ≡ y → ReadAs b (ok_crc_by (length name) n y)
      last n q h (Some k) p =
          is_kept name (up_to 35 (drop 1 t)) (behind (drop 1 t)) n k
          (e ∙ ap (λ (u : List ℕ). ok_mark ++ ((name ++ (35 ∷ u)) ++ (13 ∷ []))) (marked-split 36 t h) ∙ sym (kept-is name (up_to 35 (drop 1 t)) (behind (drop 1 t)))) hn q p
      last n q h None p = tt

      go : (x : Option ℕ) → read_size (up_to 35 (drop 1 t)) ≡ x → marked 36 t ≡ true → ReadAs b (ok_kept_by (length name) x (behind (drop 1 t)))
      go (Some n) q h = last n q h (read_crc (behind (drop 1 t))) refl
      go None q h = tt

  none_is : (t : List ℕ) → length t ≡ 0 → t ≡ []
  none_is [] h = refl
  none_is (c ∷ t) h = absurd (omega arith)

  ok-seen : (t : List ℕ) → b ≡ ok_mark ++ (t ++ (13 ∷ [])) → ReadAs b (ok_read t)
  unfolding ok_read ok_name ok_bytes
  ok-seen t e =
      either (ReadAs b) (has_hash t) _ _
      (λ h. either (ReadAs b) (is_name (up_to 35 t)) _ _
      (λ i. kept_seen (up_to 35 t) (behind t) (e ∙ ap (λ (u : List ℕ). ok_mark ++ (u ++ (13 ∷ []))) (hash-split t h)) i)
      (λ i. tt))
      (λ h. either (ReadAs b) (eqb (length t) 0) _ _
      (λ z. is_bare_ok (e ∙ ap (λ (u : List ℕ). ok_mark ++ (u ++ (13 ∷ []))) (none_is t (eqb-true (length t) 0 z))))
      (λ z. either (ReadAs b) (is_name t) _ _ (λ i. is_named t e i) (λ i. tt)))

  line-by : starts line_mark b ≡ true → (x : Option Frame) → ReadAs b x → Seen b (line_by b x)
  line-by m (Some f) s = s
  line-by m None s = is_malformed_line m

  ok-by : starts ok_mark b ≡ true → (x : Option Frame) → ReadAs b x → Seen b (ok_by b x)
  ok-by m (Some f) s = s
  ok-by m None s = is_malformed_ok m

  pub seen : Seen b (frame_of b)
  unfolding frame_of line_of ok_of ends
  seen =
      either (Seen b) (starts line_mark b) _ _
      (λ h. line-by h (line_of b) (either (ReadAs b) (ends b) _ _ (λ e. line-seen (body 5 b) (framed line_mark b refl h e)) (λ e. tt)))
      (λ h1. either (Seen b) (starts ok_mark b) _ _
      (λ h. ok-by h (ok_of b) (either (ReadAs b) (ends b) _ _ (λ e. ok-seen (body 4 b) (framed ok_mark b refl h e)) (λ e. tt)))
      (λ h2. either (Seen b) (starts no_mark b) _ _
      (λ h. is_no h)
      (λ h3. either (Seen b) (same stop_frame b) _ _
      (λ h. is_stop (sym (same-eq stop_frame b h)))
      (λ h4. either (Seen b) (starts display_mark b) _ _ (λ h. is_display h) (λ h5. is_other)))))
