-- A frame that starts as a line or as an OK is one exactly where no fault is found in it. Assumes nothing.
use Rattle.fields.specs.declared.Fault.{Fault}
use Rattle.std.specs.Prelude.{Some, None, Option}
use mathlib.Core.Path.{◌≡◌, refl, sym, ap, ◌∙◌}
use mathlib.Core.Bool.{Bool, true, false}
use mathlib.Core.List.{List, [], ◌∷◌, ◌++◌}
use mathlib.Core.Logic.{⊎_elim}
use Prim.Native.Nat.{ℕ, ◌≤◌}
use native.Mathlib.Omega.{arith}
use lib.ListN.{length, drop}
use Rattle.fields.specs.Lists.{all}
use Rattle.fields.specs.Name.{is_name_byte, is_name}
use Rattle.fields.specs.declared.Flaw.TheVariants.{SizeOpen, Other}
use Rattle.fields.proofs.Lists.{never}
use Rattle.numbers.specs.Reading.{read_size, read_crc}
use Rattle.faults.specs.declared.Stage.TheVariants.{LineSize, LineBar, LineCrc, LineDollar, LineStamp, LineMark, LineName, OkName, OkDollar, OkKept, OkCrc, End}
use Rattle.faults.specs.Faults.{is_hex, step_of, end_of, check_line, check_ok, is_sound}
use Rattle.faults.proofs.Values.{name-is, digits-size, digits-stamp}
use Rattle.faults.proofs.Sound.{SoundFrom, moved, forward, First, first, end-sound, last, Field}
use Rattle.faults.proofs.Fields.{line-name-sound, line-name-field, ok_end, ok-name-sound, ok-hash-sound, ok-name-field, line-size-sound, line-size-field, kept-sound, kept_field, StampOut, stamp-sound, stamp-field, crc-right, crc-field}
use Rattle.lines.specs.declared.Frame.{Frame}
use Rattle.lines.specs.Frame.{line_mark, ok_mark, starts, frame_of}
use Rattle.lines.specs.Element.{resume_mark, basic_bytes, line_bytes, ok_bytes, kept_bytes}
use Rattle.lines.specs.WellFormed.{is_line, is_ok}
use Rattle.lines.proofs.Fields.{starts_is}
use Rattle.lines.proofs.Reading.{basic-reads, line_reads, ok-reads, name-reads, kept-reads, Seen, is_basic, is_extended, is_malformed_line, is_bare_ok, is_named, is_kept, is_malformed_ok, is_no, is_stop, is_display, is_other, seen}

-- ---- What is read is sound

module _ (b : List ℕ) where
  read-sound : (f : Frame) → Seen b f → (is_line f ≡ true → check_line b ≡ None) × (is_ok f ≡ true → check_ok b ≡ None)
  unfolding check_line check_ok basic_bytes line_bytes ok_bytes kept_bytes step_of end_of
  read-sound _ (is_basic size n e hs) =
      (λ _. rw e (moved (LineSize 0) (size ++ (13 ∷ [])) 0 5 (line-size-sound 13 End size [] n refl refl hs end-sound)), λ h. never h)
  read-sound _ (is_extended size crc stamp name n k v r e hs hc hv hn) =
      let s = stamp-sound r stamp _ v hv (line-name-sound name hn) in
      let c = crc-right LineCrc 35 LineDollar (λ k v c. refl) (λ k v. refl) refl crc _ k hc (forward LineDollar (LineStamp 0) 36 _ refl s) in (
        λ _. rw e (moved (LineSize 0) _ 0 5 (line-size-sound 35 LineBar size _ n refl refl hs (forward LineBar (LineCrc 0 0) 124 _ refl c))),
        λ h. never h,
      )
  read-sound _ (is_malformed_line s) = (λ h. never h, λ h. never h)
  read-sound _ (is_bare_ok e) = (λ h. never h, λ _. rw e (moved (OkName 0) (13 ∷ []) 0 4 (ok_end 0)))
  read-sound _ (is_named name e hn) = (λ h. never h, λ _. rw e (moved (OkName 0) (name ++ (13 ∷ [])) 0 4 (ok-name-sound name hn)))
  read-sound _ (is_kept name digits crc n k e hn hs hc) =
      let c = kept-sound digits _ n hs (crc-right OkCrc 13 End (λ k v c. refl) (λ k v. refl) refl crc [] k hc end-sound) in
      (λ h. never h, λ _. rw e (moved (OkName 0) _ 0 4 (ok-hash-sound name hn _ (forward OkDollar (OkKept 0) 36 _ refl c))))
  read-sound _ (is_malformed_ok s) = (λ h. never h, λ h. never h)
  read-sound _ (is_no s) = (λ h. never h, λ h. never h)
  read-sound _ (is_stop e) = (λ h. never h, λ h. never h)
  read-sound _ (is_display s) = (λ h. never h, λ h. never h)
  read-sound _ is_other = (λ h. never h, λ h. never h)

-- ---- What is sound is read, field by field

-- a field and what stands behind it, each told
put : {s r t : List ℕ} (n : List ℕ) → s ≡ n ++ r → r ≡ t → s ≡ n ++ t
put n e g = e ∙ ap (λ (l : List ℕ). n ++ l) g

module _ (size : List ℕ) (n : ℕ) (hs : read_size size ≡ Some n) where
  -- from the stamp on
  stamp-read : (crc : List ℕ) (k : ℕ) → read_crc crc ≡ Some k → (s : List ℕ) → SoundFrom (LineStamp 0) s
      → is_line (frame_of (line_mark ++ (size ++ (35 ∷ 124 ∷ (crc ++ (35 ∷ 36 ∷ s)))))) ≡ true
  unfolding step_of end_of line_bytes
  stamp-read crc k hc s h =
      let f = stamp-field s h in
      ⊎_elim
      (λ (x : First 63 LineMark f.rest).
      let m = first LineMark (LineName 0) 35 Other (λ c. refl) refl x.rest x.on in
      go f m.rest true (x.is ∙ ap (λ (l : List ℕ). 63 ∷ l) m.is) m.on)
      (λ (x : First 35 (LineName 0) f.rest). go f x.rest false x.is x.on)
      f.out.1
    where
      go : (f : Field is_hex 8 StampOut s) (t : List ℕ) (r : Bool) → f.rest ≡ resume_mark r ++ (35 ∷ t) → SoundFrom (LineName 0) t
          → is_line (frame_of (line_mark ++ (size ++ (35 ∷ 124 ∷ (crc ++ (35 ∷ 36 ∷ s)))))) ≡ true
      go f t r e g =
          let x = line-name-field t g in
          let lo = f.out.0 in
          let hi = f.few in
          let v = digits-stamp f.bytes f.each (omega arith) in
          let a = ap (λ (l : List ℕ). resume_mark r ++ (35 ∷ l)) (put x.bytes x.is (last x.out.1)) in
          ap (λ (l : List ℕ). is_line (frame_of (line_mark ++ (size ++ (35 ∷ 124 ∷ (crc ++ (35 ∷ 36 ∷ l))))))) (put f.bytes f.is (e ∙ a))
          ∙ ap is_line (line_reads size crc f.bytes x.bytes n k v.value r hs hc v.is (name-is x.bytes x.each x.out.0 x.few))

  -- behind `#`
  bar-read : (s : List ℕ) → SoundFrom LineBar s → is_line (frame_of (line_mark ++ (size ++ (35 ∷ s)))) ≡ true
  unfolding step_of end_of
  bar-read s h =
      let a = first LineBar (LineCrc 0 0) 124 SizeOpen (λ c. refl) refl s h in
      let c = crc-field LineCrc 35 LineDollar (λ k v c. refl) (λ k v. refl) a.rest a.on in
      let o = c.out in
      let d = first LineDollar (LineStamp 0) 36 Other (λ c. refl) refl o.rest o.on in
      ap (λ (l : List ℕ). is_line (frame_of (line_mark ++ (size ++ (35 ∷ l)))))
      (a.is ∙ ap (λ (l : List ℕ). 124 ∷ l) (put c.bytes c.is (o.is ∙ ap (λ (l : List ℕ). 35 ∷ l) d.is)))
      ∙ stamp-read c.bytes c.value c.read d.rest d.on

line_read : (s : List ℕ) → SoundFrom (LineSize 0) s → is_line (frame_of (line_mark ++ s)) ≡ true
unfolding basic_bytes
line_read s h =
    let f = line-size-field s h in
    let v = digits-size f.bytes f.each f.out.0 f.few in
    ⊎_elim
    (λ (x : First 13 End f.rest).
    ap (λ (l : List ℕ). is_line (frame_of (line_mark ++ l))) (put f.bytes f.is (last x)) ∙ ap is_line (basic-reads f.bytes v.value v.is))
    (λ (x : First 35 LineBar f.rest).
    ap (λ (l : List ℕ). is_line (frame_of (line_mark ++ l))) (put f.bytes f.is x.is) ∙ bar-read f.bytes v.value v.is x.rest x.on)
    f.out.1

module _ (name : List ℕ) (hn : is_name name ≡ true) where
  -- from the CRC on
  crc-read : (kept : List ℕ) (n : ℕ) → read_size kept ≡ Some n → (s : List ℕ) → SoundFrom (OkCrc 0 0) s
      → is_ok (frame_of (ok_mark ++ (name ++ (35 ∷ 36 ∷ (kept ++ (35 ∷ s)))))) ≡ true
  unfolding step_of end_of kept_bytes
  crc-read kept n hs s h =
      let c = crc-field OkCrc 13 End (λ k v c. refl) (λ k v. refl) s h in
      ap (λ (l : List ℕ). is_ok (frame_of (ok_mark ++ (name ++ (35 ∷ 36 ∷ (kept ++ (35 ∷ l))))))) (put c.bytes c.is (last c.out))
      ∙ ap is_ok (kept-reads name kept c.bytes n c.value hn hs c.read)

  -- behind `#`
  kept_read : (s : List ℕ) → SoundFrom OkDollar s → is_ok (frame_of (ok_mark ++ (name ++ (35 ∷ s)))) ≡ true
  unfolding step_of end_of
  kept_read s h =
      let d = first OkDollar (OkKept 0) 36 Other (λ c. refl) refl s h in
      let f = kept_field d.rest d.on in
      let o = f.out.1 in
      let v = digits-size f.bytes f.each f.out.0 f.few in
      ap (λ (l : List ℕ). is_ok (frame_of (ok_mark ++ (name ++ (35 ∷ l))))) (d.is ∙ ap (λ (l : List ℕ). 36 ∷ l) (put f.bytes f.is o.is))
      ∙ crc-read f.bytes v.value v.is o.rest o.on

ok_read : (s : List ℕ) → SoundFrom (OkName 0) s → is_ok (frame_of (ok_mark ++ s)) ≡ true
unfolding ok_bytes
ok_read s h =
    let f = ok-name-field s h in
    ⊎_elim
    (λ (x : First 13 End f.rest).
    ap (λ (l : List ℕ). is_ok (frame_of (ok_mark ++ l))) (put f.bytes f.is (last x)) ∙ named f.bytes f.each f.few)
    (λ (x : (1 ≤ length f.bytes) × First 35 OkDollar f.rest).
    let o = x.1 in
    ap (λ (l : List ℕ). is_ok (frame_of (ok_mark ++ l))) (put f.bytes f.is o.is)
    ∙ kept_read f.bytes (name-is f.bytes f.each x.0 f.few) o.rest o.on)
    f.out
  where
    named : (name : List ℕ) → all is_name_byte name ≡ true → length name ≤ 64 → is_ok (frame_of (ok_mark ++ (name ++ (13 ∷ [])))) ≡ true
    named [] a hi = ap is_ok ok-reads
    named (c ∷ n) a hi = ap is_ok (name-reads (c ∷ n) (name-is (c ∷ n) a (omega arith) hi))

-- ---- Both together

agree : (a : Bool) (c : Option Fault) → (a ≡ true → c ≡ None) → (c ≡ None → a ≡ true) → a ≡ is_sound c
agree true c f g = sym (ap is_sound (f refl))
agree false None f g = g refl
agree false (Some w) f g = refl

-- THE LAW: a frame that starts `#BIN#` is a line exactly where no fault is found
pub agrees-line : (b : List ℕ) → starts line_mark b ≡ true → is_line (frame_of b) ≡ is_sound (check_line b)
unfolding check_line
agrees-line b h =
    agree (is_line (frame_of b)) (check_line b) (read-sound b (frame_of b) (seen b)).0
    (λ e. ap (λ (l : List ℕ). is_line (frame_of l)) (starts_is line_mark b h) ∙ line_read (drop 5 b) (moved (LineSize 0) (drop 5 b) 5 0 e))

-- THE LAW: a frame that starts `#OK#` is an OK exactly where no fault is found
pub agrees-ok : (b : List ℕ) → starts ok_mark b ≡ true → is_ok (frame_of b) ≡ is_sound (check_ok b)
unfolding check_ok
agrees-ok b h =
    agree (is_ok (frame_of b)) (check_ok b) (read-sound b (frame_of b) (seen b)).1
    (λ e. ap (λ (l : List ℕ). is_ok (frame_of l)) (starts_is ok_mark b h) ∙ ok_read (drop 4 b) (moved (OkName 0) (drop 4 b) 4 0 e))
