-- Names, sizes, stamps and CRCs of lines and OKs: what is read leads from part to part, and what leads there is read. Assumes nothing.
use Rattle.fields.specs.declared.Flaw.{Flaw}
use Rattle.std.specs.Prelude.{Err, Some, None, Ok, Result}
use mathlib.Core.Path.{◌≡◌, refl, sym, ap, ◌∙◌}
use mathlib.Core.Bool.{Bool, true, false, not, not-not}
use mathlib.Core.List.{List, [], ◌∷◌, ◌++◌}
use mathlib.Core.Logic.{◌⊎◌, inl, inr}
use Prim.Native.Nat.{ℕ, ◌+◌, ◌≤◌, ◌<◌}
use native.Mathlib.Omega.{arith}
use lib.ListN.{length, take, drop, take-append-drop}
use lib.Dec.{leb, eqb}
use borrow.Author.Tests.{lt-leb, leb-true, eq-eqb, ne_eqb, eqb-true}
use Rattle.fields.specs.Pick.{pick}
use Rattle.fields.specs.Name.{is_name_byte, is_name}
use Rattle.fields.specs.declared.Flaw.TheVariants.{NameOpen, NameLength, NoDigits, ManyDigits, SizeOpen, Other}
use Rattle.fields.proofs.Lists.{never, both, either, name-length}
use Rattle.numbers.specs.declared.Base.TheVariants.{Decimal, Hex}
use Rattle.numbers.specs.Reading.{is_digit, hex_digit, read_size, read_crc, read_hex}
use Rattle.numbers.proofs.Reading.{decimal-form, hex-form}
use Rattle.faults.specs.declared.Stage.{Stage}
use Rattle.faults.specs.declared.Stage.TheVariants.{LineSize, LineBar, LineStamp, LineMark, LineName, OkName, OkDollar, OkKept, OkCrc, End}
use Rattle.faults.specs.Faults.{name_part, size_part, crc_part, is_hex, in_crc, only, line_closing, in_ok, step_of, end_of, check_from, is_sound}
use Rattle.faults.specs.Search.{digits, past_digits, begins, crc_faults}
use Rattle.faults.proofs.Moves.{of-name, of_size, of-only}
use Rattle.faults.proofs.Earliest.{Stops}
use Rattle.faults.proofs.SizeLeast.{size-more, size-behind}
use Rattle.faults.proofs.CrcLeast.{crc-read, crc-value, crc-least}
use Rattle.faults.proofs.LeastLine.{stamp-more}
use Rattle.faults.proofs.Values.{name-bytes, value-digits}
use Rattle.faults.proofs.SoundParts.{sound-earlier, sound-is, some-not, leb-not, too_high, crc-sound}
use Rattle.faults.proofs.Sound.{SoundFrom, moved, After, after, forward, open-end, First, first-is, end-sound, Field, part_sound, field_of}

-- a byte that belongs to a part is no other byte
other_byte : (f : ℕ → Bool) (z c : ℕ) → f z ≡ false → f c ≡ true → eqb c z ≡ false
other_byte f z c n h = ne_eqb c z (λ e. never (sym n ∙ ap f (sym e) ∙ h))

-- ---- Names

name-more : (z k c : ℕ) → is_name_byte z ≡ false → is_name_byte c ≡ true → k < 64 → name_part z k c ≡ Ok (Some (k + 1))
unfolding name_part
name-more z k c n h l = rw (other_byte is_name_byte z c n h, lt-leb 64 k l, h)

name-many : (z c : ℕ) → is_name_byte z ≡ false → is_name_byte c ≡ true → name_part z 64 c ≡ Err NameLength
unfolding name_part
name-many z c n h = rw (other_byte is_name_byte z c n h)

name-behind : (z k : ℕ) → 1 ≤ k → name_part z k z ≡ Ok None
unfolding name_part
name-behind z k h = rw (eq-eqb z z refl, ne_eqb k 0 (omega arith))

-- a line's, closed by `\r`
line-name-more : (k c : ℕ) → is_name_byte c ≡ true → k < 64 → step_of (LineName k) c ≡ Ok (LineName (k + 1))
unfolding step_of is_name_byte
line-name-more k c h l = rw (name-more 13 k c refl h l)

pub line-name-sound : (n : List ℕ) → is_name n ≡ true → SoundFrom (LineName 0) (n ++ (13 ∷ []))
unfolding step_of
line-name-sound n h =
    let l = name-length n h in
    part_sound LineName is_name_byte 64 line-name-more n (13 ∷ []) (name-bytes n h) l.1
    (forward (LineName (length n)) End 13 [] (rw (name-behind 13 (length n) l.0)) end-sound)

abbrev pub LineNameOut : ℕ → List ℕ → Type 0
LineNameOut k s = (1 ≤ k) × First 13 End s

line-name-out : (k : ℕ) (s : List ℕ) → Stops is_name_byte s → SoundFrom (LineName k) s → LineNameOut k s
unfolding step_of end_of
line-name-out k [] t h = open-end (LineName k) NameOpen refl h
line-name-out k (c ∷ s) t h =
    after (LineName k) c s
    (of-name (After (LineNameOut k (c ∷ s)) s) (λ _. tt) k c 13 LineName (Ok End) (λ b _. never (sym t ∙ b)) (λ e n g. (n, first-is e g)))
    h

pub line-name-field : (s : List ℕ) → SoundFrom (LineName 0) s → Field is_name_byte 64 LineNameOut s
unfolding step_of is_name_byte
line-name-field = field_of LineName is_name_byte 64 line-name-more LineNameOut NameLength (λ c h. rw (name-many 13 c refl h)) line-name-out

-- an OK's, if any, closed by `\r`, or one closed by `#`
abbrev pub OkNameOut : ℕ → List ℕ → Type 0
OkNameOut k s = First 13 End s ⊎ ((1 ≤ k) × First 35 OkDollar s)

ok-name-more : (k c : ℕ) → is_name_byte c ≡ true → k < 64 → step_of (OkName k) c ≡ Ok (OkName (k + 1))
unfolding step_of is_name_byte
ok-name-more k c h l = let z = other_byte is_name_byte 13 c refl h in let m = name-more 35 k c refl h l in rw (z, m)

pub ok_end : (k : ℕ) → SoundFrom (OkName k) (13 ∷ [])
unfolding step_of
ok_end k = forward (OkName k) End 13 [] refl end-sound

module _ (n : List ℕ) (h : is_name n ≡ true) where
  ok-name-run : (s : List ℕ) → SoundFrom (OkName (length n)) s → SoundFrom (OkName 0) (n ++ s)
  ok-name-run s = part_sound OkName is_name_byte 64 ok-name-more n s (name-bytes n h) (name-length n h).1

  pub ok-name-sound : SoundFrom (OkName 0) (n ++ (13 ∷ []))
  ok-name-sound = ok-name-run (13 ∷ []) (ok_end (length n))

  pub ok-hash-sound : (s : List ℕ) → SoundFrom OkDollar s → SoundFrom (OkName 0) (n ++ (35 ∷ s))
  unfolding step_of
  ok-hash-sound s g =
      ok-name-run (35 ∷ s) (forward (OkName (length n)) OkDollar 35 s (rw (name-behind 35 (length n) (name-length n h).0)) g)

ok-name-out : (k : ℕ) (s : List ℕ) → Stops is_name_byte s → SoundFrom (OkName k) s → OkNameOut k s
unfolding step_of end_of
ok-name-out k [] t h = open-end (OkName k) Other refl h
ok-name-out k (c ∷ s) t h =
    let P : Result Stage Flaw → Type 0 = After (OkNameOut k (c ∷ s)) s in
    after (OkName k) c s
    (either P (eqb c 13) _ _ (λ e g. inl (first-is (eqb-true c 13 e) g))
    (λ _. of-name (λ m. P (in_ok m)) (λ _. tt) k c 35 OkName (Ok OkDollar) (λ b _. never (sym t ∙ b)) (λ e n g. inr (n, first-is e g))))
    h

pub ok-name-field : (s : List ℕ) → SoundFrom (OkName 0) s → Field is_name_byte 64 OkNameOut s
unfolding step_of is_name_byte
ok-name-field =
    field_of OkName is_name_byte 64 ok-name-more OkNameOut Other
    (λ c h. let z = other_byte is_name_byte 13 c refl h in let m = name-many 35 c refl h in rw (z, m)) ok-name-out

-- ---- Sizes and kept counts

-- a line's, closed by `\r` or by the `#` of `#|`
abbrev pub SizeOut : ℕ → List ℕ → Type 0
SizeOut k s = (1 ≤ k) × (First 13 End s ⊎ First 35 LineBar s)

pub line-size-sound : (c : ℕ) (q : Stage) (n s : List ℕ) (v : ℕ) → is_digit c ≡ false → line_closing c ≡ Ok q → read_size n ≡ Some v
    → SoundFrom q s → SoundFrom (LineSize 0) (n ++ (c ∷ s))
unfolding step_of
line-size-sound c q n s v d e r h =
    let f = decimal-form 8 v n r in
    part_sound LineSize is_digit 8 (size-more LineSize line_closing (λ k c. refl)) n (c ∷ s) (value-digits Decimal n v f.2) f.1
    (forward (LineSize (length n)) q c s (size-behind LineSize line_closing (λ k c. refl) (length n) c f.0 d ∙ e) h)

line-size-out : (k : ℕ) (s : List ℕ) → Stops is_digit s → SoundFrom (LineSize k) s → SizeOut k s
unfolding step_of end_of
line-size-out k [] t h = open-end (LineSize k) (pick (eqb k 0) NoDigits SizeOpen) refl h
line-size-out k (c ∷ s) t h =
    let P : Result Stage Flaw → Type 0 = After (SizeOut k (c ∷ s)) s in
    after (LineSize k) c s
    (of_size P (λ _. tt) k c LineSize (line_closing c) (λ b _. never (sym t ∙ b))
    (λ n. either P (eqb c 13) _ _ (λ e g. (n, inl (first-is (eqb-true c 13 e) g)))
    (λ _. of-only P 35 c LineBar SizeOpen tt (λ e g. (n, inr (first-is e g))))))
    h

pub line-size-field : (s : List ℕ) → SoundFrom (LineSize 0) s → Field is_digit 8 SizeOut s
unfolding step_of size_part
line-size-field = field_of LineSize is_digit 8 (size-more LineSize line_closing (λ k c. refl)) SizeOut ManyDigits (λ c d. rw d refl) line-size-out

-- an OK's, closed by `#`
abbrev pub KeptOut : ℕ → List ℕ → Type 0
KeptOut k s = (1 ≤ k) × First 35 (OkCrc 0 0) s

pub kept-sound : (n s : List ℕ) (v : ℕ) → read_size n ≡ Some v → SoundFrom (OkCrc 0 0) s → SoundFrom (OkKept 0) (n ++ (35 ∷ s))
unfolding step_of size_part
kept-sound n s v r h =
    let f = decimal-form 8 v n r in
    part_sound OkKept is_digit 8 (λ k x g l. rw (g, lt-leb 8 k l)) n (35 ∷ s) (value-digits Decimal n v f.2) f.1
    (forward (OkKept (length n)) (OkCrc 0 0) 35 s (rw (ne_eqb (length n) 0 (omega arith)) refl) h)

kept_out : (k : ℕ) (s : List ℕ) → Stops is_digit s → SoundFrom (OkKept k) s → KeptOut k s
unfolding step_of end_of
kept_out k [] t h = open-end (OkKept k) Other refl h
kept_out k (c ∷ s) t h =
    let P : Result Stage Flaw → Type 0 = λ m. After (KeptOut k (c ∷ s)) s (in_ok m) in
    after (OkKept k) c s
    (of_size P (λ _. tt) k c OkKept (only 35 c (OkCrc 0 0) Other) (λ b _. never (sym t ∙ b))
    (λ n. of-only P 35 c (OkCrc 0 0) Other tt (λ e g. (n, first-is e g))))
    h

pub kept_field : (s : List ℕ) → SoundFrom (OkKept 0) s → Field is_digit 8 KeptOut s
unfolding step_of size_part
kept_field = field_of OkKept is_digit 8 (λ k x g l. rw (g, lt-leb 8 k l)) KeptOut Other (λ c d. rw d refl) kept_out

-- ---- Stamps: eight hex digits and perhaps `?`

abbrev pub StampOut : ℕ → List ℕ → Type 0
StampOut k s = (8 ≤ k) × (First 63 LineMark s ⊎ First 35 (LineName 0) s)

pub stamp-sound : (r : Bool) (n s : List ℕ) (v : ℕ) → read_hex n ≡ Some v → SoundFrom (LineName 0) s
    → SoundFrom (LineStamp 0) (n ++ (pick r (63 ∷ []) [] ++ (35 ∷ s)))
unfolding step_of
stamp-sound r n s v e h =
    let f = hex-form v n e in
    let l = f.0 in
    part_sound LineStamp is_hex 8 stamp-more n (pick r (63 ∷ []) [] ++ (35 ∷ s)) (value-digits Hex n v f.1) (omega arith)
    (rw l (go r))
  where
    go : (r : Bool) → SoundFrom (LineStamp 8) (pick r (63 ∷ []) [] ++ (35 ∷ s))
    go true = forward (LineStamp 8) LineMark 63 (35 ∷ s) refl (forward LineMark (LineName 0) 35 s refl h)
    go false = forward (LineStamp 8) (LineName 0) 35 s refl h

stamp-out : (k : ℕ) (s : List ℕ) → Stops is_hex s → SoundFrom (LineStamp k) s → StampOut k s
unfolding step_of end_of
stamp-out k [] t h = open-end (LineStamp k) Other refl h
stamp-out k (c ∷ s) t h =
    let P : Result Stage Flaw → Type 0 = After (StampOut k (c ∷ s)) s in
    after (LineStamp k) c s
    (either P (leb 8 k) _ _
    (λ l. either P (eqb c 63) _ _ (λ e g. (leb-true 8 k l, inl (first-is (eqb-true c 63 e) g)))
    (λ _. of-only P 35 c (LineName 0) Other tt (λ e g. (leb-true 8 k l, inr (first-is e g)))))
    (λ _. either P (is_hex c) _ _ (λ b. never (sym t ∙ b)) (λ _. tt)))
    h

pub stamp-field : (s : List ℕ) → SoundFrom (LineStamp 0) s → Field is_hex 8 StampOut s
unfolding step_of hex_digit
stamp-field =
    field_of LineStamp is_hex 8 stamp-more StampOut Other
    (λ c h. let a = other_byte is_hex 63 c refl h in let b = other_byte is_hex 35 c refl h in rw (a, b) refl) stamp-out

-- ---- CRCs

-- a CRC, and what stands behind it
pub record CrcField (z : ℕ) (q : Stage) (s : List ℕ) : Type 0 where
  pub bytes : List ℕ
  pub rest : List ℕ
  pub is : s ≡ bytes ++ rest
  pub value : ℕ
  pub read : read_crc bytes ≡ Some value
  pub out : First z q rest

begins-is : (x : ℕ) (s : List ℕ) → begins x s ≡ true → s ≡ x ∷ drop 1 s
unfolding begins
begins-is x [] h = never h
begins-is x (c ∷ s) h = ap (λ (y : ℕ). y ∷ s) (eqb-true c x h)

module _ (part : ℕ → ℕ → Stage) (z : ℕ) (q : Stage)
    (step : (k v c : ℕ) → step_of (part k v) c ≡ in_crc (crc_part k v c) part (only z c q Other))
    (end : (k v : ℕ) → end_of (part k v) ≡ Some Other) where
  pub crc-right : is_digit z ≡ false → (n s : List ℕ) (w : ℕ) → read_crc n ≡ Some w → SoundFrom q s → SoundFrom (part 0 0) (n ++ (z ∷ s))
  crc-right o n s w e h = crc-read part z q step end o n s 0 w e ∙ moved q s 0 (0 + length n + 1) h

  pub crc-field : (s : List ℕ) → SoundFrom (part 0 0) s → CrcField z q s
  crc-field s h =
      let d = digits s in
      let t = past_digits s in
      let on = check_from q (0 + d + 1) (drop 1 t) in
      let x = crc_faults z 0 s in
      let y = pick (begins z t) on None in
      let a = both (is_sound x) (is_sound y) (sym (sound-earlier x y) ∙ ap is_sound (sym (crc-least part z q step end 0 s) ∙ h)) in
      let b = both _ _ (sym (crc-sound z 0 s) ∙ a.0) in
      let c = both (not (too_high s)) _ b.1 in
      let e = both _ _ c.1 in
      let v = crc-value s (leb-true 1 d (some-not d ∙ b.0)) (leb-true d 5 (leb-not d 5 ∙ e.0)) (sym (not-not (too_high s)) ∙ ap not c.0) in
      record {
        bytes = take d s;
        rest = t;
        is = sym (take-append-drop d s);
        value = v.value;
        read = v.is;
        out = record {
          rest = drop 1 t;
          is = begins-is z t e.1;
          on = moved q (drop 1 t) (0 + d + 1) 0 (sound-is on (rw e.1 at a.1));
        };
      }
