-- The bytes of the file's record, and `is_of_file` test by test. Assumes nothing.
use Rattle.std.specs.Prelude.{Some}
use mathlib.Core.Path.{◌≡◌, refl, sym, ap, ◌∙◌}
use mathlib.Core.Bool.{Bool, true, false, ◌&&◌, false≢true}
use mathlib.Core.List.{List, [], ◌∷◌, ◌++◌}
use Prim.Native.Nat.{ℕ, suc, ◌+◌, ◌-◌, ◌≤◌, ◌<◌}
use native.Mathlib.Omega.{arith}
use lib.Dec.{leb}
use lib.ListN.{length, drop, get_or, length-take, length-drop, take-append-drop}
use lib.Seq.{take_all, drop-drop, get_or-take, get_or-drop}
use borrow.Author.Tests.{le-leb, leb-true, lt-ltb}
use Rattle.fields.specs.Lists.{part, all, same}
use Rattle.fields.proofs.Lists.{same_refl, same-eq}
use Rattle.numbers.specs.Canonical.{is_byte}
use Rattle.numbers.specs.Writing.{little}
use Rattle.numbers.proofs.RoundTrip.{little-value, little-bytes-back}
use Rattle.records.specs.Record.{number_at}
use Rattle.records.specs.Saved.{saved, kind_of, stamp_bytes, record_data, record_bytes}
use Rattle.run_cuts.specs.Link.{file_name, file_stamp, kept_in, is_of_file}

-- ---- lists that are the same or not

not_same : (s t : List ℕ) → same s t ≡ false → s ≡ t → ⊥
not_same s t h e = false≢true (sym h ∙ ap (λ (l : List ℕ). same s l) (sym e) ∙ same_refl s)

differ : (s t : List ℕ) → (s ≡ t → ⊥) → same s t ≡ false
differ s t h = go (same s t) refl
  where
    go : (x : Bool) → same s t ≡ x → x ≡ false
    go true e = absurd (h (same-eq s t e))
    go false e = refl

same-both : (s t u v : List ℕ) → (s ≡ t → u ≡ v) → (u ≡ v → s ≡ t) → same s t ≡ same u v
same-both s t u v f g = go (same s t) refl
  where
    go : (x : Bool) → same s t ≡ x → x ≡ same u v
    go true e = sym (ap (λ (l : List ℕ). same u l) (sym (f (same-eq s t e))) ∙ same_refl u)
    go false e = sym (differ u v (λ (q : u ≡ v). not_same s t e (g q)))

-- ---- the bytes of the record

-- length and kind 2
abbrev pub front : List ℕ
front = 22 ∷ 0 ∷ 2 ∷ 0 ∷ []

-- stamp, name length and name
abbrev pub back : List ℕ
back = 0 ∷ 72 ∷ 33 ∷ 90 ∷ 7 ∷ 97 ∷ 98 ∷ 99 ∷ 46 ∷ 116 ∷ 120 ∷ 116 ∷ []

abbrev whole : ℕ → ℕ → List ℕ
whole size kept = front ++ (little 4 size ++ (little 4 kept ++ back))

whole_is : (size kept : ℕ) → record_bytes (saved file_name size kept (Some file_stamp)) ≡ whole size kept
unfolding little kind_of stamp_bytes record_data record_bytes
whole_is size kept = refl

abbrev pub Bytes : List ℕ → Type 0
Bytes b = (i : ℕ) → i < length b → get_or b i 0 < 256

all-bytes : (b : List ℕ) → Bytes b → all is_byte b ≡ true
unfolding all is_byte
all-bytes [] h = refl
all-bytes (c ∷ b) h = rw (lt-ltb c 256 (h 0 (omega arith)), all-bytes b (λ (i : ℕ) (g : i < length b). h (suc i) (omega arith)))

-- four bytes, written as the number that they are
four : (i : ℕ) (b : List ℕ) → Bytes b → i + 4 ≤ length b → part i 4 b ≡ little 4 (number_at i 4 b)
four i b h g =
    let l : length (part i 4 b) ≡ 4 = simp (length-take, length-drop) (omega arith) in
    let k = all-bytes (part i 4 b) (λ (j : ℕ) (m : j < length (part i 4 b)).
    rw (get_or-take 4 (drop i b) j 0 (omega arith), get_or-drop i b j 0) (h (i + j) (omega arith))) in
    sym (little-bytes-back (part i 4 b) k) ∙ ap (λ (n : ℕ). little n (number_at i 4 b)) l

-- ---- the tests

module _ (b : List ℕ) (size : ℕ) where
  of_size : List ℕ
  of_size = whole size (kept_in b)

  its-front : b ≡ of_size → part 0 4 b ≡ front
  unfolding of_size
  its-front e = ap (part 0 4) e

  its-size : size ≤ 0xFFFFFFFF → b ≡ of_size → number_at 4 4 b ≡ size
  unfolding of_size little
  its-size h e = ap (number_at 4 4) e ∙ little-value 4 size (omega arith)

  its-back : b ≡ of_size → drop 12 b ≡ back
  unfolding of_size little
  its-back e = ap (drop 12) e

  is_whole : Bytes b → part 0 4 b ≡ front → number_at 4 4 b ≡ size → drop 12 b ≡ back → b ≡ of_size
  unfolding of_size
  is_whole h f n r =
      let l : length b - 12 ≡ 12 = sym (length-drop 12 b) ∙ ap length r in
      sym (take-append-drop 4 b) ∙ ap (λ (x : List ℕ). x ++ drop 4 b) f
      ∙ ap (λ (x : List ℕ). front ++ x)
      (sym (take-append-drop 4 (drop 4 b))
      ∙ ap (λ (x : List ℕ). x ++ drop 4 (drop 4 b)) (four 4 b h (omega arith) ∙ ap (little 4) n)
      ∙ ap (λ (x : List ℕ). little 4 size ++ x)
      (drop-drop 4 4 b
      ∙ sym (take-append-drop 4 (drop 8 b))
      ∙ ap (λ (x : List ℕ). x ++ drop 4 (drop 8 b)) (four 8 b h (omega arith))
      ∙ ap (λ (x : List ℕ). little 4 (kept_in b) ++ x) (drop-drop 4 8 b ∙ r)))

module _ (b file : List ℕ) where
  by_whole : is_of_file b file ≡ leb (length file) 0xFFFFFFFF && same b (of_size b (length file))
  unfolding is_of_file of_size
  by_whole = ap (λ (w : List ℕ). leb (length file) 0xFFFFFFFF && same b w) (whole_is (length file) (kept_in b))

  pub other-front : same (part 0 4 b) front ≡ false → false ≡ is_of_file b file
  other-front h = sym (by_whole ∙ go (leb (length file) 0xFFFFFFFF))
    where
      go : (x : Bool) → x && same b (of_size b (length file)) ≡ false
      go true = differ b (of_size b (length file)) (λ (e : b ≡ of_size b (length file)). not_same (part 0 4 b) front h (its-front b (length file) e))
      go false = refl

  pub other-size : (number_at 4 4 b ≡ length file → ⊥) → false ≡ is_of_file b file
  other-size h = sym (by_whole ∙ go (leb (length file) 0xFFFFFFFF) refl)
    where
      go : (x : Bool) → leb (length file) 0xFFFFFFFF ≡ x → x && same b (of_size b (length file)) ≡ false
      go true l =
          differ b (of_size b (length file))
          (λ (e : b ≡ of_size b (length file)). h (its-size b (length file) (leb-true (length file) 0xFFFFFFFF l) e))
      go false l = refl

  pub by-back : Bytes b → same (part 0 4 b) front ≡ true → number_at 4 4 b ≡ length file → length file ≤ 0xFFFFFFFF
      → same (part 12 (length b) b) back ≡ is_of_file b file
  by-back h f n l =
      ap (λ (x : List ℕ). same x back) (take_all (length b) (drop 12 b) (rw length-drop (omega arith)))
      ∙ same-both (drop 12 b) back b (of_size b (length file)) (is_whole b (length file) h (same-eq (part 0 4 b) front f) n)
      (its-back b (length file))
      ∙ sym (by_whole ∙ ap (λ (x : Bool). x && same b (of_size b (length file))) (le-leb (length file) 0xFFFFFFFF l))
