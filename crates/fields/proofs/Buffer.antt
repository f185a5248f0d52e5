-- The laws of bytes laid over a buffer. Assumes nothing.
use Rattle.fields.specs.declared.WriteError.TheVariants.{Formless, Small}
use Rattle.std.specs.Prelude.{Err, Ok}
use mathlib.Core.Path.{◌≡◌, refl, sym, ap, ◌∙◌}
use mathlib.Core.Bool.{Bool, true, false}
use mathlib.Core.List.{List, [], ◌∷◌, ◌++◌, append_assoc, append-nil}
use mathlib.Core.Logic.{⊎_elim}
use Prim.Native.Nat.{ℕ, ◌+◌, ◌-◌, ◌≤◌, ◌<◌, zero-le}
use native.Mathlib.Nat.{zero-add, add-zero}
use native.Mathlib.Numerals.{add-one}
use native.Mathlib.Omega.{arith}
use lib.ListN.{length, take, drop, set, length-append, length-take, length-drop, take-append-drop, drop_of_length-le}
use lib.Seq.{take_at, drop_at, set_split, drop-drop, take-take, drop-append-le}
use borrow.Rule.Slice.PartMut.{mid_of, put_mid, put_same}
use borrow.Author.Tests.{le-leb, lt-leb, lt-ltb, le-ltb}
use Rattle.fields.proofs.Lists.{le-or-lt}
use Rattle.fields.specs.Buffer.{over, placed, placed_count, appended, appended_end, Form, formless, bytes, form_if, written_of, left_of}

pub placed-fits : (bs d : List ℕ) → length bs ≤ length d → placed bs d ≡ over 0 bs d
unfolding appended
placed-fits bs d h = simp (le-leb (0 + length bs) (length d) (omega arith))

pub placed-short : (bs d : List ℕ) → length d < length bs → placed bs d ≡ d
unfolding appended
placed-short bs d h = simp (lt-leb (0 + length bs) (length d) (omega arith))

pub count_fits : (bs d : List ℕ) → length bs ≤ length d → placed_count bs d ≡ length bs
unfolding appended_end
count_fits bs d h = simp (le-leb (0 + length bs) (length d) (omega arith)) (zero-add (length bs))

pub count-short : (bs d : List ℕ) → length d < length bs → placed_count bs d ≡ 0
unfolding appended_end
count-short bs d h = simp (lt-leb (0 + length bs) (length d) (omega arith))

pub put_short_count : (bs d : List ℕ) → length d < length bs → 0 ≡ placed_count bs d
put_short_count bs d h = sym (count-short bs d h)

pub put_short_bytes : (bs d : List ℕ) → length d < length bs → d ≡ placed bs d
put_short_bytes bs d h = sym (placed-short bs d h)

-- bytes copied over the beginning
pub put_copied : (bs d e : List ℕ) → length bs ≤ length d → e ≡ bs → (length bs ≡ placed_count bs d) × (e ++ drop (length bs) d ≡ placed bs d)
unfolding over
put_copied bs d e h q = (sym (count_fits bs d h), simp (placed-fits bs d h, zero-add, q))

-- the buffer keeps its length
pub length_over : (at : ℕ) (bs d : List ℕ) → at + length bs ≤ length d → length (over at bs d) ≡ length d
unfolding over
length_over at bs d h = simp (length-append, length-take, length-drop) (omega arith)

-- one byte stored is one byte laid over
pub set-over : (d : List ℕ) (i v : ℕ) → i < length d → set d i v ≡ over i (v ∷ []) d
unfolding over
set-over d i v h = set_split d i v h ∙ rw add-one

-- what is laid down directly behind joins
pub over-over : (at n : ℕ) (a b d : List ℕ) → at + length a ≡ n → n + length b ≤ length d → over n b (over at a d) ≡ over at (a ++ b) d
unfolding over
over-over at n a b d e h =
    let l : length (take at d ++ a) ≡ n = simp (length-append, length-take) (omega arith) in
    let f : take at d ++ (a ++ drop (at + length a) d) ≡ (take at d ++ a) ++ drop n d = simp (append_assoc, e) in
    let g : drop (n + length b) ((take at d ++ a) ++ drop n d) ≡ drop (n + length b) d =
    sym (drop-drop (length b) n _) ∙ ap (drop (length b)) (drop_at (take at d ++ a) (drop n d) n l) ∙ drop-drop (length b) n d in
    let s : at + (length a + length b) ≡ n + length b = omega arith in
    rw (f, take_at (take at d ++ a) (drop n d) n l, g) (simp (append_assoc, length-append, s))

-- a part from index at on is lent, and has bytes laid over its beginning
pub over-part : (at : ℕ) (bs d : List ℕ) → take at d ++ over 0 bs (drop at d) ≡ over at bs d
unfolding over
over-part at bs d = simp (drop-drop, zero-add)

-- the first m bytes are lent, and have bytes laid over them
pub over-prefix : (at m : ℕ) (bs d : List ℕ) → at + length bs ≤ m → m ≤ length d → over at bs (take m d) ++ drop m d ≡ over at bs d
unfolding over
over-prefix at m bs d h g =
    let l : at + length bs ≤ length (take m d) = simp length-take (omega arith) in
    let k : drop (at + length bs) (take m d) ++ drop m d ≡ drop (at + length bs) d =
    sym (drop-append-le _ (take m d) (drop m d) l) ∙ ap (drop (at + length bs)) (take-append-drop m d) in
    let j : at ≤ m = omega arith in
    simp (append_assoc, k, take-take at m d j)

-- bs was to be laid over all but the last byte of d, which gave the count k and the bytes p. One byte more is to follow
pub record Snoc (bs d p : List ℕ) (k : ℕ) : Type 0 where
  pub some : 0 < length d
  pub full : 0 < length bs
  pub count : k ≡ placed_count bs (take (length d - 1) d)
  pub bytes : p ≡ placed bs (take (length d - 1) d)

module _ {bs d p : List ℕ} {k : ℕ} (s : Snoc bs d p k) where
  len : length (take (length d - 1) d) ≡ length d - 1
  len = simp length-take (omega arith)

  short : k ≡ 0 → length d - 1 < length bs
  short z = ⊎_elim (λ h. let e : k ≡ length bs = s.count ∙ count_fits bs _ h in absurd (omega arith)) (λ h. rw len at h) (le-or-lt (length bs) (length (take (length d - 1) d)))

  pub snoc-fits : (k ≡ 0 → ⊥) → length bs ≤ length d - 1
  snoc-fits z = ⊎_elim (λ h. rw len at h) (λ h. absurd (z (s.count ∙ count-short bs _ h))) (le-or-lt (length bs) (length (take (length d - 1) d)))

  pub snoc-count : (k ≡ 0 → ⊥) → k ≡ length bs
  snoc-count z = s.count ∙ count_fits bs _ (rw len (snoc-fits z))

  pub snoc-refused : (x : ℕ) → k ≡ 0 → (0 ≡ placed_count (bs ++ (x ∷ [])) d) × (p ++ drop (length d - 1) d ≡ placed (bs ++ (x ∷ [])) d)
  snoc-refused x z =
      let h = short z in
      let l : length d < length (bs ++ (x ∷ [])) = simp length-append (omega arith) in
      let t : length (take (length d - 1) d) < length bs = rw len h in (
        sym (count-short (bs ++ (x ∷ [])) d l),
        ap (λ (l : List ℕ). l ++ drop (length d - 1) d) (s.bytes ∙ placed-short bs _ t) ∙ take-append-drop (length d - 1) d ∙ sym (placed-short (bs ++ (x ∷ [])) d l),
      )

  pub snoc-more : (x : ℕ) → (k ≡ 0 → ⊥) → (k + 1 ≡ placed_count (bs ++ (x ∷ [])) d) × (set (p ++ drop (length d - 1) d) k x ≡ placed (bs ++ (x ∷ [])) d)
  snoc-more x z =
      let f = snoc-fits z in
      let e = snoc-count z in
      let l : length (bs ++ (x ∷ [])) ≤ length d = simp length-append (omega arith) in
      let q : p ++ drop (length d - 1) d ≡ over 0 bs d =
      ap (λ (l : List ℕ). l ++ drop (length d - 1) d) (s.bytes ∙ placed-fits bs _ (rw len f))
      ∙ over-prefix 0 (length d - 1) bs d (omega arith) (omega arith) in
      let lo : length (over 0 bs d) ≡ length d = length_over 0 bs d (omega arith) in (
        simp (count_fits (bs ++ (x ∷ [])) d l, length-append) (omega arith),
        ap (λ (l : List ℕ). set l k x) q ∙ set-over (over 0 bs d) k x (omega arith)
            ∙ over-over 0 k bs (x ∷ []) d (omega arith) (omega arith) ∙ sym (placed-fits (bs ++ (x ∷ [])) d l),
      )

pub over_none : (d : List ℕ) → over 0 [] d ≡ d
unfolding over
over_none d = refl

pub over-all : (bs d : List ℕ) → length bs ≡ length d → over 0 bs d ≡ bs
unfolding over
over-all bs d h = ap (λ (l : List ℕ). bs ++ l) (drop_of_length-le d {i = 0 + length bs} (omega arith)) ∙ append-nil bs

pub part-over : (n k : ℕ) (bs p d : List ℕ) → length bs ≤ k → n + k ≤ length d → p ≡ over 0 bs (mid_of n k d) → put_mid n k d p ≡ over n bs d
part-over n k bs p d h g q =
    let r : k ≤ length (drop n d) = simp length-drop (omega arith) in
    ap (put_mid n k d) q ∙ ap (λ (x : List ℕ). take n d ++ x) (over-prefix 0 k bs (drop n d) (omega arith) r) ∙ over-part n bs d

-- A buffer d of which the first n bytes are a by now, as a writer has it after some steps: e is the buffer
module _ (a d e : List ℕ) (n : ℕ) (so_far : e ≡ over 0 a d) (count : length a ≡ n) where
  pub grown-length : n ≤ length d → length e ≡ length d
  grown-length h = ap length so_far ∙ length_over 0 a d (omega arith)

  -- a store
  pub grow-set : (v : ℕ) → n < length d → set e n v ≡ over 0 (a ++ (v ∷ [])) d
  grow-set v h =
      let l = grown-length (omega arith) in
      set-over e n v (omega arith) ∙ ap (over n (v ∷ [])) so_far ∙ over-over 0 n a (v ∷ []) d (omega arith) (omega arith)

-- What each writer at an index owes. The part of d from at on was lent: k is its length, and p what it then is
module _ (at : ℕ) (bs d : List ℕ) where
  pub append-fits : at + length bs ≤ length d → (at + length bs ≡ appended_end at bs d) × (over at bs d ≡ appended at bs d)
  unfolding appended appended_end
  append-fits h = (simp (le-leb _ _ h), simp (le-leb _ _ h))

  pub append-short : length d < at + length bs → (at ≡ appended_end at bs d) × (d ≡ appended at bs d)
  unfolding appended appended_end
  append-short h = (simp (lt-leb _ _ h), simp (lt-leb _ _ h))

  -- a writer at the beginning was lent the part
  pub append-part : (k r : ℕ) (p : List ℕ) → at ≤ length d → k ≡ length d - at → r ≡ placed_count bs (mid_of at k d) → p ≡ placed bs (mid_of at k d)
      → (at + r ≡ appended_end at bs d) × (put_mid at k d p ≡ appended at bs d)
  append-part k r p h e q w =
      let l : length (mid_of at k d) ≡ k = simp (length-take, length-drop) (omega arith) in
      ⊎_elim
      (λ (f : at + length bs ≤ length d). let f' : length bs ≤ length (mid_of at k d) = rw l (omega arith) in let a = append-fits f in (
        ap (λ (x : ℕ). at + x) (q ∙ count_fits bs (mid_of at k d) f') ∙ a.0,
        part-over at k bs p d (omega arith) (omega arith) (w ∙ placed-fits bs (mid_of at k d) f') ∙ a.1,
      ))
      (λ (f : length d < at + length bs). let f' : length (mid_of at k d) < length bs = rw l (omega arith) in let a = append-short f in (
        ap (λ (x : ℕ). at + x) (q ∙ count-short bs (mid_of at k d) f') ∙ add-zero at ∙ a.0,
        ap (put_mid at k d) (w ∙ placed-short bs (mid_of at k d) f') ∙ put_same at k d ∙ a.1,
      ))
      (le-or-lt (at + length bs) (length d))

-- nothing laid down
pub append-none : (at : ℕ) (d : List ℕ) → (at ≡ appended_end at [] d) × (d ≡ appended at [] d)
unfolding over
append-none at d = ⊎_elim
    (λ (h : at + 0 ≤ length d). let f = append-fits at [] d h in (sym (add-zero at) ∙ f.0, sym (rw (add-zero at) (take-append-drop at d)) ∙ f.1))
    (λ (h : length d < at + 0). append-short at [] d h)
    (le-or-lt (at + 0) (length d))

-- what a writer that lays bs down at the index n of the buffer e gave: the index r and the buffer f
abbrev pub Laid : ℕ → List ℕ → List ℕ → ℕ → List ℕ → Type 0
Laid n bs e r f = (r ≡ appended_end n bs e) × (f ≡ appended n bs e)

-- A buffer d of which the first n bytes are a by now: e is the buffer
pub record Grown (a d e : List ℕ) (n : ℕ) : Type 0 where
  pub bytes : e ≡ over 0 a d
  pub count : n ≡ length a

pub grown-none : (d : List ℕ) → Grown [] d d 0
grown-none d = record { bytes = sym (over_none d); count = refl }

-- one more writer at the index
pub grown : {a d e : List ℕ} {n : ℕ} → Grown a d e n → (bs e' : List ℕ) (r : ℕ) → n + length bs ≤ length d → Laid n bs e r e' → Grown (a ++ bs) d e' r
grown {a} {d} {e} {n} g bs e' r h q =
    let l : length e ≡ length d = grown-length a d e n g.bytes (sym g.count) (omega arith) in
    let f = append-fits n bs e (omega arith) in
    record {
      bytes = q.1 ∙ sym f.1 ∙ ap (over n bs) g.bytes ∙ over-over 0 n a bs d (omega (arith, g.count)) h;
      count = q.0 ∙ sym f.0 ∙ simp length-append (omega (arith, g.count));
    }

-- the same where the first n bytes are at most m
pub record So (m : ℕ) (a d e : List ℕ) (n : ℕ) : Type 0 where
  pub far : Grown a d e n
  pub most : length a ≤ m

pub begin : (d : List ℕ) → So 0 [] d d 0
begin d = record { far = grown-none d; most = omega arith }

-- one more writer, of at most k bytes
pub lay : {m : ℕ} {a d e : List ℕ} {n : ℕ} → So m a d e n → (k : ℕ) (bs f : List ℕ) (r : ℕ) → length bs ≤ k → m + k ≤ length d → Laid n bs e r f
    → So (m + k) (a ++ bs) d f r
lay {m} {a} {d} {e} {n} s k bs f r h g q =
    let c : n ≡ length a = s.far.count in
    record { far = grown s.far bs f r (omega (arith, c, s.most)) q; most = simp length-append (omega (arith, s.most)) }

pub count-le : (bs d : List ℕ) → placed_count bs d ≤ length d
count-le bs d = ⊎_elim (λ h. rw (count_fits bs d h) h) (λ h. rw (count-short bs d h) zero-le) (le-or-lt (length bs) (length d))

-- a writer that fills all w bytes of the part with f w was lent it
pub append-whole : (at w : ℕ) (f : ℕ → List ℕ) (p d : List ℕ) → at + w ≤ length d → length (f w) ≡ w → p ≡ f (length (mid_of at (at + w - at) d))
    → (at + w ≡ appended_end at (f w) d) × (put_mid at (at + w - at) d p ≡ appended at (f w) d)
append-whole at w f p d h l q =
    let k : at + w - at ≡ w = omega arith in
    let m : length (mid_of at w d) ≡ w = simp (length-take, length-drop) (omega arith) in
    let q' : p ≡ f w = q ∙ ap f (rw (k, m)) in
    let a = append-fits at (f w) d (omega arith) in
    (ap (λ (x : ℕ). at + x) (sym l) ∙ a.0, rw k (part-over at w (f w) p d (omega arith) h (q' ∙ sym (over-all (f w) (mid_of at w d) (l ∙ sym m))) ∙ a.1))

-- what a writer owes in the end
pub grown-is : {a d e : List ℕ} {n : ℕ} (b : List ℕ) → Grown a d e n → a ≡ b → (n ≡ length b) × (e ≡ over 0 b d)
grown-is {a} {d} b g q = (g.count ∙ ap length q, g.bytes ∙ ap (λ (l : List ℕ). over 0 l d) q)

pub formless-not : {A : Type 0} (bs : List ℕ) → formless ≡ bytes bs → A
formless-not bs e = let z : ◌≡◌ {A = ℕ} 0 1 = cc in absurd (omega arith)

-- what has bytes by a test passed it
pub form-is : (t : Bool) (s bs : List ℕ) → form_if t s ≡ bytes bs → (t ≡ true) × (s ≡ bs)
form-is true s bs h = let e : s ≡ bs = cc in (refl, e)
form-is false s bs h = formless-not bs h

-- What a writer answers, and the buffer it leaves: too small a buffer, no form, and the bytes written
module _ (least : ℕ) (f : Form) (d : List ℕ) where
  pub small : length d < least → ((Err Small) ≡ written_of least f d) × (d ≡ left_of least f d)
  unfolding written_of left_of
  small h = (simp (lt-ltb _ _ h), simp (lt-ltb _ _ h))

  pub refused : f ≡ formless → least ≤ length d → ((Err Formless) ≡ written_of least f d) × (d ≡ left_of least f d)
  unfolding written_of left_of
  refused e h = (simp (le-ltb _ _ h, e), simp (le-ltb _ _ h, e))

  pub written : (bs e : List ℕ) (n : ℕ) → f ≡ bytes bs → least ≤ length d → n ≡ length bs → e ≡ over 0 bs d
      → (Ok n ≡ written_of least f d) × (e ≡ left_of least f d)
  unfolding written_of left_of
  written bs e n q h c o = (simp (le-ltb _ _ h, q, c), simp (le-ltb _ _ h, q) o)
