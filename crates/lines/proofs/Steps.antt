-- The steps of reading as the code takes them, against the definitions. Assumes nothing.
use Rattle.std.specs.Prelude.{Some}
use mathlib.Core.Path.{◌≡◌, refl, sym, ap, ◌∙◌}
use mathlib.Core.Bool.{Bool, true, false, ◌&&◌}
use mathlib.Core.List.{List, [], ◌∷◌}
use mathlib.Core.Logic.{⊎_elim}
use Prim.Native.Nat.{ℕ, ◌+◌, ◌-◌, ◌≤◌, ◌<◌}
use native.Mathlib.Omega.{arith}
use lib.ListN.{length, get_or, take, drop, length-take, length-drop, drop_of_length-le}
use lib.Seq.{take_all}
use lib.Dec.{eqb}
use lib.Pointwise.{pointwise}
use borrow.Author.Tests.{eq-eqb, ne_eqb}
use Rattle.std.proofs.lemmas.List.{drop-take}
use Rattle.fields.specs.Pick.{pick}
use Rattle.fields.specs.Lists.{up_to, same}
use Rattle.fields.proofs.Lists.{never, le-or-lt, eq-or-not, drop-one, take-up_to}
use Rattle.numbers.specs.Reading.{read_crc}
use Rattle.numbers.proofs.Reading.{crc-below}
use Rattle.lines.specs.Frame.{line_mark, ok_mark, no_mark, stop_frame, display_mark, starts, ends, body, has_hash, marked}

-- ---- Slices compared

and-pick : (a b : Bool) → (a && b) ≡ pick a b false
and-pick true b = refl
and-pick false b = refl

pub same_is : (s t : List ℕ) → pointwise eqb s t ≡ same s t
unfolding same
same_is [] [] = refl
same_is [] (y ∷ t) = refl
same_is (x ∷ s) [] = refl
same_is (x ∷ s) (y ∷ t) = rw (same_is s t) (and-pick (eqb x y) (same s t))

-- the other way round
pub same_by : (s t : List ℕ) → pointwise eqb t s ≡ same s t
unfolding same
same_by [] [] = refl
same_by [] (y ∷ t) = refl
same_by (x ∷ s) [] = refl
same_by (x ∷ s) (y ∷ t) =
    ⊎_elim (λ e. rw (eq-eqb x y e, eq-eqb y x (sym e)) (same_by s t)) (λ n. rw (ne_eqb x y n, ne_eqb y x (λ e. n (sym e)))) (eq-or-not x y)

pub starts_with_is : (m b : List ℕ) → pointwise eqb m (take (length m) b) ≡ starts m b
unfolding starts
starts_with_is m b = same_is m (take (length m) b)

pub stop_is : (b : List ℕ) → pointwise eqb b stop_frame ≡ same stop_frame b
stop_is b = same_by stop_frame b

pub display_starts : (b : List ℕ) → pointwise eqb display_mark (take 4 b) ≡ starts display_mark b
display_starts b = starts_with_is display_mark b

pub line_starts : (b : List ℕ) → pointwise eqb line_mark (take 5 b) ≡ starts line_mark b
line_starts b = starts_with_is line_mark b

pub ok_starts : (b : List ℕ) → pointwise eqb ok_mark (take 4 b) ≡ starts ok_mark b
ok_starts b = starts_with_is ok_mark b

pub no_starts : (b : List ℕ) → pointwise eqb no_mark (take 4 b) ≡ starts no_mark b
no_starts b = starts_with_is no_mark b

-- one byte
only : (x y : ℕ) (s : List ℕ) → s ≡ [] → pointwise eqb (x ∷ s) (y ∷ []) ≡ eqb x y
only x y s e = rw e (go (eqb x y))
  where
    go : (a : Bool) → (a && true) ≡ a
    go true = refl
    go false = refl

pub ends_with_is : (b : List ℕ) → pointwise eqb (drop (length b - 1) b) (13 ∷ []) ≡ ends b
unfolding ends
ends_with_is [] = refl
ends_with_is (c ∷ s) =
    let b = c ∷ s in
    rw (drop-one b (length b - 1) (omega arith)) (only (get_or b (length b - 1) 0) 13 (drop (length b - 1 + 1) b) (drop_of_length-le b (omega arith)))

-- ---- Parts

pub body_is : (b : List ℕ) (k : ℕ) {t : List ℕ} → t ≡ take (length b - 1) b → take (length t) (drop k t) ≡ body k b
unfolding body
body_is b k {t} e =
    take_all (length t) (drop k t) (rw length-drop (omega arith))
    ∙ ap (drop k) e
    ∙ ⊎_elim
    (λ (h : k ≤ length b - 1).
    let n : length b - 1 ≡ k + (length b - (k + 1)) = omega arith in
    ap (λ (i : ℕ). drop k (take i b)) n ∙ drop-take k (length b - (k + 1)) b)
    (λ (h : length b - 1 < k).
    let n : length b - (k + 1) ≡ 0 = omega arith in
    drop_of_length-le (take (length b - 1) b) (rw length-take (omega arith)) ∙ sym (ap (λ (i : ℕ). take i (drop k b)) n))
    (le-or-lt k (length b - 1))

pub field_is : (t : List ℕ) → take (length (up_to 35 t)) t ≡ up_to 35 t
field_is t = take-up_to 35 t (length (up_to 35 t)) refl

pub rest_is : (t : List ℕ) (k : ℕ) → take (length t - k) (drop k t) ≡ drop k t
rest_is t k = take_all (length t - k) (drop k t) (rw length-drop (omega arith))

-- t behind the byte x
pub marked_not : (x : ℕ) (t : List ℕ) → pointwise eqb (take 1 t) (x ∷ []) ≡ false → marked x t ≡ false
unfolding marked has_hash up_to
marked_not x [] h = go (eqb 0 x)
  where
    go : (a : Bool) → pick a false false ≡ false
    go true = refl
    go false = refl
marked_not x (c ∷ t) h = rw (sym (only c x [] refl) ∙ h)

pub marked_by : (x : ℕ) (t : List ℕ) → pointwise eqb (take 1 t) (x ∷ []) ≡ true → marked x t ≡ has_hash (drop 1 t)
unfolding marked
marked_by x [] h = never h
marked_by x (c ∷ t) h = rw (sym (only c x [] refl) ∙ h)

pub crc_fits : (s : List ℕ) (v : ℕ) → read_crc s ≡ Some v → v ≤ 65535
crc_fits s v e = crc-below v s e
