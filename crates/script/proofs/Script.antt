-- Laws of a script's bytes: what one turn of `decode` lays down, and the end. Assumes nothing.
use mathlib.Core.Path.{◌≡◌, refl, sym, ap, ◌∙◌}
use mathlib.Core.List.{List, [], ◌∷◌, ◌++◌}
use mathlib.Core.Logic.{⊎_elim}
use Prim.Native.Nat.{ℕ, ◌+◌, ◌-◌, ◌≤◌, ◌<◌, zero-le}
use native.Mathlib.Nat.{add-zero, zero-add}
use native.Mathlib.Omega.{arith}
use lib.ListN.{length, take, drop, get_or, length-append, length-drop, take-append-drop, drop_of_length-le}
use borrow.Author.Tests.{le-leb, eq-eqb, ne_eqb}
use Rattle.fields.specs.Buffer.{over, appended, appended_end}
use Rattle.fields.proofs.Lists.{eq-or-not, drop-one}
use Rattle.fields.proofs.Buffer.{append-fits, over-over, length_over}
use Rattle.script.specs.Script.{byte_of, first_of, left_behind, decoded, decoded_count, decoded_into}

-- nothing is laid down
pub over_nothing : (n : ℕ) (d : List ℕ) → over n [] d ≡ d
unfolding over
over_nothing n d = rw (add-zero n) (take-append-drop n d)

pub first_one : (left : ℕ) (s : List ℕ) → left ≡ 0 → first_of left s ≡ byte_of s ∷ []
unfolding first_of
first_one left s e = rw (eq-eqb left 0 e)

pub first-none : (left : ℕ) (s : List ℕ) → (left ≡ 0 → ⊥) → first_of left s ≡ []
unfolding first_of
first-none left s e = rw (ne_eqb left 0 e)

first_short : (left : ℕ) (s : List ℕ) → length (first_of left s) ≤ 1
first_short left s = ⊎_elim (λ e. rw (first_one left s e) (omega arith)) (λ e. rw (first-none left s e) (omega arith)) (eq-or-not left 0)

decoded-short : (left : ℕ) (s : List ℕ) → length (decoded left s) ≤ length s
unfolding decoded
decoded-short left [] = omega arith
decoded-short left (c ∷ s) = simp length-append (omega (arith, first_short left (take 3 (c ∷ s)), decoded-short (left_behind left c) s))

-- What `decode` has after i bytes of s: n bytes of them laid into d, which has become e, and left bytes that belong to the last of them
pub record Decoding (s d e : List ℕ) (i n left : ℕ) : Type 0 where
  pub inside : i ≤ length s
  pub room : length s ≤ length d
  pub behind : n ≤ i
  pub same_length : length e ≡ length d
  pub count : n + length (decoded left (drop i s)) ≡ length (decoded 0 s)
  pub bytes : over n (decoded left (drop i s)) e ≡ over 0 (decoded 0 s) d

pub decoding-start : (s d : List ℕ) → length s ≤ length d → Decoding s d d 0 0 0
decoding-start s d h = record { inside = zero-le; room = h; behind = zero-le; same_length = refl; count = zero-add (length (decoded 0 s)); bytes = refl }

pub decoding-more : (s d e e' t : List ℕ) (i n left n' left' : ℕ) → Decoding s d e i n left → i < length s → t ≡ take 3 (drop i s)
    → (n' ≡ appended_end n (first_of left t) e) × (e' ≡ appended n (first_of left t) e) → left' ≡ left_behind left (get_or s i 0)
    → Decoding s d e' (i + 1) n' left'
unfolding decoded
decoding-more s d e e' t i n left n' left' g h p q r =
    let bs = first_of left t in
    let rest = decoded left' (drop (i + 1) s) in
    let turn : decoded left (drop i s) ≡ bs ++ rest = rw (p, r) (rw (drop-one s i h)) in
    let one = first_short left t in
    let few : length rest ≤ length s - (i + 1) = rw (length-drop (i + 1) s) at (decoded-short left' (drop (i + 1) s)) in
    let fits = append-fits n bs e (omega (arith, one, g.behind, g.room, g.same_length, h)) in
    let count : n' ≡ n + length bs = q.0 ∙ sym fits.0 in
    let laid : e' ≡ over n bs e = q.1 ∙ sym fits.1 in
    let long : length e' ≡ length e = ap length laid ∙ length_over n bs e (omega (arith, one, g.behind, g.room, g.same_length, h)) in
    let total : n + (length bs + length rest) ≡ length (decoded 0 s) = rw (turn, length-append) at g.count in
    record {
      inside = omega arith;
      room = g.room;
      behind = omega (arith, one, g.behind, count);
      same_length = long ∙ g.same_length;
      count = omega (arith, total, count);
      bytes =
          ap (over n' rest) laid
          ∙ over-over n n' bs rest e (omega (arith, count)) (omega (arith, count, one, few, g.behind, g.room, g.same_length, h))
          ∙ sym (ap (λ (l : List ℕ). over n l e) turn) ∙ g.bytes;
    }

pub decoding-end : (s d e : List ℕ) (i n left : ℕ) → Decoding s d e i n left → length s ≤ i → (n ≡ decoded_count s d) × (e ≡ decoded_into s d)
unfolding decoded decoded_count decoded_into
decoding-end s d e i n left g h =
    let none : decoded left (drop i s) ≡ [] = rw (drop_of_length-le s h) in
    let count : n + 0 ≡ length (decoded 0 s) = rw none at g.count in
    let bytes : over n [] e ≡ over 0 (decoded 0 s) d = rw none at g.bytes in
    (rw (le-leb (length s) (length d) g.room) (sym (add-zero n) ∙ count), rw (le-leb (length s) (length d) g.room) (sym (over_nothing n e) ∙ bytes))
