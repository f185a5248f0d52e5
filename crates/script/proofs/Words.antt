-- Words and lines of a script as the pieces that `split` gives. Assumes nothing.
use mathlib.Core.Path.{◌≡◌, refl, sym, ap, ◌∙◌}
use mathlib.Core.Bool.{Bool, true, false, cond}
use mathlib.Core.List.{List, [], ◌∷◌}
use mathlib.Core.Logic.{⊎_elim}
use Prim.Native.Nat.{ℕ, zero, suc, ◌+◌, ◌≤◌, ◌<◌}
use native.Mathlib.Omega.{arith}
use lib.Dec.{leb, eqb}
use lib.ListN.{length, drop}
use borrow.Author.Tests.{le-leb, lt-leb}
use Rattle.std.specs.Prelude.{◌&&◌, Option, None, Some}
use Rattle.std.specs.List.{slice_get, slice_split, onto_first, list_all, range_with_len, find}
use Rattle.std.specs.Option.{unwrap_or, option_map}
use denote.Ref.{Bor}
use Rattle.fields.specs.Pick.{pick}
use Rattle.fields.specs.Lists.{same, up_to}
use Rattle.fields.proofs.Lists.{le-or-lt}
use Rattle.script.specs.Script.{behind, word_of, place_in, line_with, lines_fit}

-- the piece with a number; of no bytes where there is none
abbrev pub entry : ℕ → List (List ℕ) → List ℕ
entry n parts = unwrap_or (slice_get parts n) []

abbrev pub is_space : ℕ → Bool
is_space c = eqb c 32

-- the word with a number of c and what has the words w, where b says whether c is a space
step : Bool → ℕ → ℕ → (ℕ → List ℕ) → List ℕ
step true zero c w = []
step true (suc n) c w = w n
step false zero c w = c ∷ w 0
step false (suc n) c w = w (suc n)

step-same : (b : Bool) (n c : ℕ) (v w : ℕ → List ℕ) → ((k : ℕ) → v k ≡ w k) → step b n c v ≡ step b n c w
unfolding step
step-same true zero c v w e = refl
step-same true (suc n) c v w e = e n
step-same false zero c v w e = ap (λ l. c ∷ l) (e 0)
step-same false (suc n) c v w e = e (suc n)

entry-step : (b : Bool) (n c : ℕ) (parts : List (List ℕ)) → entry n (cond b ([] ∷ parts) (onto_first c parts)) ≡ step b n c (λ k. entry k parts)
unfolding step
entry-step true zero c parts = refl
entry-step true (suc n) c parts = refl
entry-step false zero c [] = refl
entry-step false (suc n) c [] = refl
entry-step false zero c (p ∷ parts) = refl
entry-step false (suc n) c (p ∷ parts) = refl

first-step : (b : Bool) (c : ℕ) (s : List ℕ) → pick b [] (c ∷ up_to 32 s) ≡ step b 0 c (λ k. word_of k s)
unfolding step word_of
first-step true c s = refl
first-step false c s = refl

next-step : (b : Bool) (n c : ℕ) (s : List ℕ)
    → word_of n (drop (length (pick b [] (c ∷ up_to 32 s)) + 1) (c ∷ s)) ≡ step b (suc n) c (λ k. word_of k s)
unfolding step word_of behind
next-step true n c s = refl
next-step false n c s = let e : suc (length (up_to 32 s)) + 1 ≡ suc (length (up_to 32 s) + 1) = omega arith in rw e

word-step : (n c : ℕ) (s : List ℕ) → word_of n (c ∷ s) ≡ step (eqb c 32) n c (λ k. word_of k s)
unfolding word_of behind up_to
word-step zero c s = first-step (eqb c 32) c s
word-step (suc n) c s = next-step (eqb c 32) n c s

word-none : (n : ℕ) → word_of n [] ≡ []
unfolding word_of behind up_to
word-none zero = refl
word-none (suc n) = word-none n

entry-none : (n : ℕ) → entry n ([] ∷ []) ≡ []
entry-none zero = refl
entry-none (suc n) = refl

-- what a reference in an option points to
pub now-or : (r : Option (Bor (List ℕ))) (d : Bor (List ℕ)) → (unwrap_or r d).now ≡ unwrap_or (option_map (λ x. x.now) r) d.now
now-or None d = refl
now-or (Some x) d = refl

pub same-option : (r : Option ℕ) → r ≡ option_map (λ x. x) r
same-option None = refl
same-option (Some x) = refl

-- a word is the piece between two spaces
pub word-is : (n : ℕ) (s : List ℕ) → entry n (slice_split is_space s) ≡ word_of n s
word-is n [] = entry-none n ∙ sym (word-none n)
word-is n (c ∷ s) =
    entry-step (eqb c 32) n c (slice_split is_space s)
    ∙ step-same (eqb c 32) n c (λ k. entry k (slice_split is_space s)) (λ k. word_of k s) (λ k. word-is k s)
    ∙ sym (word-step n c s)

-- the first of k words from the i-th on that is w
pub place-is : (k i d : ℕ) (words w : List ℕ) → d ≡ i + k
    → unwrap_or (find (λ n. same (word_of n words) w) (range_with_len i k)) d ≡ place_in k i words w
unfolding place_in
place-is zero i d words w h = omega arith
place-is (suc k) i d words w h =
    choose (same (word_of i words) w) i (find (λ n. same (word_of n words) w) (range_with_len (i + 1) k)) d (place-is k (i + 1) d words w (omega arith))
  where
    choose : (b : Bool) (i : ℕ) (r : Option ℕ) (d : ℕ) {p : ℕ} → unwrap_or r d ≡ p → unwrap_or (cond b (Some i) r) d ≡ pick b i p
    choose true i r d e = refl
    choose false i r d e = e

-- whether the lines fit, of which the first has n bytes before these
fit : ℕ → List (List ℕ) → Bool
fit n [] = true
fit n (p ∷ parts) = leb (n + length p) 1200 && list_all (λ l. leb (length l) 1200) parts

abbrev pub is_end : ℕ → Bool
is_end c = eqb c 10

abbrev pub is_short : List ℕ → Bool
is_short l = leb (length l) 1200

fit-all : (parts : List (List ℕ)) → list_all is_short parts ≡ fit 0 parts
unfolding fit
fit-all [] = refl
fit-all (p ∷ parts) = let e : 0 + length p ≡ length p = omega arith in rw e

fit-end : (n : ℕ) (parts : List (List ℕ)) → n ≤ 1200 → fit n ([] ∷ parts) ≡ fit 0 parts
unfolding fit
fit-end n [] h = let e : n + 0 ≤ 1200 = omega arith in rw (le-leb (n + 0) 1200 e)
fit-end n (p ∷ parts) h = let e : n + 0 ≤ 1200 = omega arith in rw (le-leb (n + 0) 1200 e) (fit-all (p ∷ parts))

fit-byte : (n c : ℕ) (parts : List (List ℕ)) → n + 1 ≤ 1200 → fit n (onto_first c parts) ≡ fit (n + 1) parts
unfolding fit
fit-byte n c [] h = rw (le-leb (n + 1) 1200 h)
fit-byte n c (p ∷ parts) h = let e : n + suc (length p) ≡ n + 1 + length p = omega arith in rw e

fit-over : (n c : ℕ) (parts : List (List ℕ)) → 1200 < n + 1 → fit n (onto_first c parts) ≡ false
unfolding fit
fit-over n c [] h = rw (lt-leb (n + 1) 1200 h)
fit-over n c (p ∷ parts) h = let e : 1200 < n + suc (length p) = omega arith in rw (lt-leb (n + suc (length p)) 1200 e)

fit-step : (b : Bool) (n c : ℕ) (s : List ℕ) (parts : List (List ℕ)) → n ≤ 1200 → ((m : ℕ) → m ≤ 1200 → fit m parts ≡ lines_fit m s)
    → fit n (cond b ([] ∷ parts) (onto_first c parts)) ≡ pick (leb (pick b 0 (n + 1)) 1200) (lines_fit (pick b 0 (n + 1)) s) false
fit-step true n c s parts h f = fit-end n parts h ∙ f 0 (omega arith)
fit-step false n c s parts h f =
    ⊎_elim
    (λ (g : n + 1 ≤ 1200). rw (le-leb (n + 1) 1200 g) (fit-byte n c parts g ∙ f (n + 1) g))
    (λ (g : 1200 < n + 1). rw (lt-leb (n + 1) 1200 g) (fit-over n c parts g))
    (le-or-lt (n + 1) 1200)

fits : (n : ℕ) (s : List ℕ) → n ≤ 1200 → fit n (slice_split is_end s) ≡ lines_fit n s
unfolding fit lines_fit line_with
fits n [] h = let e : n + 0 ≤ 1200 = omega arith in rw (le-leb (n + 0) 1200 e)
fits n (c ∷ s) h = fit-step (eqb c 10) n c s (slice_split is_end s) h (λ m g. fits m s g)

-- no piece between two line ends is longer than a line may be
pub lines-fit-is : (s : List ℕ) → list_all is_short (slice_split is_end s) ≡ lines_fit 0 s
lines-fit-is s = fit-all (slice_split is_end s) ∙ fits 0 s (omega arith)
