-- Marks, the final `\r`, and fields with `#` between them: taken apart and put together. Assumes nothing.
use mathlib.Core.Path.{◌≡◌, refl, sym, ap, ◌∙◌}
use mathlib.Core.Bool.{Bool, true, false}
use mathlib.Core.List.{List, [], ◌∷◌, ◌++◌, append-nil}
use Prim.Native.Nat.{ℕ, suc, ◌+◌, ◌-◌, ◌≤◌}
use native.Mathlib.Omega.{arith}
use lib.ListN.{length, get_or, take, drop, length-append, length-drop, take-append-drop, drop_of_length-le}
use lib.Seq.{split_at, take-append_seam, get_or-append_seam, get_or-append-add, get_or_at, take_at, drop_at}
use lib.Dec.{eqb}
use borrow.Author.Tests.{lt-ltb, le-ltb, ltb-true, eq-eqb, ne_eqb, eqb-true}
use Rattle.fields.specs.Pick.{pick}
use Rattle.fields.specs.Lists.{bytes_at, up_to}
use Rattle.fields.proofs.Lists.{never, same-eq, up_to-cut, cut-before, cut_inside, cut-behind}
use Rattle.lines.specs.Frame.{starts, ends, body, has_hash, behind, marked, has_resume, stamp_digits}
use Rattle.lines.specs.Element.{resume_mark}

-- ---- Marks and the final `\r`

pub starts_is : (m b : List ℕ) → starts m b ≡ true → b ≡ m ++ drop (length m) b
unfolding starts
starts_is m b h =
    sym (ap (λ (l : List ℕ). l ++ drop (length m) b) (same-eq m (take (length m) b) h) ∙ take-append-drop (length m) b)

pub ends-back : (p : List ℕ) → ends (p ++ (13 ∷ [])) ≡ true
unfolding ends
ends-back p =
    let n : length (p ++ (13 ∷ [])) - 1 ≡ length p = simp length-append (omega arith) in
    rw (n, get_or-append_seam p 13 [] 0)

pub body_back : (m t : List ℕ) (k : ℕ) → length m ≡ k → body k (m ++ (t ++ (13 ∷ []))) ≡ t
unfolding body
body_back m t k e =
    let n : length (m ++ (t ++ (13 ∷ []))) - (k + 1) ≡ length t = simp length-append (omega arith) in
    rw (n, drop_at m (t ++ (13 ∷ [])) k e) (take-append_seam t (13 ∷ []))

snoc-last : (u : List ℕ) → 1 ≤ length u → u ≡ take (length u - 1) u ++ (get_or u (length u - 1) 0 ∷ [])
snoc-last u h =
    split_at u (length u - 1) 0 (omega arith)
    ∙ ap (λ (l : List ℕ). take (length u - 1) u ++ (get_or u (length u - 1) 0 ∷ l)) (drop_of_length-le u {i = suc (length u - 1)} (omega arith))

-- behind a mark that does not itself end with `\r`
ends-behind : (m u : List ℕ) → ends m ≡ false → ends (m ++ u) ≡ true → u ≡ take (length u - 1) u ++ (13 ∷ [])
unfolding ends
ends-behind m [] n e = never (sym n ∙ (rw (append-nil m) at e))
ends-behind m (c ∷ u) n e =
    let k : length (m ++ (c ∷ u)) - 1 ≡ length m + (length (c ∷ u) - 1) = simp length-append (omega arith) in
    let g : get_or (c ∷ u) (length (c ∷ u) - 1) 0 ≡ 13 =
    sym (get_or-append-add m (c ∷ u) (length (c ∷ u) - 1) 0) ∙ eqb-true _ 13 (rw k at e) in
    snoc-last (c ∷ u) (omega arith) ∙ ap (λ (x : ℕ). take (length (c ∷ u) - 1) (c ∷ u) ++ (x ∷ [])) g

pub framed : (m b : List ℕ) → ends m ≡ false → starts m b ≡ true → ends b ≡ true → b ≡ m ++ (body (length m) b ++ (13 ∷ []))
unfolding body
framed m b n h e =
    let u = drop (length m) b in
    let s = starts_is m b h in
    let l : length u - 1 ≡ length b - (length m + 1) = simp length-drop (omega arith) in
    let q = ends-behind m u n (sym (ap ends s) ∙ e) in
    s ∙ ap (λ (x : List ℕ). m ++ x) (q ∙ ap (λ (i : ℕ). take i u ++ (13 ∷ [])) l)

-- the bytes before the final `\r`, of which p stands before them
pub last-place : (b p t : List ℕ) → b ≡ p ++ (t ++ (13 ∷ [])) → bytes_at b (record { start = length b - 1 - length t; len = length t }) ≡ t
last-place b p t e =
    let n : length (p ++ (t ++ (13 ∷ []))) - 1 - length t ≡ length p = simp length-append (omega arith) in
    rw (e, n, drop_at p (t ++ (13 ∷ [])) (length p) refl) (take-append_seam t (13 ∷ []))

-- ---- Fields with `#` between them

module _ (a b : List ℕ) (free : up_to 35 a ≡ a) where
  pub hash-yes : has_hash (a ++ (35 ∷ b)) ≡ true
  unfolding has_hash
  hash-yes = rw (cut-before 35 a b free) (lt-ltb _ _ (cut_inside 35 a b))

  pub behind-cut : behind (a ++ (35 ∷ b)) ≡ b
  unfolding behind
  behind-cut = rw (cut-before 35 a b free) (cut-behind 35 a b)

  pub marked-cut : (x : ℕ) → marked x (x ∷ (a ++ (35 ∷ b))) ≡ true
  unfolding marked
  marked-cut x = rw (eq-eqb x x refl) hash-yes

pub hash-no : (t : List ℕ) → up_to 35 t ≡ t → has_hash t ≡ false
unfolding has_hash
hash-no t free = rw free (le-ltb (length t) (length t) (omega arith))

pub hash-split : (t : List ℕ) → has_hash t ≡ true → t ≡ up_to 35 t ++ (35 ∷ behind t)
unfolding has_hash behind
hash-split t h = up_to-cut 35 t (ltb-true _ _ h)

none : {A : Type 0} (b : Bool) → pick b (has_hash []) false ≡ true → A
unfolding has_hash up_to
none true e = never e
none false e = never e

pub marked-split : (x : ℕ) (t : List ℕ) → marked x t ≡ true → t ≡ x ∷ (up_to 35 (drop 1 t) ++ (35 ∷ behind (drop 1 t)))
unfolding marked
marked-split x [] h = none (eqb 0 x) h
marked-split x (c ∷ s) h = go (eqb c x) refl h
  where
    go : (b : Bool) → eqb c x ≡ b → pick b (has_hash s) false ≡ true → c ∷ s ≡ x ∷ (up_to 35 s ++ (35 ∷ behind s))
    go true q e = let i = eqb-true c x q in let j = hash-split s e in cc
    go false q e = never e

-- ---- The stamp and `?`

module _ (stamp : List ℕ) (eight : length stamp ≡ 8) where
  pub resume-back : (r : Bool) → has_resume (stamp ++ resume_mark r) ≡ r
  unfolding has_resume
  resume-back true =
      let l : length (stamp ++ (63 ∷ [])) ≡ 9 = simp length-append (omega arith) in
      rw (eq-eqb _ 9 l, get_or_at stamp 63 [] 0 8 eight)
  resume-back false =
      let l : length (stamp ++ []) ≡ 9 → ⊥ = λ e. omega (arith, simp length-append at e) in
      rw (ne_eqb _ 9 l)

  pub digits-back : (r : Bool) → stamp_digits (stamp ++ resume_mark r) ≡ stamp
  unfolding stamp_digits
  digits-back true = rw (resume-back true) (take_at stamp (63 ∷ []) 8 eight)
  digits-back false = rw (resume-back false) (append-nil stamp)

pub field-split : (s : List ℕ) → s ≡ stamp_digits s ++ resume_mark (has_resume s)
unfolding has_resume stamp_digits
field-split s = go (eqb (length s) 9) refl (eqb (get_or s 8 0) 63) refl
  where
    go : (b : Bool) → eqb (length s) 9 ≡ b → (d : Bool) → eqb (get_or s 8 0) 63 ≡ d → s ≡ stamp_digits s ++ resume_mark (has_resume s)
    go true p true q =
        let l = eqb-true (length s) 9 p in
        let c = eqb-true (get_or s 8 0) 63 q in
        rw (p, q) (split_at s 8 0 (omega arith) ∙ ap (λ (x : List ℕ). take 8 s ++ (get_or s 8 0 ∷ x)) (drop_of_length-le s {i = 9} (omega arith)) ∙ ap (λ (x : ℕ). take 8 s ++ (x ∷ [])) c)
    go true p false q = rw (p, q) (sym (append-nil s))
    go false p d q = rw p (sym (append-nil s))
