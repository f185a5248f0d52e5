-- Laws of the words about lists. A loop over a slice cites the law of one turn, at the place i of the list s, and that of the end.
-- Assumes nothing.
use mathlib.Core.Path.{◌≡◌, refl, sym, ap, ◌∙◌}
use mathlib.Core.Bool.{Bool, true, false, not, ◌&&◌, cond, false≢true}
use mathlib.Core.Logic.{◌⊎◌, inl, inr, ⊎_elim}
use mathlib.Core.List.{List, [], ◌∷◌, ◌++◌, append-nil}
use Prim.Native.Nat.{ℕ, zero, suc, ◌+◌, ◌-◌, ◌≤◌, ◌<◌, zero-le, suc-le-suc}
use native.Mathlib.Numerals.{add-one}
use native.Mathlib.Omega.{arith}
use lib.ListN.{length, take, drop, get_or, length-append, length-take, length-drop, drop_of_length-le}
use lib.Seq.{drop-cons, drop-append-add, take_all, take-nil}
use lib.Dec.{leb, ltb, eqb}
use borrow.Author.Tests.{le-leb, leb-true, eq-eqb, ne_eqb, eqb-true, eqb-false, ltb-false}
use lib.Pointwise.{pointwise}
use Rattle.std.specs.Prelude.{Option, Some, None}
use Rattle.std.specs.Option.{unwrap_or}
use Rattle.std.specs.List.{list_all, position, position_or_len}
use Rattle.fields.specs.Pick.{pick}
use Rattle.fields.specs.Lists.{all, up_to, same}
use Rattle.fields.specs.Name.{is_name_byte, is_name}

pub le-or-lt : (a b : ℕ) → (a ≤ b) ⊎ (b < a)
le-or-lt zero b = inl zero-le
le-or-lt (suc a) zero = inr (suc-le-suc zero-le)
le-or-lt (suc a) (suc b) = ⊎_elim (λ p. inl (suc-le-suc p)) (λ q. inr (suc-le-suc q)) (le-or-lt a b)

pub eq-or-not : (a b : ℕ) → (a ≡ b) ⊎ (a ≡ b → ⊥)
eq-or-not a b = go (eqb a b) refl
  where
    go : (t : Bool) → eqb a b ≡ t → (a ≡ b) ⊎ (a ≡ b → ⊥)
    go true e = inl (eqb-true a b e)
    go false e = inr (eqb-false a b e)

pub never : {A : Type 0} → false ≡ true → A
never e = absurd (false≢true e)

pub both : (a b : Bool) → (a && b) ≡ true → (a ≡ true) × (b ≡ true)
both true b h = (refl, h)
both false b h = never h

-- what holds of both answers of a test holds of the answer
pub either : {A : Type 0} (P : A → Type 0) (b : Bool) (x y : A) → (b ≡ true → P x) → (b ≡ false → P y) → P (pick b x y)
either P true x y f g = f refl
either P false x y f g = g refl

-- what a loop passes
pub drop-one : (s : List ℕ) (i : ℕ) → i < length s → drop i s ≡ get_or s i 0 ∷ drop (i + 1) s
drop-one s i h = rw add-one (drop-cons s i 0 h)

-- what the code's `&s[a..]` is
pub tail-is : (s : List ℕ) (a : ℕ) → take (length s - a) (drop a s) ≡ drop a s
tail-is s a = take_all (length s - a) (drop a s) (rw length-drop (omega arith))

-- nothing stands past the end
pub part_none : (s : List ℕ) (a n : ℕ) → length s < a → take 0 s ≡ take n (drop a s)
part_none s a n h = sym (ap (take n) (drop_of_length-le s {i = a} (omega arith)) ∙ take-nil n)

-- two elements that are equal, two that are not, and the end
module _ (s t : List ℕ) (i : ℕ) (h : i < length s) (g : i < length t) where
  pub same_more : get_or s i 0 ≡ get_or t i 0 → same (drop i s) (drop i t) ≡ same (drop (i + 1) s) (drop (i + 1) t)
  unfolding same
  same_more e = rw (drop-one s i h, drop-one t i g, eq-eqb (get_or s i 0) (get_or t i 0) e)

  pub same_not : (get_or s i 0 ≡ get_or t i 0 → ⊥) → same (drop i s) (drop i t) ≡ false
  unfolding same
  same_not e = rw (drop-one s i h, drop-one t i g, ne_eqb (get_or s i 0) (get_or t i 0) e)

pub same_end : (s t : List ℕ) (i : ℕ) → length s ≤ i → length t ≤ i → same (drop i s) (drop i t) ≡ true
unfolding same
same_end s t i h g = rw (drop_of_length-le s h, drop_of_length-le t g)

-- what `==` of slices answers
pub same_pointwise : (s t : List ℕ) → pointwise eqb s t ≡ same s t
unfolding same
same_pointwise [] [] = refl
same_pointwise [] (y ∷ t) = refl
same_pointwise (x ∷ s) [] = refl
same_pointwise (x ∷ s) (y ∷ t) = go (eqb x y) (same_pointwise s t)
  where
    go : (b : Bool) {p q : Bool} → p ≡ q → (b && p) ≡ pick b q false
    go true e = e
    go false e = refl

pub same_refl : (s : List ℕ) → same s s ≡ true
unfolding same
same_refl [] = refl
same_refl (x ∷ s) = rw (eq-eqb x x refl) (same_refl s)

pub same-eq : (s t : List ℕ) → same s t ≡ true → s ≡ t
unfolding same
same-eq [] [] h = refl
same-eq [] (y ∷ t) h = never h
same-eq (x ∷ s) [] h = never h
same-eq (x ∷ s) (y ∷ t) h =
    ⊎_elim (λ e. let q = same-eq s t (rw (eq-eqb x y e) at h) in cc)
    (λ e. never (rw (ne_eqb x y e) at h))
    (eq-or-not x y)

pub same_length : (s t : List ℕ) → (length s ≡ length t → ⊥) → same s t ≡ false
same_length s t h = go (same s t) refl
  where
    go : (b : Bool) → same s t ≡ b → b ≡ false
    go true e = absurd (h (ap length (same-eq s t e)))
    go false e = refl

-- the bytes before the first x: an x, and any other byte
pub up_to-here : (x c : ℕ) (s : List ℕ) → c ≡ x → up_to x (c ∷ s) ≡ []
unfolding up_to
up_to-here x c s e = rw (eq-eqb c x e)

pub up_to-next : (x c : ℕ) (s : List ℕ) → (c ≡ x → ⊥) → up_to x (c ∷ s) ≡ c ∷ up_to x s
unfolding up_to
up_to-next x c s h = rw (ne_eqb c x h)

-- what `position` answers
pub position-up_to : (x : ℕ) (s : List ℕ) → position_or_len (λ c. eqb c x) s ≡ length (up_to x s)
unfolding up_to
position-up_to x [] = refl
position-up_to x (c ∷ s) = go (eqb c x) (position-up_to x s)
  where
    go : (b : Bool) {m : ℕ} → m ≡ length (up_to x s) → cond (not b) (1 + m) 0 ≡ length (pick b [] (c ∷ up_to x s))
    go true e = refl
    go false e = omega (arith, e)

pub take-up_to : (x : ℕ) (s : List ℕ) (n : ℕ) → n ≡ length (up_to x s) → take n s ≡ up_to x s
unfolding up_to
take-up_to x s n e = ap (λ (k : ℕ). take k s) e ∙ front s
  where
    front : (s : List ℕ) → take (length (up_to x s)) s ≡ up_to x s
    front [] = refl
    front (c ∷ s) = ⊎_elim (λ h. rw (up_to-here x c s h)) (λ h. rw (up_to-next x c s h) (ap (λ (l : List ℕ). c ∷ l) (front s))) (eq-or-not c x)

pub up_to-le : (x : ℕ) (s : List ℕ) → length (up_to x s) ≤ length s
up_to-le x s = omega (arith, simp length-take at (ap length (take-up_to x s (length (up_to x s)) refl)))

-- what `position` with `unwrap_or` answers
pub find-is : (x : ℕ) (s : List ℕ) (r : Option ℕ) (n : ℕ) → r ≡ position (λ c. eqb c x) s → n ≡ unwrap_or r (length s)
    → (n ≡ length (up_to x s)) × (n ≤ length s)
find-is x s r n q e =
    let m = length (up_to x s) in
    let w : n ≡ unwrap_or (cond (ltb m (length s)) (Some m) None) (length s) =
    rw (position-up_to x s) at (e ∙ ap (λ (o : Option ℕ). unwrap_or o (length s)) q) in
    let h : n ≡ m = go m (length s) (ltb m (length s)) refl w (up_to-le x s) in
    (h, omega (arith, h, up_to-le x s))
  where
    go : (m k : ℕ) (b : Bool) → ltb m k ≡ b → n ≡ unwrap_or (cond b (Some m) None) k → m ≤ k → n ≡ m
    go m k true t w u = w
    go m k false t w u = omega (arith, w, ltb-false m k t)

-- something is cut
pub up_to-cut : (x : ℕ) (s : List ℕ) → length (up_to x s) < length s → s ≡ up_to x s ++ (x ∷ drop (length (up_to x s) + 1) s)
unfolding up_to
up_to-cut x [] h = absurd (omega arith)
up_to-cut x (c ∷ s) h =
    ⊎_elim (λ e. rw (up_to-here x c s e) (ap (λ (y : ℕ). y ∷ s) e))
    (λ e.
    let g : length (c ∷ up_to x s) < suc (length s) = rw (up_to-next x c s e) at h in
    let r = up_to-cut x s (omega arith) in
    rw (up_to-next x c s e, add-one) (ap (λ (l : List ℕ). c ∷ l) (rw add-one at r)))
    (eq-or-not c x)

-- a has no x
free-head : (x c : ℕ) (a : List ℕ) → up_to x (c ∷ a) ≡ c ∷ a → c ≡ x → ⊥
free-head x c a h e = let n = sym (up_to-here x c a e) ∙ h in let z : ◌≡◌ {A = ℕ} 0 1 = cc in omega arith

pub up_to-append : (x : ℕ) (a b : List ℕ) → up_to x a ≡ a → up_to x (a ++ b) ≡ a ++ up_to x b
up_to-append x [] b h = refl
up_to-append x (c ∷ a) b h =
    let n = free-head x c a h in
    let q = sym (up_to-next x c a n) ∙ h in
    let r : up_to x a ≡ a = cc in
    up_to-next x c (a ++ b) n ∙ ap (λ (l : List ℕ). c ∷ l) (up_to-append x a b r)

pub free_snoc : (x c : ℕ) (a : List ℕ) → up_to x a ≡ a → (c ≡ x → ⊥) → up_to x (a ++ (c ∷ [])) ≡ a ++ (c ∷ [])
unfolding up_to
free_snoc x c a h n = up_to-append x a (c ∷ []) h ∙ ap (λ (l : List ℕ). a ++ l) (up_to-next x c [] n)

-- a, which has no x, and an x behind it
module _ (x : ℕ) (a b : List ℕ) where
  pub cut-before : up_to x a ≡ a → up_to x (a ++ (x ∷ b)) ≡ a
  cut-before h = up_to-append x a (x ∷ b) h ∙ rw (up_to-here x x b refl) (append-nil a)

  pub cut_inside : length a < length (a ++ (x ∷ b))
  cut_inside = simp length-append (omega arith)

  pub cut-behind : drop (length a + 1) (a ++ (x ∷ b)) ≡ b
  cut-behind = drop-append-add a (x ∷ b) 1

-- an element that passes, and the end
pub all_more : (f : ℕ → Bool) (s : List ℕ) (i : ℕ) → i < length s → f (get_or s i 0) ≡ true → all f (drop (i + 1) s) ≡ all f (drop i s)
unfolding all
all_more f s i h e = sym (rw (add-one, drop-cons s i 0 h, e))

pub all_end : (f : ℕ → Bool) (s : List ℕ) (i : ℕ) → length s ≤ i → true ≡ all f (drop i s)
unfolding all
all_end f s i h = sym (ap (all f) (drop_of_length-le s h))

-- what `all` answers
pub all-list_all : (f : ℕ → Bool) (s : List ℕ) → list_all f s ≡ all f s
unfolding all
all-list_all f [] = refl
all-list_all f (x ∷ s) = rw (all-list_all f s)

pub name-is : (s : List ℕ) (b : Bool) → 1 ≤ length s → length s ≤ 64 → b ≡ list_all is_name_byte s → b ≡ is_name s
unfolding is_name
name-is s b h g e = simp (le-leb 1 (length s) h, le-leb (length s) 64 g) (e ∙ all-list_all is_name_byte s)

pub all_append : (f : ℕ → Bool) (a b : List ℕ) → all f a ≡ true → all f b ≡ true → all f (a ++ b) ≡ true
unfolding all
all_append f [] b h g = g
all_append f (c ∷ a) b h g = let p = both (f c) (all f a) h in rw p.0 (all_append f a b p.1 g)

pub all-up_to : (f : ℕ → Bool) (x : ℕ) (s : List ℕ) → f x ≡ false → all f s ≡ true → up_to x s ≡ s
unfolding all up_to
all-up_to f x [] n h = refl
all-up_to f x (c ∷ s) n h =
    let p = both (f c) (all f s) h in
    let g : c ≡ x → ⊥ = λ e. let q = ap f e in let z : ◌≡◌ {A = ℕ} 0 1 = cc in omega arith in
    up_to-next x c s g ∙ ap (λ (l : List ℕ). c ∷ l) (all-up_to f x s n p.1)

-- a file name is short, and free of every byte that no name has
pub name-length : (s : List ℕ) → is_name s ≡ true → (1 ≤ length s) × (length s ≤ 64)
unfolding is_name
name-length s h =
    let p = both (leb 1 (length s)) _ h in
    (leb-true 1 (length s) p.0, leb-true (length s) 64 (both (leb (length s) 64) _ p.1).0)

pub name_free : (x : ℕ) (s : List ℕ) → is_name_byte x ≡ false → is_name s ≡ true → up_to x s ≡ s
unfolding is_name
name_free x s n h = all-up_to is_name_byte x s n (both (leb (length s) 64) _ (both (leb 1 (length s)) _ h).1).1
