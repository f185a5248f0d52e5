-- The laws of `span`: what more bytes behind change, and what fewer do.
-- Assumes nothing.
use mathlib.Core.Path.{◌≡◌, refl, ap, sym, ◌∙◌}
use mathlib.Core.Bool.{Bool, true, false}
use mathlib.Core.Logic.{◌⊎◌, inl, inr, ⊎_elim}
use mathlib.Core.List.{List, [], ◌++◌}
use Prim.Native.Nat.{ℕ, ◌+◌, ◌≤◌, ◌<◌}
use native.Mathlib.Omega.{arith}
use lib.ListN.{length, get_or, take, drop, length-append, get_or-append, take-append-drop}
use lib.Seq.{length-take-le}
use lib.Dec.{leb, eqb}
use borrow.Author.Tests.{eqb-true, eqb-false, leb-true, leb-false, le-leb, lt-leb, eq-eqb, ne_eqb}
use Rattle.packets.specs.declared.spans.Span.{Span}
use Rattle.packets.specs.declared.spans.Span.TheVariants.{Open, Whole, Drop}
use Rattle.fields.specs.Pick.{pick}
use Rattle.packets.specs.Span.{known, paired, counted, data_length, total, span_at, span, size_of}
use Rattle.packets.proofs.Bounds.{data-length}

-- A length that does not depend on the third byte; b is the second.
pub record Fixed (b : ℕ) (f : ℕ → ℕ) : Type 0 where
  pub bytes : ℕ
  pub same : (d : ℕ) → f d ≡ bytes
  pub least : 2 ≤ bytes
  pub most : b < 256 → bytes ≤ 259

-- A packet's length is such a one, unless it is an RI's.
abbrev View : ℕ → (ℕ → ℕ) → Type 0
View b f = Fixed b f ⊎ ((d : ℕ) → f d ≡ 3 + d)

fixed : (b n : ℕ) → 2 ≤ n → (b < 256 → n ≤ 259) → View b (λ d. n)
fixed b n l m = inl (record { bytes = n; same = λ d. refl; least = l; most = m })

or : (b : ℕ) (e : Bool) (f g : ℕ → ℕ) → View b f → View b g → View b (λ d. pick e (f d) (g d))
or b true f g p q = p
or b false f g p q = q

pub total-view : (k : Bool) (a b : ℕ) → Fixed b (total k a b) ⊎ ((d : ℕ) → total k a b d ≡ 3 + d)
unfolding total
total-view k a b =
    or b (counted a) _ _ (fixed b (2 + b) (omega arith) (omega arith))
    (or b (eqb a 2) _ _
    (or b k _ _ (fixed b (data_length b + 3) (omega arith) (λ h. omega (arith, data-length b h)))
    (fixed b (data_length b + 2) (omega arith) (λ h. omega (arith, data-length b h))))
    (or b (eqb a 5) _ _ (or b (eqb b 2) _ _ (inr (λ d. refl)) (fixed b 2 (omega arith) (omega arith))) (fixed b 2 (omega arith) (omega arith))))

pub total-least : (k : Bool) (a b d : ℕ) → 2 ≤ total k a b d
total-least k a b d = ⊎_elim (λ f. omega (arith, f.same d)) (λ f. omega (arith, f d)) (total-view k a b)

pub total-most : (k : Bool) (a b d : ℕ) → b < 256 → d < 256 → total k a b d ≤ 259
total-most k a b d hb hd = ⊎_elim (λ f. omega (arith, f.same d, f.most hb)) (λ f. omega (arith, f d)) (total-view k a b)

-- Where n bytes are at hand and the third byte matters only from three on, either the length is known already, or it is past n.
third : (k : Bool) (n a b d d' : ℕ) → (2 < n → d' ≡ d) → 2 ≤ n
    → (total k a b d' ≡ total k a b d) ⊎ ((n < total k a b d) × (n < total k a b d'))
third k n a b d d' h two = ⊎_elim (λ f. inl (f.same d' ∙ sym (f.same d))) (λ f. go f (leb 3 n) refl) (total-view k a b)
  where
    go : ((x : ℕ) → total k a b x ≡ 3 + x) → (e : Bool) → leb 3 n ≡ e
        → (total k a b d' ≡ total k a b d) ⊎ ((n < total k a b d) × (n < total k a b d'))
    go f true p = inl (ap (total k a b) (h (leb-true 3 n p)))
    go f false p = inr (omega (arith, leb-false 3 n p, f d), omega (arith, leb-false 3 n p, f d'))

-- Of two answers, about n bytes and about as many or more that begin the same: they are equal and closed within n,
-- or the first is still open and the second goes past n.
abbrev pub Grown : ℕ → Span → Span → Type 0
Grown n x y = ((y ≡ x) × (size_of x ≤ n)) ⊎ ((x ≡ Open) × (n < size_of y))

grown-same : (n : ℕ) (x y v : Span) → x ≡ v → y ≡ v → size_of v ≤ n → Grown n x y
grown-same n x y v p q h = inl (q ∙ sym p, rw p h)

grown-past : (n : ℕ) (x y v : Span) → x ≡ Open → y ≡ v → n < size_of v → Grown n x y
grown-past n x y v p q h = inr (p, rw q h)

-- The five tests of `span`, one law each.
module _ (k : Bool) (n a b d : ℕ) where
  pub at_none : n ≡ 0 → span_at k n a b d ≡ Open
  unfolding span_at
  at_none h = simp (eq-eqb n 0 h)

  pub at-unknown : 0 < n → known a ≡ false → span_at k n a b d ≡ Drop 1
  unfolding span_at
  at-unknown h p = simp (ne_eqb n 0 (omega arith), p)

  pub at_one : n ≡ 1 → known a ≡ true → span_at k n a b d ≡ Open
  unfolding span_at
  at_one h p = simp (ne_eqb n 0 (omega arith), p, eq-eqb n 1 h)

  pub at-wrong : 1 < n → known a ≡ true → paired a b ≡ false → span_at k n a b d ≡ Drop 2
  unfolding span_at
  at-wrong h p q = simp (ne_eqb n 0 (omega arith), p, ne_eqb n 1 (omega arith), q)

  pub at-whole : 1 < n → known a ≡ true → paired a b ≡ true → total k a b d ≤ n → span_at k n a b d ≡ Whole (total k a b d)
  unfolding span_at
  at-whole h p q r = simp (ne_eqb n 0 (omega arith), p, ne_eqb n 1 (omega arith), q, le-leb (total k a b d) n r)

  pub at-short : 1 < n → known a ≡ true → paired a b ≡ true → n < total k a b d → span_at k n a b d ≡ Open
  unfolding span_at
  at-short h p q r = simp (ne_eqb n 0 (omega arith), p, ne_eqb n 1 (omega arith), q, lt-leb (total k a b d) n r)

-- Which of the five holds.
pub data Case (k : Bool) (n a b d : ℕ) : Type 0 where
  none : n ≡ 0 → Case k n a b d
  unknown : 0 < n → known a ≡ false → Case k n a b d
  one : n ≡ 1 → known a ≡ true → Case k n a b d
  wrong : 1 < n → known a ≡ true → paired a b ≡ false → Case k n a b d
  whole : 1 < n → known a ≡ true → paired a b ≡ true → total k a b d ≤ n → Case k n a b d
  short : 1 < n → known a ≡ true → paired a b ≡ true → n < total k a b d → Case k n a b d

pub case : (k : Bool) (n a b d : ℕ) → Case k n a b d
case k n a b d = go (eqb n 0) refl (known a) refl (eqb n 1) refl (paired a b) refl (leb (total k a b d) n) refl
  where
    go : (e0 : Bool) → eqb n 0 ≡ e0 → (e1 : Bool) → known a ≡ e1 → (e2 : Bool) → eqb n 1 ≡ e2 → (e3 : Bool) → paired a b ≡ e3
        → (e4 : Bool) → leb (total k a b d) n ≡ e4 → Case k n a b d
    go true p e1 q e2 r e3 s e4 t = none (eqb-true n 0 p)
    go false p false q e2 r e3 s e4 t = unknown (omega (arith, eqb-false n 0 p)) q
    go false p true q true r e3 s e4 t = one (eqb-true n 1 r) q
    go false p true q false r false s e4 t = wrong (omega (arith, eqb-false n 0 p, eqb-false n 1 r)) q s
    go false p true q false r true s true t = whole (omega (arith, eqb-false n 0 p, eqb-false n 1 r)) q s (leb-true _ _ t)
    go false p true q false r true s false t = short (omega (arith, eqb-false n 0 p, eqb-false n 1 r)) q s (leb-false _ _ t)

-- from fewer than two bytes that are open
from-few : (k : Bool) (n : ℕ) (x : Span) (n' a b d : ℕ) → x ≡ Open → n < 2 → (known a ≡ false → n < 1) → Case k n' a b d
    → Grown n x (span_at k n' a b d)
from-few k n x n' a b d o h f (none e) = grown-same n _ _ Open o (at_none k n' a b d e) (omega arith)
from-few k n x n' a b d o h f (unknown e p) = grown-past n _ _ (Drop 1) o (at-unknown k n' a b d e p) (f p)
from-few k n x n' a b d o h f (one e p) = grown-same n _ _ Open o (at_one k n' a b d e p) (omega arith)
from-few k n x n' a b d o h f (wrong e p q) = grown-past n _ _ (Drop 2) o (at-wrong k n' a b d e p q) h
from-few k n x n' a b d o h f (whole e p q r) =
    grown-past n _ _ (Whole (total k a b d)) o (at-whole k n' a b d e p q r) (omega (arith, total-least k a b d))
from-few k n x n' a b d o h f (short e p q r) = grown-same n _ _ Open o (at-short k n' a b d e p q r) (omega arith)

-- from an open packet of two bytes or more
from-short : (k : Bool) (n n' a b d d' : ℕ) → span_at k n a b d ≡ Open → 1 < n → known a ≡ true → paired a b ≡ true → n < total k a b d'
    → (e : Bool) → leb (total k a b d') n' ≡ e → n ≤ n' → Grown n (span_at k n a b d) (span_at k n' a b d')
from-short k n n' a b d d' o h p q r true t le =
    grown-past n _ _ (Whole (total k a b d')) o (at-whole k n' a b d' (omega arith) p q (leb-true _ _ t)) r
from-short k n n' a b d d' o h p q r false t le =
    grown-same n _ _ Open o (at-short k n' a b d' (omega arith) p q (leb-false _ _ t)) (omega arith)

from-two : (k : Bool) (n n' a b d d' : ℕ) → n ≤ n' → (2 < n → d' ≡ d) → 1 < n → Case k n a b d
    → Grown n (span_at k n a b d) (span_at k n' a b d')
from-two k n n' a b d d' le hd h (none e) = absurd (omega arith)
from-two k n n' a b d d' le hd h (one e p) = absurd (omega arith)
from-two k n n' a b d d' le hd h (unknown e p) =
    grown-same n _ _ (Drop 1) (at-unknown k n a b d e p) (at-unknown k n' a b d' (omega arith) p) (omega arith)
from-two k n n' a b d d' le hd h (wrong e p q) =
    grown-same n _ _ (Drop 2) (at-wrong k n a b d e p q) (at-wrong k n' a b d' (omega arith) p q) (omega arith)
from-two k n n' a b d d' le hd h (whole e p q r) =
    ⊎_elim
    (λ t. grown-same n _ _ (Whole (total k a b d)) (at-whole k n a b d e p q r)
    (at-whole k n' a b d' (omega arith) p q (omega (arith, t)) ∙ ap Whole t) r)
    (λ t. absurd (omega (arith, t.0)))
    (third k n a b d d' hd e)
from-two k n n' a b d d' le hd h (short e p q r) =
    from-short k n n' a b d d' (at-short k n a b d e p q r) e p q
    (⊎_elim (λ t. omega (arith, t)) (λ t. t.1) (third k n a b d d' hd e))
    (leb (total k a b d') n') refl le

grown-at : (k : Bool) (n n' a a' b b' d d' : ℕ) → n ≤ n' → (0 < n → a' ≡ a) → (1 < n → b' ≡ b) → (2 < n → d' ≡ d)
    → Case k n a b d → Grown n (span_at k n a b d) (span_at k n' a' b' d')
grown-at k n n' a a' b b' d d' le ha hb hd (none h) =
    from-few k n _ n' a' b' d' (at_none k n a b d h) (omega arith) (λ q. omega arith) (case k n' a' b' d')
grown-at k n n' a a' b b' d d' le ha hb hd (unknown h p) =
    grown-same n _ _ (Drop 1) (at-unknown k n a b d h p) (at-unknown k n' a' b' d' (omega arith) (ap known (ha h) ∙ p)) (omega arith)
grown-at k n n' a a' b b' d d' le ha hb hd (one h p) =
    from-few k n _ n' a' b' d' (at_one k n a b d h p) (omega arith)
    (λ q. let z : ◌≡◌ {A = ℕ} 0 1 = cc (ap known (ha (omega arith))) in omega arith) (case k n' a' b' d')
grown-at k n n' a a' b b' d d' le ha hb hd (wrong h p q) =
    rw (ha (omega arith), hb h) (from-two k n n' a b d d' le hd h (wrong h p q))
grown-at k n n' a a' b b' d d' le ha hb hd (whole h p q r) =
    rw (ha (omega arith), hb h) (from-two k n n' a b d d' le hd h (whole h p q r))
grown-at k n n' a a' b b' d d' le ha hb hd (short h p q r) =
    rw (ha (omega arith), hb h) (from-two k n n' a b d d' le hd h (short h p q r))

-- THE LAW: what more bytes behind change. Everything about chunks follows from it.
pub grown : (k : Bool) (s t : List ℕ) → Grown (length s) (span k s) (span k (s ++ t))
grown k s t =
    grown-at k _ _ _ _ _ _ _ _ (rw length-append (omega arith))
    (λ h. get_or-append s t 0 0 h) (λ h. get_or-append s t 0 1 h) (λ h. get_or-append s t 0 2 h)
    (case k (length s) (get_or s 0 0) (get_or s 1 0) (get_or s 2 0))

pub size-within : (k : Bool) (s : List ℕ) → size_of (span k s) ≤ length s
size-within k s = ⊎_elim (λ g. g.1) (λ g. rw g.0 (omega arith)) (grown k s [])

-- What follows from it.
module _ (k : Bool) (s t : List ℕ) where
  -- a packet or a drop stays one
  closed : (v : Span) → span k s ≡ v → (v ≡ Open → ⊥) → (span k (s ++ t) ≡ v) × (size_of v ≤ length s)
  closed v p h = ⊎_elim (λ g. (g.0 ∙ p, rw p at g.1)) (λ g. absurd (h (sym p ∙ g.0))) (grown k s t)

  pub closed-more : (v : Span) → span k s ≡ v → 0 < size_of v → span k (s ++ t) ≡ v
  closed-more v p h = (closed v p (λ e. omega (arith, ap size_of e))).0

  pub whole-more : (n : ℕ) → span k s ≡ Whole n → (span k (s ++ t) ≡ Whole n) × (n ≤ length s)
  whole-more n p = closed (Whole n) p (λ e. let z : ◌≡◌ {A = ℕ} 0 1 = cc in omega arith)

  pub drop_more : (n : ℕ) → span k s ≡ Drop n → (span k (s ++ t) ≡ Drop n) × (n ≤ length s)
  drop_more n p = closed (Drop n) p (λ e. let z : ◌≡◌ {A = ℕ} 0 1 = cc in omega arith)

  -- what is open is shorter than the packet or the drop that it comes to
  pub open-short : (v : Span) → span k s ≡ Open → span k (s ++ t) ≡ v → 0 < size_of v → length s < size_of v
  open-short v o p h = ⊎_elim (λ g. absurd (omega (arith, ap size_of (sym p ∙ g.0 ∙ o)))) (λ g. rw p at g.1) (grown k s t)

  pub open-less : span k (s ++ t) ≡ Open → span k s ≡ Open
  open-less p = ⊎_elim (λ g. sym g.0 ∙ p) (λ g. g.0) (grown k s t)

  pub open-before : (v : Span) → span k (s ++ t) ≡ v → length s < size_of v → span k s ≡ Open
  open-before v p h =
      ⊎_elim (λ g. absurd (let e : size_of (span k s) ≡ size_of v = ap size_of (sym g.0 ∙ p) in omega arith)) (λ g. g.0) (grown k s t)

-- every shorter beginning of a packet or a drop is open
pub open-take : (k : Bool) (q : List ℕ) (m : ℕ) (v : Span) → span k q ≡ v → m < size_of v → m ≤ length q → span k (take m q) ≡ Open
open-take k q m v p h le =
    open-before k (take m q) (drop m q) v (rw (take-append-drop m q) p) (rw (length-take-le m q le) h)

-- A packet that is still open fits the pending buffer with a byte to spare.
pub open-fits : (k : Bool) (s : List ℕ) → get_or s 1 0 < 256 → get_or s 2 0 < 256 → span k s ≡ Open → length s < 259
open-fits k s hb hd o = go (case k (length s) (get_or s 0 0) (get_or s 1 0) (get_or s 2 0))
  where
    not : (v : Span) → span k s ≡ v → 0 < size_of v → length s < 259
    not v p h = absurd (omega (arith, ap size_of (sym p ∙ o)))

    go : Case k (length s) (get_or s 0 0) (get_or s 1 0) (get_or s 2 0) → length s < 259
    go (none h) = omega arith
    go (unknown h p) = not (Drop 1) (at-unknown k _ _ _ _ h p) (omega arith)
    go (one h p) = omega arith
    go (wrong h p q) = not (Drop 2) (at-wrong k _ _ _ _ h p q) (omega arith)
    go (whole h p q r) = not (Whole _) (at-whole k _ _ _ _ h p q r) (omega (arith, total-least k (get_or s 0 0) (get_or s 1 0) (get_or s 2 0)))
    go (short h p q r) = omega (arith, total-most k (get_or s 0 0) (get_or s 1 0) (get_or s 2 0) hb hd)
