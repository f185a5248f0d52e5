-- Of several faults the earliest, and the front of a list. Assumes nothing.
use Rattle.fields.specs.declared.Fault.{Fault}
use Rattle.std.specs.Prelude.{Err, None, Ok, Option, Some}
use mathlib.Core.Path.{◌≡◌, refl, sym, ap, ◌∙◌}
use mathlib.Core.Bool.{Bool, true, false, not}
use mathlib.Core.List.{List, [], ◌∷◌}
use Prim.Native.Nat.{ℕ, zero, suc, ◌+◌, ◌≤◌, ◌<◌, zero-le, suc-le-suc}
use native.Mathlib.Nat.{le_of_suc-le-suc}
use native.Mathlib.Omega.{arith}
use lib.Dec.{leb, eqb}
use lib.ListN.{length, take, drop, get_or, take-append-drop}
use lib.Seq.{length-take-le}
use borrow.Author.Tests.{le-leb, lt-leb}
use Rattle.fields.specs.Pick.{pick}
use Rattle.fields.specs.Lists.{all}
use Rattle.fields.specs.declared.Flaw.{Flaw}
use Rattle.fields.specs.declared.Flaw.TheVariants.{Other}
use Rattle.fields.proofs.Lists.{either, drop-one}
use Rattle.faults.specs.declared.Stage.{Stage}
use Rattle.faults.specs.Faults.{only, step_of, end_of, fault, check_from}
use Rattle.faults.specs.Search.{when, earlier, front, begins}
use Rattle.faults.proofs.Place.{place}
use Rattle.faults.proofs.Turns.{run, turn-to, turn-wrong, turn_end}

-- ---- No fault before the place p

abbrev pub From : ℕ → Option Fault → Type 0
From p None = Unit {0}
From p (Some f) = p ≤ f.offset

pub from-later : (p q : ℕ) (x : Option Fault) → p ≤ q → From q x → From p x
from-later p q None h a = tt
from-later p q (Some f) h a = omega (arith, a)

pub from-pick : (p : ℕ) (b : Bool) (x y : Option Fault) → From p x → From p y → From p (pick b x y)
from-pick p true x y a c = a
from-pick p false x y a c = c

pub from-when : (p : ℕ) (b : Bool) (w : Flaw) (o : ℕ) → p ≤ o → From p (when b w o)
from-when p b w o h = from-pick p b (fault w o) None h tt

pub from-earlier : (p : ℕ) (x y : Option Fault) → From p x → From p y → From p (earlier x y)
from-earlier p None y a b = b
from-earlier p (Some f) None a b = a
from-earlier p (Some f) (Some g) a b = from-pick p (leb f.offset g.offset) (Some f) (Some g) a b

-- what the table finds lies in the bytes that it reads
pub from-check : (q : Stage) (o i : ℕ) (s : List ℕ) → o ≤ i → From o (check_from q i s)
from-check q o i s l = go (check_from q i s) refl
  where
    go : (x : Option Fault) → check_from q i s ≡ x → From o x
    go None e = tt
    go (Some f) e = let h = (place q i s f e).is in omega arith

-- ---- The earlier of two

pub earlier-none : (x : Option Fault) → earlier x None ≡ x
earlier-none None = refl
earlier-none (Some f) = refl

-- the first counts where the second is no earlier, and the second where the first is later
pub earlier-first : (w : Flaw) (o : ℕ) (x : Option Fault) → From o x → earlier (fault w o) x ≡ fault w o
earlier-first w o None a = refl
earlier-first w o (Some g) a = rw (le-leb o g.offset a)

pub earlier-second : (w : Flaw) (o : ℕ) (x : Option Fault) → From (suc o) x → earlier x (fault w o) ≡ fault w o
earlier-second w o None a = refl
earlier-second w o (Some g) a = rw (lt-leb g.offset o a)

-- of three
pub earlier-leads : (w : Flaw) (o : ℕ) (x y : Option Fault) → From o x → From o y → earlier (earlier (fault w o) x) y ≡ fault w o
earlier-leads w o x y a b = ap (λ (z : Option Fault). earlier z y) (earlier-first w o x a) ∙ earlier-first w o y b

-- a fault that is no later than three others and what stands behind them
pub leads : (o : ℕ) (y : Option Fault) → From o y → (a b c : Bool) (p q r : ℕ) → o ≤ p → o ≤ q → o ≤ r
    → earlier (earlier (fault Other o) (earlier (when a Other p) (earlier (when b Other q) (earlier (when c Other r) None)))) y ≡ fault Other o
leads o y f a b c p q r h g k =
    let x = when a Other p in
    let z = when b Other q in
    let u = when c Other r in
    rw (earlier-none u)
    (earlier-leads Other o (earlier x (earlier z u)) y
    (from-earlier o x (earlier z u) (from-when o a Other p h) (from-earlier o z u (from-when o b Other q g) (from-when o c Other r k))) f)

-- ---- One byte x, and q behind it; at another byte, and at the end, the fault w

pub one : (p q : Stage) (x : ℕ) (w : Flaw) (i : ℕ) (s : List ℕ) → ((c : ℕ) (t : List ℕ) → s ≡ c ∷ t → step_of p c ≡ only x c q w) → end_of p ≡ Some w
    → check_from p i s ≡ earlier (when (not (begins x s)) w i) (pick (begins x s) (check_from q (i + 1) (drop 1 s)) None)
unfolding begins
one p q x w i [] step end = turn_end p w i end
one p q x w i (c ∷ s) step end = go (eqb c x) refl
  where
    go : (b : Bool) → eqb c x ≡ b → check_from p i (c ∷ s) ≡ earlier (when (not b) w i) (pick b (check_from q (i + 1) s) None)
    go true e = turn-to p q i c s (step c s refl ∙ rw e refl)
    go false e = turn-wrong p w i c s (step c s refl ∙ rw e refl)

-- ---- The front of a list

pub front-le : (f : ℕ → Bool) (s : List ℕ) → length (front f s) ≤ length s
unfolding front
front-le f [] = zero-le
front-le f (c ∷ s) = either (λ (l : List ℕ). length l ≤ suc (length s)) (f c) (c ∷ front f s) [] (λ e. suc-le-suc (front-le f s)) (λ e. zero-le)

-- as many as the front has, or fewer, all meet f
pub front-all : (f : ℕ → Bool) (s : List ℕ) (n : ℕ) → n ≤ length (front f s) → all f (take n s) ≡ true
unfolding front all
front-all f s zero h = refl
front-all f [] (suc n) h = refl
front-all f (c ∷ s) (suc n) h = go (f c) refl h (front-all f s n)
  where
    go : (b : Bool) → f c ≡ b → suc n ≤ length (pick b (c ∷ front f s) []) → (n ≤ length (front f s) → all f (take n s) ≡ true)
        → all f (c ∷ take n s) ≡ true
    go true e g on = rw e (on (le_of_suc-le-suc g))
    go false e g on = absurd (omega (arith, g))

-- each byte of the front does
pub front_at : (f : ℕ → Bool) (s : List ℕ) (n : ℕ) → n < length (front f s) → f (get_or s n 0) ≡ true
unfolding front
front_at f [] n h = absurd (omega (arith, h))
front_at f (c ∷ s) zero h = go (f c) refl h
  where
    go : (b : Bool) → f c ≡ b → 0 < length (pick b (c ∷ front f s) []) → f c ≡ true
    go true e g = e
    go false e g = absurd (omega (arith, g))
front_at f (c ∷ s) (suc n) h = go (f c) h (front_at f s n)
  where
    go : (b : Bool) → suc n < length (pick b (c ∷ front f s) []) → (n < length (front f s) → f (get_or s n 0) ≡ true) → f (get_or s n 0) ≡ true
    go true g on = on (le_of_suc-le-suc g)
    go false g on = absurd (omega (arith, g))

-- what stands behind the front does not go on with it
abbrev pub Stops : (ℕ → Bool) → List ℕ → Type 0
Stops f [] = Unit {0}
Stops f (c ∷ s) = f c ≡ false

pub front-stops : (f : ℕ → Bool) (s : List ℕ) → Stops f (drop (length (front f s)) s)
unfolding front
front-stops f [] = tt
front-stops f (c ∷ s) = either (λ (l : List ℕ). Stops f (drop (length l) (c ∷ s))) (f c) (c ∷ front f s) [] (λ e. front-stops f s) (λ e. e)

-- ---- A part that counts its bytes, at most so many

module _ (part : ℕ → Stage) (f : ℕ → Bool) (most : ℕ) (more : (k c : ℕ) → f c ≡ true → k < most → step_of (part k) c ≡ Ok (part (k + 1)))
    (s : List ℕ) (i : ℕ) where
  -- n of them
  pub over : (n : ℕ) → n ≤ length (front f s) → n ≤ most → check_from (part 0) i s ≡ check_from (part n) (i + n) (drop n s)
  over n h g =
      let e = length-take-le n s (omega (arith, h, front-le f s)) in
      ap (check_from (part 0) i) (sym (take-append-drop n s))
      ∙ run part f most more (take n s) (drop n s) 0 i (front-all f s n h) (omega (arith, e, g))
      ∙ ap (λ (x : ℕ). check_from (part (0 + x)) (i + x) (drop n s)) e
      ∙ ap (λ (x : ℕ). check_from (part x) (i + n) (drop n s)) (omega arith)

  -- one too many
  pub over-most : (w : Flaw) → ((c : ℕ) → f c ≡ true → step_of (part most) c ≡ Err w) → most < length (front f s)
      → check_from (part 0) i s ≡ fault w (i + most)
  over-most w many h =
      over most (omega arith) (omega arith) ∙ ap (check_from (part most) (i + most)) (drop-one s most (omega (arith, h, front-le f s)))
      ∙ turn-wrong (part most) w (i + most) (get_or s most 0) (drop (most + 1) s) (many (get_or s most 0) (front_at f s most h))
