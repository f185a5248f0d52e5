-- When there is nothing to find: a name that is closed and within the limits, digits that are closed. Assumes nothing.
use Rattle.fields.specs.declared.Fault.{Fault}
use Rattle.std.specs.Prelude.{None, Option, Some}
use mathlib.Core.Path.{◌≡◌, refl, sym, ap, ◌∙◌}
use mathlib.Core.Bool.{Bool, true, false, not, ◌&&◌, and-true, and-false, not-not}
use mathlib.Core.List.{List, [], ◌∷◌}
use mathlib.Core.Logic.{⊎_elim}
use Prim.Native.Nat.{ℕ, zero, suc, ◌+◌, ◌≤◌, ◌<◌}
use native.Mathlib.Omega.{arith}
use lib.Dec.{leb, ltb, eqb}
use lib.ListN.{length, take, drop}
use borrow.Author.Tests.{lt-ltb, le-ltb, le-leb, lt-leb, ne_eqb, eqb-true}
use Rattle.fields.specs.Lists.{all, up_to}
use Rattle.fields.specs.Name.{is_name_byte, is_name}
use Rattle.fields.specs.declared.Flaw.{Flaw}
use Rattle.fields.specs.declared.Flaw.TheVariants.{SizeOpen}
use Rattle.fields.proofs.Lists.{le-or-lt, either, never}
use Rattle.numbers.specs.Reading.{is_digit, read_size, read_crc}
use Rattle.faults.specs.Faults.{is_sound}
use Rattle.faults.specs.Search.{when, earlier, earliest, front, begins, occurs, digits, past_digits, is_value, name_faults, size_faults, crc_faults}
use Rattle.faults.proofs.Values.{decimal-sound}
use Rattle.faults.proofs.NameLeast.{ltb-suc}

-- ---- Of several

pub sound-earlier : (x y : Option Fault) → is_sound (earlier x y) ≡ (is_sound x && is_sound y)
sound-earlier None y = refl
sound-earlier (Some f) None = refl
sound-earlier (Some f) (Some g) =
    either (λ (x : Option Fault). is_sound x ≡ false) (leb f.offset g.offset) (Some f) (Some g) (λ _. refl) (λ _. refl)

sound-when : (b : Bool) (w : Flaw) (i : ℕ) → is_sound (when b w i) ≡ not b
sound-when true w i = refl
sound-when false w i = refl

sound-after : (b : Bool) (w : Flaw) (i : ℕ) (x : Option Fault) → is_sound (earlier (when b w i) x) ≡ (not b && is_sound x)
sound-after b w i x = sound-earlier (when b w i) x ∙ ap (λ (t : Bool). t && is_sound x) (sound-when b w i)

pub leb-not : (a b : ℕ) → leb a b ≡ not (ltb b a)
leb-not a b = ⊎_elim
    (λ (h : a ≤ b). rw (le-leb a b h, le-ltb b a h) refl)
    (λ (h : b < a). rw (lt-leb a b h, lt-ltb b a h) refl)
    (le-or-lt a b)

pub some-not : (a : ℕ) → leb 1 a ≡ not (eqb a 0)
some-not zero = refl
some-not (suc a) = rw (le-leb 1 (suc a) (omega arith), ne_eqb (suc a) 0 (omega arith)) refl

pub sound-is : (x : Option Fault) → is_sound x ≡ true → x ≡ None
sound-is None h = refl
sound-is (Some f) h = never h

-- ---- The front and the closing byte z, which does not meet f

module _ (f : ℕ → Bool) (z : ℕ) (free : f z ≡ false) where
  none : (c : ℕ) → eqb c z ≡ true → f c ≡ false
  none c e = ap f (eqb-true c z e) ∙ free

  -- all before z meet f where the front is no shorter
  all-front : (s : List ℕ) → all f (up_to z s) ≡ not (ltb (length (front f s)) (length (up_to z s)))
  unfolding all up_to front
  all-front [] = refl
  all-front (c ∷ s) = go (eqb c z) refl (f c) refl (all-front s)
    where
      go : (t : Bool) → eqb c z ≡ t → (b : Bool) → f c ≡ b → all f (up_to z s) ≡ not (ltb (length (front f s)) (length (up_to z s)))
          → all f (up_to z (c ∷ s)) ≡ not (ltb (length (front f (c ∷ s))) (length (up_to z (c ∷ s))))
      go true e b g on = rw (e, none c e) refl
      go false e true g on = rw (e, g, ltb-suc (length (front f s)) (length (up_to z s))) on
      go false e false g on = rw (e, g, lt-ltb 0 (suc (length (up_to z s))) (omega arith)) refl

  -- then the front ends there
  front-up_to : (s : List ℕ) → all f (up_to z s) ≡ true → front f s ≡ up_to z s
  unfolding all up_to front
  front-up_to [] h = refl
  front-up_to (c ∷ s) h = go (eqb c z) refl (f c) refl h (front-up_to s)
    where
      go : (t : Bool) → eqb c z ≡ t → (b : Bool) → f c ≡ b → all f (up_to z (c ∷ s)) ≡ true → (all f (up_to z s) ≡ true → front f s ≡ up_to z s)
          → front f (c ∷ s) ≡ up_to z (c ∷ s)
      go true e b g h on = rw (e, none c e) refl
      go false e true g h on = rw (e, g) (ap (λ (l : List ℕ). c ∷ l) (on (rw (e, g) at h)))
      go false e false g h on = never (rw (e, g) at h)

  -- z stands behind the front where there is a z and all before it meet f
  begins-front : (s : List ℕ) → begins z (drop (length (front f s)) s) ≡ (occurs z s && all f (up_to z s))
  unfolding all up_to front begins
  begins-front [] = refl
  begins-front (c ∷ s) = go (eqb c z) refl (f c) refl (begins-front s)
    where
      go : (t : Bool) → eqb c z ≡ t → (b : Bool) → f c ≡ b → begins z (drop (length (front f s)) s) ≡ (occurs z s && all f (up_to z s))
          → begins z (drop (length (front f (c ∷ s))) (c ∷ s)) ≡ (occurs z (c ∷ s) && all f (up_to z (c ∷ s)))
      go true e b g on = rw (none c e, e, lt-ltb 0 (suc (length s)) (omega arith)) refl
      go false e true g on = rw (e, g, ltb-suc (length (up_to z s)) (length s)) on
      go false e false g on = rw (e, g, e) (sym (and-false (ltb (suc (length (up_to z s))) (suc (length s)))))

-- ---- Parts

pub name-sound : (z i : ℕ) (s : List ℕ) → is_name_byte z ≡ false → is_sound (name_faults z i s) ≡ (occurs z s && is_name (up_to z s))
unfolding name_faults earliest is_name
name-sound z i s free =
    let u = length (up_to z s) in
    simp (sound-after, and-true, not-not, some-not u, leb-not u 64, all-front is_name_byte z free s) refl

swap : (x y o a : Bool) → (x && (y && (o && a))) ≡ (o && ((x && y) && a))
swap true true o a = refl
swap true false true a = refl
swap true false false a = refl
swap false y true a = refl
swap false y false a = refl

-- n digits, all of them before the first of the bytes that close them, where there is one
abbrev fits : Bool → ℕ → Bool → Bool
fits o n a = o && ((not (eqb n 0) && not (ltb 8 n)) && a)

-- a size closed by z
pub size-sound : (z i : ℕ) (s : List ℕ) → is_digit z ≡ false
    → is_sound (size_faults i s (when (not (begins z (past_digits s))) SizeOpen (i + digits s))) ≡ (occurs z s && is_value (read_size (up_to z s)))
unfolding size_faults earliest
size-sound z i s free =
    let u = length (up_to z s) in
    let a = all is_digit (up_to z s) in
    rw (decimal-sound (up_to z s) 8, some-not u, leb-not u 8)
    (simp (sound-after, and-true, not-not, begins-front is_digit z free s)
    (swap (not (eqb (digits s) 0)) (not (ltb 8 (digits s))) (occurs z s) a ∙ same a refl))
  where
    none : (o : Bool) (n : ℕ) → fits o n false ≡ false
    none o n = ap (λ (t : Bool). o && t) (and-false (not (eqb n 0) && not (ltb 8 n))) ∙ and-false o

    same : (a : Bool) → all is_digit (up_to z s) ≡ a → fits (occurs z s) (digits s) a ≡ fits (occurs z s) (length (up_to z s)) a
    same true e = ap (λ (l : List ℕ). fits (occurs z s) (length l) true) (front-up_to is_digit z free s e)
    same false e = none (occurs z s) (digits s) ∙ sym (none (occurs z s) (length (up_to z s)))

-- whether the first five digits make no CRC
abbrev pub too_high : List ℕ → Bool
too_high s = leb 5 (digits s) && not (is_value (read_crc (take 5 s)))

-- a CRC closed by z
pub crc-sound : (z i : ℕ) (s : List ℕ) → is_sound (crc_faults z i s)
    ≡ (not (eqb (digits s) 0) && (not (too_high s) && (not (ltb 5 (digits s)) && begins z (past_digits s))))
unfolding crc_faults earliest
crc-sound z i s = simp (sound-after, and-true, not-not) refl
