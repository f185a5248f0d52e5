-- The size's earliest fault is the one that the table finds, whatever closes it. Assumes nothing.
use Rattle.fields.specs.declared.Fault.{Fault}
use Rattle.std.specs.Prelude.{None, Ok, Option, Result, Some}
use mathlib.Core.Path.{◌≡◌, refl, sym, ap, subst, ◌∙◌}
use mathlib.Core.Bool.{true, false}
use mathlib.Core.List.{List, [], ◌∷◌}
use mathlib.Core.Logic.{⊎_elim}
use Prim.Native.Nat.{ℕ, ◌+◌, ◌≤◌, ◌<◌}
use native.Mathlib.Omega.{arith}
use lib.ListN.{drop}
use borrow.Author.Tests.{lt-leb, lt-ltb, le-ltb, eq-eqb, ne_eqb}
use Rattle.fields.specs.declared.Flaw.{Flaw}
use Rattle.fields.specs.declared.Flaw.TheVariants.{NoDigits, ManyDigits}
use Rattle.fields.proofs.Lists.{le-or-lt, eq-or-not}
use Rattle.numbers.specs.Reading.{is_digit}
use Rattle.faults.specs.declared.Stage.{Stage}
use Rattle.faults.specs.Faults.{size_part, in_part, step_of, end_of, fault, check_from}
use Rattle.faults.specs.Search.{earlier, earliest, digits, past_digits, size_faults}
use Rattle.faults.proofs.Turns.{turn-wrong, turn_end}
use Rattle.faults.proofs.Earliest.{From, from-later, earlier-none, earlier-leads, Stops, front-stops, over, over-most}

module _ (part : ℕ → Stage) (behind : ℕ → Result Stage Flaw) (step : (k c : ℕ) → step_of (part k) c ≡ in_part (size_part k c) part (behind c)) where
  pub size-more : (k c : ℕ) → is_digit c ≡ true → k < 8 → step_of (part k) c ≡ Ok (part (k + 1))
  unfolding size_part
  size-more k c d h = step k c ∙ rw (d, lt-leb 8 k h) refl

  -- the byte behind 1 to 8 digits
  pub size-behind : (k c : ℕ) → 1 ≤ k → is_digit c ≡ false → step_of (part k) c ≡ behind c
  unfolding size_part
  size-behind k c h d = step k c ∙ rw (d, ne_eqb k 0 (λ e. omega (arith, e, h))) refl

  -- x is what is found behind the digits of the size, y what is found behind the size
  module _ (ends : end_of (part 0) ≡ Some NoDigits) (i : ℕ) (s : List ℕ) (x y : Option Fault) (a : From (i + digits s) x) (b : From (i + digits s) y) where
    stops : (l : List ℕ) → Stops is_digit l → check_from (part 0) i l ≡ fault NoDigits i
    unfolding size_part
    stops [] t = turn_end (part 0) NoDigits i ends
    stops (c ∷ l) t = turn-wrong (part 0) NoDigits i c l (step 0 c ∙ rw t refl)

    -- a fault at or before what stands behind the digits
    wins : (w : Flaw) (o : ℕ) → o ≤ i + digits s → earlier (earlier (fault w o) (earlier x None)) y ≡ fault w o
    wins w o h =
        ap (λ (z : Option Fault). earlier (earlier (fault w o) z) y) (earlier-none x)
        ∙ earlier-leads w o x y (from-later o (i + digits s) x h a) (from-later o (i + digits s) y h b)

    none : digits s ≡ 0 → check_from (part 0) i s ≡ earlier (size_faults i s x) y
    unfolding size_faults earliest
    none h =
        rw (eq-eqb (digits s) 0 h, le-ltb 8 (digits s) (omega arith))
        (stops s (subst (λ (n : ℕ). Stops is_digit (drop n s)) h (front-stops is_digit s)) ∙ sym (wins NoDigits i (omega arith)))

    many : 8 < digits s → check_from (part 0) i s ≡ earlier (size_faults i s x) y
    unfolding size_faults earliest size_part
    many h =
        rw (ne_eqb (digits s) 0 (omega arith), lt-ltb 8 (digits s) h)
        (over-most part is_digit 8 size-more s i ManyDigits (λ c d. step 8 c ∙ rw d refl) h
        ∙ sym (wins ManyDigits (i + 8) (omega arith)))

    some : 1 ≤ digits s → digits s ≤ 8 → earlier (size_faults i s x) y ≡ earlier x y
    unfolding size_faults earliest
    some l h = rw (ne_eqb (digits s) 0 (omega arith), le-ltb 8 (digits s) h, earlier-none x) refl

    pub size-least : (1 ≤ digits s → digits s ≤ 8 → check_from (part (digits s)) (i + digits s) (past_digits s) ≡ earlier x y)
        → check_from (part 0) i s ≡ earlier (size_faults i s x) y
    size-least on = ⊎_elim
        (λ (n : digits s ≡ 0). none n)
        (λ (n : digits s ≡ 0 → ⊥). ⊎_elim
        (λ (h : digits s ≤ 8).
        let l : 1 ≤ digits s = omega (arith, n) in
        over part is_digit 8 size-more s i (digits s) (omega arith) h ∙ on l h ∙ sym (some l h))
        (λ (h : 8 < digits s). many h)
        (le-or-lt (digits s) 8))
        (eq-or-not (digits s) 0)
