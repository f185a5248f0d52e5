-- The place by what a reader takes for well-formed, where that agrees with the table. Assumes nothing.
use Rattle.fields.specs.declared.Fault.{Fault}
use Rattle.std.specs.Prelude.{None, Option, Some}
use mathlib.Core.Path.{◌≡◌, refl, ap, ◌∙◌}
use mathlib.Core.Bool.{Bool, false}
use mathlib.Core.List.{List, ◌++◌}
use Prim.Native.Nat.{ℕ, suc, ◌≤◌}
use native.Mathlib.Omega.{arith}
use lib.ListN.{take}
use Rattle.faults.specs.Faults.{is_sound}
use Rattle.faults.specs.Place.{FirstOffending}
use Rattle.faults.proofs.Place.{Place}

-- what is not sound is not well-formed
unsound : (c : Option Fault) → (c ≡ None → ⊥) → is_sound c ≡ false
unsound None h = absurd (h refl)
unsound (Some f) h = refl

pub first-offending : (good : List ℕ → Bool) (check : List ℕ → Option Fault) (b : List ℕ) (n : ℕ) → Place check b n
    → ((m : ℕ) (t : List ℕ) → n ≤ m → good (take m b ++ t) ≡ is_sound (check (take m b ++ t))) → FirstOffending good b n
first-offending good check b n p agrees = record {
  within = p.within;
  more = p.more;
  begins = agrees n p.more (omega arith) ∙ ap is_sound p.begins;
  short = p.short;
  offends = λ h t. agrees (suc n) t (omega arith) ∙ unsound (check (take (suc n) b ++ t)) (p.offends h t);
}
