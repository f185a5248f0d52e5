-- What is printed of a change. Assumes nothing.
use Rattle.std.proofs.Common.{◌≡◌, ℕ, ◌+◌, List, refl, arith, ne_eqb, None, Some}
use Rattle.std.specs.Prelude.{Option, get_or}
use Rattle.std.specs.Option.{MatchOption}
use borrow.Author.Rules.{rules}
use Rattle.script.specs.declared.printing.Change.{Change}
use Rattle.script.specs.Printing.{IsChange, IsChanged, change, change_text, changed_from, changed_to}

pub changed-is : (n : ℕ) (a b : List ℕ) (r : Option Change) → IsChanged n a b r → IsChange n a b (changed_from r) (changed_to r)
changed-is n a b None h = h
changed-is n a b (Some c) h = h.1

pub change-is : (n : ℕ) (a b label : List ℕ) (r : Option Change) → IsChanged n a b r → change_text label r ≡ change label (changed_from r) (changed_to r)
change-is n a b label None h = refl
change-is n a b label (Some c) h = rw (ne_eqb c.to 0 (λ e. omega arith))

-- one byte more, which is the same or is otherwise
pub unchanged : (n : ℕ) (a b : List ℕ) (r : Option Change) → IsChanged n a b r → get_or a n 0 ≡ get_or b n 0 → IsChanged (n + 1) a b r
unchanged n a b None h e = search rules
unchanged n a b (Some c) h e = search rules

pub changes : (n from : ℕ) (a b : List ℕ) (r : Option Change) → IsChanged n a b r → MatchOption r (from ≡ n) (λ c. from ≡ c.from)
    → (get_or a n 0 ≡ get_or b n 0 → ⊥) → IsChange (n + 1) a b from (n + 1)
changes n from a b None h f e = search rules
changes n from a b (Some c) h f e = search rules
