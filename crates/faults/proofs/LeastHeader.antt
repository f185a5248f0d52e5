-- The fault that the table finds in a header is the earliest of those found by looking. Assumes nothing.
use Rattle.fields.specs.declared.Fault.{Fault}
use Rattle.std.specs.Prelude.{None, Option}
use mathlib.Core.Path.{◌≡◌, refl, ap, subst, ◌∙◌}
use mathlib.Core.Bool.{not}
use mathlib.Core.List.{List}
use Prim.Native.Nat.{ℕ, ◌+◌, ◌≤◌}
use native.Mathlib.Omega.{arith}
use lib.ListN.{length, drop}
use borrow.Author.Tests.{ne_eqb}
use Rattle.fields.specs.Pick.{pick}
use Rattle.fields.specs.Lists.{up_to}
use Rattle.fields.specs.Name.{is_name_byte}
use Rattle.fields.specs.declared.Flaw.TheVariants.{SizeOpen}
use Rattle.fields.proofs.Lists.{either}
use Rattle.numbers.specs.Reading.{is_digit}
use Rattle.faults.specs.declared.Stage.TheVariants.{HeaderName, HeaderSize, HeaderOption}
use Rattle.faults.specs.Faults.{step_of, end_of, only, check_from, check_header}
use Rattle.faults.specs.Search.{when, earlier, begins, digits, past_digits, occurs, name_faults, header_size_faults, header_faults}
use Rattle.faults.proofs.Turns.{option-sound}
use Rattle.faults.proofs.Earliest.{from-when, earlier-none, one, Stops, front-stops}
use Rattle.faults.proofs.SizeLeast.{size-behind, size-least}
use Rattle.faults.proofs.NameLeast.{name-least}

-- behind k digits
closing : (k i : ℕ) (l : List ℕ) → 1 ≤ k → Stops is_digit l → check_from (HeaderSize k) i l ≡ earlier (when (not (begins 0 l)) SizeOpen i) None
unfolding step_of end_of
closing k i l h t =
    let on = check_from HeaderOption (i + 1) (drop 1 l) in
    one (HeaderSize k) HeaderOption 0 SizeOpen i l
    (λ c r e. size-behind HeaderSize (λ (c : ℕ). only 0 c HeaderOption SizeOpen) (λ k c. refl) k c h (subst (Stops is_digit) e t))
    (rw (ne_eqb k 0 (omega arith)) refl)
    ∙ ap (earlier (when (not (begins 0 l)) SizeOpen i))
    (either (λ (x : Option Fault). x ≡ None) (begins 0 l) on None (λ _. option-sound (i + 1) (drop 1 l)) (λ _. refl))

header-size-least : (i : ℕ) (s : List ℕ) → check_from (HeaderSize 0) i s ≡ header_size_faults i s
unfolding step_of end_of header_size_faults
header-size-least i s =
    let j = i + digits s in
    let b = not (begins 0 (past_digits s)) in
    size-least HeaderSize (λ (c : ℕ). only 0 c HeaderOption SizeOpen) (λ k c. refl) refl i s
    (when b SizeOpen j) None (from-when j b SizeOpen j (omega arith)) tt
    (λ l h. closing (digits s) j (past_digits s) l (front-stops is_digit s))
    ∙ earlier-none (header_size_faults i s)

-- THE HEADER
pub least-header : (d : List ℕ) → check_header d ≡ header_faults d
unfolding step_of end_of check_header header_faults is_name_byte
least-header d =
    let u = length (up_to 0 d) in
    let e : 0 + u + 1 ≡ u + 1 = omega arith in
    name-least 0 HeaderName (HeaderSize 0) refl (λ k c. refl) (λ k. refl) 0 d
    ∙ ap (λ (x : Option Fault). earlier (name_faults 0 0 d) (pick (occurs 0 d) x None)) (header-size-least (0 + u + 1) (drop (u + 1) d) ∙ rw e refl)
