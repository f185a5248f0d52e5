-- What is appended stays within the buffer, which stays as long as it was. Assumes nothing.
use mathlib.Core.Path.{◌≡◌, refl, sym}
use mathlib.Core.List.{List}
use mathlib.Core.Logic.{⊎_elim}
use Prim.Native.Nat.{ℕ, ◌+◌, ◌≤◌, ◌<◌}
use lib.ListN.{length}
use Rattle.fields.proofs.Lists.{le-or-lt}
use Rattle.fields.specs.Buffer.{appended, appended_end}
use Rattle.fields.proofs.Buffer.{length_over, append-fits, append-short}

pub append-within : (at : ℕ) (bs d : List ℕ) → at ≤ length d
    → (appended_end at bs d ≤ length (appended at bs d)) × (length (appended at bs d) ≡ length d)
append-within at bs d h =
    ⊎_elim
    (λ (f : at + length bs ≤ length d). let a = append-fits at bs d f in let l = length_over at bs d f in
    rw (sym a.0, sym a.1, l) (f, refl))
    (λ (f : length d < at + length bs). let a = append-short at bs d f in rw (sym a.0, sym a.1) (h, refl))
    (le-or-lt (at + length bs) (length d))
