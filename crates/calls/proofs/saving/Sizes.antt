-- Whether what comes stays within the size. Assumes nothing.
use mathlib.Core.Path.{◌≡◌, refl, sym}
use mathlib.Core.Bool.{Bool, true, false}
use Prim.Native.Nat.{ℕ, ◌+◌, ◌-◌, ◌<◌, ◌≤◌}
use native.Mathlib.Omega.{arith}
use lib.Dec.{leb}
use borrow.Author.Tests.{leb-true, leb-false, le-leb, lt-leb}

-- what is left compared with what comes
pub left-leb : (kept n size : ℕ) → kept ≤ size → leb n (size - kept) ≡ leb (kept + n) size
left-leb kept n size h = go (leb n (size - kept)) refl
  where
    go : (b : Bool) → leb n (size - kept) ≡ b → b ≡ leb (kept + n) size
    go true e = let z = leb-true n (size - kept) e in sym (le-leb (kept + n) size (omega arith))
    go false e = let z = leb-false n (size - kept) e in sym (lt-leb (kept + n) size (omega arith))

pub over-leb : (kept n size : ℕ) → size < kept → false ≡ leb (kept + n) size
over-leb kept n size h = sym (lt-leb (kept + n) size (omega arith))
