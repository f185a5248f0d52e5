-- Calls are checked 18, 20, 19, 40, by what each check asks; 0 where the call is taken. Assumes nothing.
use mathlib.Core.Path.{◌≡◌, refl}
use mathlib.Core.Bool.{true, false}
use Prim.Native.Nat.{ℕ, ◌≤◌, ◌<◌}
use borrow.Author.Tests.{lt-ltb, le-ltb, ne_eqb, eq-eqb}
use Rattle.calls.specs.Numbers.{status_number}
use Rattle.calls.specs.Checks.{check_of}

module _ (reply frame lent given : ℕ) where
  pub ended : status_number (check_of true reply frame lent given) ≡ 18
  unfolding check_of status_number
  ended = refl

  pub small-reply : reply < 259 → status_number (check_of false reply frame lent given) ≡ 20
  unfolding check_of status_number
  small-reply r = rw (lt-ltb reply 259 r) refl

  pub long-frame : 259 ≤ reply → 256 < frame → status_number (check_of false reply frame lent given) ≡ 19
  unfolding check_of status_number
  long-frame r f = rw (le-ltb reply 259 r, lt-ltb 256 frame f) refl

  pub wrong-length : 259 ≤ reply → frame ≤ 256 → (lent ≡ given → ⊥) → status_number (check_of false reply frame lent given) ≡ 40
  unfolding check_of status_number
  wrong-length r f n = rw (le-ltb reply 259 r, le-ltb 256 frame f, ne_eqb lent given n) refl

  pub taken : 259 ≤ reply → frame ≤ 256 → lent ≡ given → status_number (check_of false reply frame lent given) ≡ 0
  unfolding check_of status_number
  taken r f e = rw (le-ltb reply 259 r, le-ltb 256 frame f, eq-eqb lent given e) refl
