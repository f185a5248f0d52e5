-- An array of zeros is as long as its type says, by a law and not by counting. Assumes nothing.
use mathlib.Core.Path.{◌≡◌, sym}
use Prim.Native.Nat.{ℕ}
use lib.ListN.{length, replicate, length-replicate}

pub zeros-long : (n : ℕ) → n ≡ length {A = ℕ} (replicate n 0)
zeros-long n = sym (length-replicate n 0)
