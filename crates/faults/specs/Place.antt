-- What is asked of a place. (Change request 2026-02: "the place within the data, counted from 0, of the first offending byte, or the data's length
-- where the data simply end; a byte offends if nothing well-formed begins with the bytes through it".)
use Rattle.std.specs.Prelude.{ℕ, suc, ◌+◌, ◌≤◌, ◌<◌, ◌≡◌, Bool, true, false, List, ◌++◌, length, take}

-- n is the place in b: something well-formed begins with the n bytes before it, which fits a packet and a frame; and where a byte stands at n,
-- nothing well-formed begins with the bytes through it
pub record FirstOffending (well_formed : List ℕ → Bool) (b : List ℕ) (n : ℕ) : Type 0 where
  pub within : n ≤ length b
  pub more : List ℕ
  pub begins : well_formed (take n b ++ more) ≡ true
  pub short : n + length more ≤ 255
  pub offends : n < length b → (t : List ℕ) → well_formed (take (suc n) b ++ t) ≡ false
