-- Stamps. (Document 01: the DOS stamp, date times 65,536 plus time.)
use Rattle.std.specs.Prelude.{Bool, true, false, leb, None, Option, Some, ℕ}

abbrev pub is_present : Option ℕ → Bool
is_present (Some v) = true
is_present None = false

-- a stamp has 32 bits
abbrev pub stamp_fits : Option ℕ → Bool
stamp_fits (Some v) = leb v 0xFFFFFFFF
stamp_fits None = true
