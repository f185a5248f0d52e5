-- A number of 16 bits as the C code of source document 003 has it: 0x and four hexadecimal digits in lower case.
-- Assumes nothing.
use Rattle.std.specs.Prelude.{Bool, true, false, List, [], ◌∷◌, ℕ, ◌+◌, ◌/◌, ◌%◌, ltb, ◌++◌, ◌==◌, zero, suc}
use Rattle.crc.specs.Crc.{entry}

abbrev pub pick : Bool → ℕ → ℕ → ℕ
pick true a b = a
pick false a b = b

-- 0 to 9, then a to f
unfoldable pub hex_digit : ℕ → ℕ
hex_digit n = pick (ltb n 10) (48 + n) (87 + n)

unfoldable pub text_of : ℕ → List ℕ
text_of v = 48 ∷ 120 ∷ hex_digit (v / 4096) ∷ hex_digit (v / 256 % 16) ∷ hex_digit (v / 16 % 16) ∷ hex_digit (v % 16) ∷ []

-- bs where the test holds
abbrev pub where_true : Bool → List ℕ → List ℕ
where_true true bs = bs
where_true false bs = []

-- entry i of the table and what stands around it
abbrev pub printed : ℕ → List ℕ
printed i = where_true (i % 8 == 0) (32 ∷ 32 ∷ 32 ∷ 32 ∷ []) ++ text_of (entry i) ++ where_true (ltb i 255) (44 ∷ []) ++ where_true (i % 8 == 7) (10 ∷ [])

-- the first n of them
unfoldable pub printed_first : ℕ → List ℕ
printed_first zero = []
printed_first (suc n) = printed_first n ++ printed n
