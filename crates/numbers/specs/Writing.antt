-- Numbers that are written: decimal and hex digits, most significant first, and little-endian bytes.
use Rattle.std.specs.Prelude.{ℕ, zero, suc, ◌+◌, ◌/◌, ◌%◌, List, [], ◌∷◌, ◌++◌, ltb}
use Rattle.fields.specs.Pick.{pick}

-- the digits of n, of which there are at most k + 1
unfoldable pub digits : ℕ → ℕ → List ℕ
digits zero n = (48 + n % 10) ∷ []
digits (suc k) n = pick (ltb n 10) ((48 + n % 10) ∷ []) (digits k (n / 10) ++ ((48 + n % 10) ∷ []))

-- the decimal digits of n below 10 ^ 20, most significant first, without a leading zero; 0 is "0"
unfoldable pub decimal : ℕ → List ℕ
decimal n = digits 19 n

-- the hex digit of n below 16, in capitals
unfoldable pub capital : ℕ → ℕ
capital n = pick (ltb n 10) (48 + n) (55 + n)

-- the last w hex digits of v, most significant first
unfoldable pub hex : ℕ → ℕ → List ℕ
hex zero v = []
hex (suc w) v = hex w (v / 16) ++ (capital (v % 16) ∷ [])

-- the last w bytes of v, least significant first
unfoldable pub little : ℕ → ℕ → List ℕ
little zero v = []
little (suc w) v = v % 256 ∷ little w (v / 256)
