-- The form that we write numbers in. Reading takes more: leading zeros, and hex digits of either case.
use Rattle.std.specs.Prelude.{ℕ, Bool, not, ◌&&◌, ◌||◌, List, length, get_or, leb, ltb, eqb}
use Rattle.fields.specs.Lists.{all}
use Rattle.numbers.specs.Reading.{is_digit}

-- decimal digits without a leading zero; 0 is one digit
unfoldable pub plain : List ℕ → Bool
plain s = leb (length s) 1 || not (eqb (get_or s 0 0) 48)

-- 0 to 9 and A to F
abbrev pub is_capital : ℕ → Bool
is_capital c = is_digit c || (leb 65 c && leb c 70)

-- hex digits in capitals
abbrev pub capitals : List ℕ → Bool
capitals = all is_capital

-- below 256
unfoldable pub is_byte : ℕ → Bool
is_byte c = ltb c 256
