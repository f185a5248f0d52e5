-- Numbers that are read: decimal and hex digits, most significant first, and little-endian bytes.
use Rattle.std.specs.Prelude.{ℕ, ◌+◌, ◌-◌, ◌*◌, Bool, ◌&&◌, List, [], ◌∷◌, length, leb, ltb, eqb, None, Option, Some}
use Rattle.fields.specs.Pick.{pick}
use Rattle.numbers.specs.declared.Base.{Base}
use Rattle.numbers.specs.declared.Base.TheVariants.{Decimal, Hex}

-- how many digits a base has
unfoldable pub radix : Base → ℕ
radix Decimal = 10
radix Hex = 16

-- 0 to 9
abbrev pub is_digit : ℕ → Bool
is_digit c = leb 48 c && leb c 57

-- the value of a decimal digit; 10 for any other byte
unfoldable pub decimal_digit : ℕ → ℕ
decimal_digit c = pick (is_digit c) (c - 48) 10

-- the value of a hex digit of either case; 16 for any other byte
unfoldable pub hex_digit : ℕ → ℕ
hex_digit c =
    pick (is_digit c) (c - 48)
    (pick (leb 65 c && leb c 70) (c - 55)
    (pick (leb 97 c && leb c 102) (c - 87) 16))

abbrev pub digit : Base → ℕ → ℕ
digit Decimal c = decimal_digit c
digit Hex c = hex_digit c

-- acc and the digits behind it; a byte that is no digit makes all malformed
unfoldable pub value_from : Base → ℕ → List ℕ → Option ℕ
value_from b acc [] = Some acc
value_from b acc (c ∷ s) = pick (ltb (digit b c) (radix b)) (value_from b (acc * radix b + digit b c) s) None

-- 1 to w decimal digits; leading zeros are read
unfoldable pub read_decimal : ℕ → List ℕ → Option ℕ
read_decimal w s = pick (leb 1 (length s) && leb (length s) w) (value_from Decimal 0 s) None

-- a size or a position: 1 to 8 digits
abbrev pub read_size : List ℕ → Option ℕ
read_size = read_decimal 8

-- v where it is at most m
abbrev pub at_most : ℕ → Option ℕ → Option ℕ
at_most m (Some v) = pick (leb v m) (Some v) None
at_most m None = None

-- a CRC: 1 to 5 digits, at most 65,535
unfoldable pub read_crc : List ℕ → Option ℕ
read_crc s = at_most 65535 (read_decimal 5 s)

-- exactly eight hex digits
unfoldable pub read_hex : List ℕ → Option ℕ
read_hex s = pick (eqb (length s) 8) (value_from Hex 0 s) None

-- the number that little-endian bytes are
unfoldable pub little_value : List ℕ → ℕ
little_value [] = 0
little_value (c ∷ s) = little_value s * 256 + c

-- the same of at most four bytes
unfoldable pub read_little : List ℕ → Option ℕ
read_little s = pick (leb (length s) 4) (Some (little_value s)) None
