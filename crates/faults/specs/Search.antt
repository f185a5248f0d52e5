-- The same faults, each looked for by itself. Of those found the one with the smallest place counts, at one place the one that is named first here:
-- that of the part that stands first, then the lower number. A part is looked for where the one before it is closed. (Change request 2026-02: "the
-- earliest place wins, at one place the part that stands first, then the lower number".)
use Rattle.fields.specs.declared.Fault.{Fault}
use Rattle.std.specs.Prelude.{ℕ, ◌+◌, List, [], ◌∷◌, Bool, true, false, not, ◌&&◌, length, take, drop, leb, ltb, eqb, None, Option, Some}
use Rattle.fields.specs.Pick.{pick}
use Rattle.fields.specs.Lists.{up_to}
use Rattle.fields.specs.Name.{is_name_byte}
use Rattle.fields.specs.declared.Flaw.{Flaw}
use Rattle.fields.specs.declared.Flaw.TheVariants.{NameOpen, NameLength, NameByte, NoDigits, ManyDigits, SizeOpen, Other}
use Rattle.numbers.specs.Reading.{is_digit, read_crc}
use Rattle.faults.specs.Faults.{is_hex, fault}

-- ---- Looking

-- a fault at the place i, where b holds
abbrev pub when : Bool → Flaw → ℕ → Option Fault
when b f i = pick b (fault f i) None

-- the one with the smaller place; at one place the first
abbrev pub earlier : Option Fault → Option Fault → Option Fault
earlier None b = b
earlier (Some f) None = Some f
earlier (Some f) (Some g) = pick (leb f.offset g.offset) (Some f) (Some g)

-- of several
unfoldable pub earliest : List (Option Fault) → Option Fault
earliest [] = None
earliest (a ∷ l) = earlier a (earliest l)

-- the longest front of s whose bytes all meet f
unfoldable pub front : (ℕ → Bool) → List ℕ → List ℕ
front f [] = []
front f (c ∷ s) = pick (f c) (c ∷ front f s) []

-- how many digits stand at the front of s, and what stands behind them
abbrev pub digits : List ℕ → ℕ
digits s = length (front is_digit s)

abbrev pub past_digits : List ℕ → List ℕ
past_digits s = drop (digits s) s

-- whether the first byte of s is x
unfoldable pub begins : ℕ → List ℕ → Bool
begins x [] = false
begins x (c ∷ s) = eqb c x

-- whether x and then y stand first
abbrev pub begins_both : ℕ → ℕ → List ℕ → Bool
begins_both x y s = begins x s && begins y (drop 1 s)

-- whether x occurs in s
abbrev pub occurs : ℕ → List ℕ → Bool
occurs x s = ltb (length (up_to x s)) (length s)

abbrev pub is_value : Option ℕ → Bool
is_value (Some v) = true
is_value None = false

-- ---- Parts, each from the place i on

-- a name closed by z: 71 no closing byte; 72 empty, or too long; 73 a forbidden byte before the closing one
unfoldable pub name_faults : ℕ → ℕ → List ℕ → Option Fault
name_faults z i s =
    earliest
    (when (not (occurs z s)) NameOpen (i + length s)
    ∷ when (eqb (length (up_to z s)) 0) NameLength i
    ∷ when (ltb 64 (length (up_to z s))) NameLength (i + 64)
    ∷ when (ltb (length (front is_name_byte s)) (length (up_to z s))) NameByte (i + length (front is_name_byte s))
    ∷ [])

-- a size: 74 no digits; 75 the ninth digit; 76, no closing bytes, is handed in, since header and line close differently
unfoldable pub size_faults : ℕ → List ℕ → Option Fault → Option Fault
size_faults i s unclosed =
    earliest
    (when (eqb (digits s) 0) NoDigits i
    ∷ when (ltb 8 (digits s)) ManyDigits (i + 8)
    ∷ unclosed
    ∷ [])

-- a CRC: no digits; five digits over 65,535; the sixth digit; not closed by z
unfoldable pub crc_faults : ℕ → ℕ → List ℕ → Option Fault
crc_faults z i s =
    earliest
    (when (eqb (digits s) 0) Other i
    ∷ when (leb 5 (digits s) && not (is_value (read_crc (take 5 s)))) Other (i + 4)
    ∷ when (ltb 5 (digits s)) Other (i + 5)
    ∷ when (not (begins z (past_digits s))) Other (i + digits s)
    ∷ [])

-- a stamp: fewer than eight hex digits; neither `?` nor `#` behind them; no `#` behind the `?`
unfoldable pub stamp_faults : ℕ → List ℕ → Option Fault
stamp_faults i s =
    earliest
    (when (ltb (length (front is_hex s)) 8) Other (i + length (front is_hex s))
    ∷ when (not (begins 63 (drop 8 s)) && not (begins 35 (drop 8 s))) Other (i + 8)
    ∷ when (begins 63 (drop 8 s) && not (begins 35 (drop 9 s))) Other (i + 9)
    ∷ [])

-- nothing more
unfoldable pub end_faults : ℕ → List ℕ → Option Fault
end_faults i s = when (ltb 0 (length s)) Other i

-- ---- The data of a header

-- the size is closed by 00
unfoldable pub header_size_faults : ℕ → List ℕ → Option Fault
header_size_faults i s = size_faults i s (when (not (begins 0 (past_digits s))) SizeOpen (i + digits s))

-- the name; the size where the name is closed
unfoldable pub header_faults : List ℕ → Option Fault
header_faults d =
    earlier (name_faults 0 0 d)
    (pick (occurs 0 d) (header_size_faults (length (up_to 0 d) + 1) (drop (length (up_to 0 d) + 1) d)) None)

-- ---- A line, behind `#BIN#`

-- the size is closed by `\r` or `#|`: behind a `#` it is the next byte that offends
unfoldable pub line_size_faults : ℕ → List ℕ → Option Fault
line_size_faults i s =
    size_faults i s
    (pick (begins 13 (past_digits s)) None
    (pick (begins 35 (past_digits s)) (when (not (begins 124 (drop 1 (past_digits s)))) SizeOpen (i + digits s + 1))
    (fault SizeOpen (i + digits s))))

-- the name, and what stands behind it where it is closed
unfoldable pub line_name_faults : ℕ → List ℕ → Option Fault
line_name_faults i s =
    earlier (name_faults 13 i s)
    (pick (occurs 13 s) (end_faults (i + length (up_to 13 s) + 1) (drop (length (up_to 13 s) + 1) s)) None)

-- the stamp, and the name where the stamp is closed
unfoldable pub line_stamp_faults : ℕ → List ℕ → Option Fault
line_stamp_faults i s =
    earlier (stamp_faults i s)
    (pick (begins 35 (drop 8 s)) (line_name_faults (i + 9) (drop 9 s))
    (pick (begins_both 63 35 (drop 8 s)) (line_name_faults (i + 10) (drop 10 s)) None))

-- the `$`, and the stamp where it stands
unfoldable pub line_dollar_faults : ℕ → List ℕ → Option Fault
line_dollar_faults i s =
    earlier (when (not (begins 36 s)) Other i)
    (pick (begins 36 s) (line_stamp_faults (i + 1) (drop 1 s)) None)

-- the CRC, and the rest where its digits are closed
unfoldable pub line_crc_faults : ℕ → List ℕ → Option Fault
line_crc_faults i s =
    earlier (crc_faults 35 i s)
    (pick (begins 35 (past_digits s)) (line_dollar_faults (i + digits s + 1) (drop 1 (past_digits s))) None)

-- the size; nothing behind its `\r`, the CRC behind its `#|`
unfoldable pub line_faults : ℕ → List ℕ → Option Fault
line_faults i s =
    earlier (line_size_faults i s)
    (pick (begins 13 (past_digits s)) (end_faults (i + digits s + 1) (drop 1 (past_digits s)))
    (pick (begins_both 35 124 (past_digits s)) (line_crc_faults (i + digits s + 2) (drop 2 (past_digits s))) None))
