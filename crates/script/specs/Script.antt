-- A script's words, numbers and bytes, and which scripts are played.
use Rattle.std.specs.Prelude.{ℕ, zero, suc, ◌+◌, ◌-◌, ◌*◌, Bool, true, false, ◌&&◌, List, [], ◌∷◌, ◌++◌, length, take, drop, get_or, leb, eqb, codes, None, Option, Some}
use Rattle.fields.specs.Pick.{pick}
use Rattle.fields.specs.Lists.{part, same, up_to}
use Rattle.fields.specs.Buffer.{over}
use Rattle.numbers.specs.Reading.{read_size}

-- the bytes behind the first x; none where there is none
unfoldable pub behind : ℕ → List ℕ → List ℕ
behind x s = drop (length (up_to x s) + 1) s

-- the word with a number, from 0 on: words have one space between them
unfoldable pub word_of : ℕ → List ℕ → List ℕ
word_of zero s = up_to 32 s
word_of (suc n) s = word_of n (behind 32 s)

-- 0 for what is no number
abbrev pub value_of : Option ℕ → ℕ
value_of (Some v) = v
value_of None = 0

-- up to nine digits: one more than a file's length has
unfoldable pub number_of : List ℕ → ℕ
number_of s = pick (eqb (length s) 9) (value_of (read_size (part 0 1 s)) * 100000000 + value_of (read_size (part 1 8 s))) (value_of (read_size s))

-- the value of a hex digit in capitals; 0 for any other byte
unfoldable pub nibble : ℕ → ℕ
nibble c = pick (leb 48 c && leb c 57) (c - 48) (pick (leb 65 c && leb c 70) (c - 55) 0)

-- the byte that s starts with, as it is or as `<0D>`
unfoldable pub byte_of : List ℕ → ℕ
byte_of s = pick (eqb (get_or s 0 0) 60) (nibble (get_or s 1 0) * 16 + nibble (get_or s 2 0)) (get_or s 0 0)

-- the byte that s starts with; none where its first bytes belong to a byte before: left of them
unfoldable pub first_of : ℕ → List ℕ → List ℕ
first_of left s = pick (eqb left 0) (byte_of s ∷ []) []

-- how many bytes behind c belong to a byte before them: two digits and `>` behind `<`
unfoldable pub left_behind : ℕ → ℕ → ℕ
left_behind left c = pick (eqb left 0) (pick (eqb c 60) 3 0) (left - 1)

-- the bytes that s says
unfoldable pub decoded : ℕ → List ℕ → List ℕ
decoded left [] = []
decoded left (c ∷ s) = first_of left (take 3 (c ∷ s)) ++ decoded (left_behind left c) s

-- how many bytes are laid into a buffer d that has no fewer bytes than s
unfoldable pub decoded_count : List ℕ → List ℕ → ℕ
decoded_count s d = pick (leb (length s) (length d)) (length (decoded 0 s)) 0

-- d with them in the place of its first bytes; a shorter d stays
unfoldable pub decoded_into : List ℕ → List ℕ → List ℕ
decoded_into s d = pick (leb (length s) (length d)) (over 0 (decoded 0 s) d) d

-- the number of a word among k words from the i-th on; i + k where it is none of them
unfoldable pub place_in : ℕ → ℕ → List ℕ → List ℕ → ℕ
place_in zero i words w = i
place_in (suc k) i words w = pick (same (word_of i words) w) i (place_in k (i + 1) words w)

-- how long a line is that has n bytes already, with c
unfoldable pub line_with : ℕ → ℕ → ℕ
line_with n c = pick (eqb c 10) 0 (n + 1)

-- whether no line has more than 1,200 bytes; n are before s
unfoldable pub lines_fit : ℕ → List ℕ → Bool
lines_fit n [] = true
lines_fit n (c ∷ s) = pick (leb (line_with n c) 1200) (lines_fit (line_with n c) s) false

-- a script of at most 16,384 bytes whose lines fit, and none of any other
unfoldable pub playable : List ℕ → List ℕ
playable s = pick (leb (length s) 16384 && lines_fit 0 s) s []

-- the lines that are printed of a script that is not played
abbrev pub script_too_long : List ℕ
script_too_long = codes "the script is too long: it has more than 16384 bytes\n"

abbrev pub line_too_long : List ℕ
line_too_long = codes "a line of the script is too long: it has more than 1200 bytes\n"

-- which of them is
unfoldable pub refusal : List ℕ → List ℕ
refusal s = pick (leb (length s) 16384) (pick (lines_fit 0 s) [] line_too_long) script_too_long
