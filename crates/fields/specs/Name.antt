-- File names. (Document 01, "Numbers": 1 to 64 bytes, each 33 to 126, none of # / \ :)
use Rattle.std.specs.Prelude.{ℕ, Bool, not, ◌&&◌, ◌||◌, List, length, leb, eqb}
use Rattle.fields.specs.Lists.{all}

-- 33 to 126, none of # / \ :
unfoldable pub is_name_byte : ℕ → Bool
is_name_byte c = leb 33 c && (leb c 126 && not (eqb c 35 || (eqb c 47 || (eqb c 92 || eqb c 58))))

-- 1 to 64 such bytes
unfoldable pub is_name : List ℕ → Bool
is_name s = leb 1 (length s) && (leb (length s) 64 && all is_name_byte s)
