-- The texts of an NR and of a `#NO#`. (Document 01, "Numbers that refuse or end".)
use Rattle.std.specs.Prelude.{ℕ, List, [], ◌∷◌}

-- 71 to 76 and 7
abbrev pub format_text : List ℕ
format_text = 102 ∷ 111 ∷ 114 ∷ 109 ∷ 97 ∷ 116 ∷ []

-- 8
abbrev pub room_text : List ℕ
room_text = 114 ∷ 111 ∷ 111 ∷ 109 ∷ []

-- 9
abbrev pub have_text : List ℕ
have_text = 104 ∷ 97 ∷ 118 ∷ 101 ∷ []

-- 10
abbrev pub differs_text : List ℕ
differs_text = 100 ∷ 105 ∷ 102 ∷ 102 ∷ 101 ∷ 114 ∷ 115 ∷ []

-- 21
abbrev pub one_text : List ℕ
one_text = 111 ∷ 110 ∷ 101 ∷ []
