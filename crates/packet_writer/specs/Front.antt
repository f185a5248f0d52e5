-- Only contracts of private functions cite this.
use Rattle.std.specs.Prelude.{ℕ, List, [], ◌∷◌, ◌++◌}
use Rattle.numbers.specs.Writing.{decimal}

-- a 00 n 00: so begin the data of HD, where a is the name, and of RE, where it is `R`
abbrev pub front : List ℕ → ℕ → List ℕ
front a n = (a ++ (0 ∷ [])) ++ (decimal n ++ (0 ∷ []))
