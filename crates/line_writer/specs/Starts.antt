-- Only contracts of private functions cite this. How both lines start.
use Rattle.std.specs.Prelude.{ℕ, List, [], ◌∷◌, ◌++◌}
use Rattle.lines.specs.Frame.{line_mark}

-- `#BIN#`size, and the byte behind it
abbrev pub line_size : List ℕ → ℕ → List ℕ
line_size size end = line_mark ++ (size ++ (end ∷ []))
