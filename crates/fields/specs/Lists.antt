-- Words about lists of bytes that every crate uses.
use Rattle.std.specs.Prelude.{ℕ, Bool, true, false, ◌&&◌, List, [], ◌∷◌, take, drop, eqb}
use Rattle.fields.specs.Pick.{pick}
use Rattle.fields.specs.declared.Place.{Place}

-- up to count bytes of s from index from on: as many as there are
abbrev pub part : ℕ → ℕ → List ℕ → List ℕ
part from count s = take count (drop from s)

-- the bytes of s at a place
abbrev pub bytes_at : List ℕ → Place → List ℕ
bytes_at s p = part p.start p.len s

-- where nothing stands
abbrev pub nowhere : Place
nowhere = record { start = 0; len = 0 }

-- f holds of every element
unfoldable pub all : (ℕ → Bool) → List ℕ → Bool
all f [] = true
all f (x ∷ s) = f x && all f s

-- the bytes before the first x; all of them where there is none
unfoldable pub up_to : ℕ → List ℕ → List ℕ
up_to x [] = []
up_to x (c ∷ s) = pick (eqb c x) [] (c ∷ up_to x s)

-- whether two lists are equal
unfoldable pub same : List ℕ → List ℕ → Bool
same [] [] = true
same [] (y ∷ t) = false
same (x ∷ s) [] = false
same (x ∷ s) (y ∷ t) = pick (eqb x y) (same s t) false
