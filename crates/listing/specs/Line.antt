-- The lines of a listing. (Document 01, "Examples": one line for each packet, `BAD` with 1 or 2 for each drop, `CUT` and the bytes left for an
-- unfinished packet, the end line.)
use Rattle.std.specs.Prelude.{ℕ, ◌-◌, List, [], ◌∷◌, ◌++◌, ◌==◌}
use Rattle.fields.specs.Pick.{pick}
use Rattle.numbers.specs.Writing.{decimal}
use Rattle.packets.specs.Content.{Content, unfinished}
use Rattle.packets.specs.Kind.{RR, RF, AF, AT, CA, RT, SI, RI, HD, DT, EF, ET, NR, RE, CN, TX, BadHD, Unreadable, Unfinished, kind_of, look}

-- the letters of a kind; a malformed header is listed as the HD that it is
unfoldable pub letters : ℕ → List ℕ
letters k =
    look k
    ((RR, 82 ∷ 82 ∷ []) ∷ (RF, 82 ∷ 70 ∷ []) ∷ (AF, 65 ∷ 70 ∷ []) ∷ (AT, 65 ∷ 84 ∷ []) ∷ (CA, 67 ∷ 65 ∷ []) ∷ (RT, 82 ∷ 84 ∷ [])
    ∷ (SI, 83 ∷ 73 ∷ []) ∷ (RI, 82 ∷ 73 ∷ []) ∷ (HD, 72 ∷ 68 ∷ []) ∷ (BadHD, 72 ∷ 68 ∷ []) ∷ (DT, 68 ∷ 84 ∷ []) ∷ (EF, 69 ∷ 70 ∷ [])
    ∷ (ET, 69 ∷ 84 ∷ []) ∷ (NR, 78 ∷ 82 ∷ []) ∷ (RE, 82 ∷ 69 ∷ []) ∷ (CN, 67 ∷ 78 ∷ []) ∷ (TX, 84 ∷ 88 ∷ [])
    ∷ (Unreadable, 66 ∷ 65 ∷ 68 ∷ []) ∷ [])
    (67 ∷ 85 ∷ 84 ∷ [])

-- the bytes that are not data: three in RI, none of a drop or of an unfinished packet, else the two leading ones
unfoldable pub overhead : ℕ → ℕ
overhead k = look k ((RI, 3) ∷ (Unreadable, 0) ∷ (Unfinished, 0) ∷ []) 2

-- offset kind data
unfoldable pub line : ℕ → List ℕ → ℕ → List ℕ
line offset kind count = ((((decimal offset ++ (32 ∷ [])) ++ kind) ++ (32 ∷ [])) ++ decimal count) ++ (10 ∷ [])

-- the line of what starts at an offset and has so many bytes
abbrev pub line_of : ℕ → Content → ℕ → List ℕ
line_of offset c size = line offset (letters (kind_of c)) (size - overhead (kind_of c))

-- the line of an unfinished packet of n bytes at offset, if there is one
unfoldable pub cut : ℕ → ℕ → List ℕ
cut offset n = pick (n == 0) [] (line_of offset unfinished n)

-- behind it `end` with the count of all bytes
unfoldable pub ending : ℕ → ℕ → ℕ → List ℕ
ending offset n total = ((cut offset n ++ (101 ∷ 110 ∷ 100 ∷ 32 ∷ [])) ++ decimal total) ++ (10 ∷ [])
