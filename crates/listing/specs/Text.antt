-- The listing of a capture. (Document 01, "Examples": a header line, one line for each packet, `BAD` with 1 or 2 for each drop, `CUT` and
-- the bytes left for an unfinished packet, the end line. DT is listed as plain YAPP.)
use Rattle.std.specs.Prelude.{ℕ, ◌+◌, false, List, [], ◌∷◌, ◌++◌, length}
use Rattle.packets.specs.Span.{size_of}
use Rattle.packet_stream.specs.Stream.{Piece, Stream, stream_of}
use Rattle.listing.specs.Line.{line_of, ending}

-- `offset kind data` and a line feed
unfoldable pub heading : List ℕ
heading = 111 ∷ 102 ∷ 102 ∷ 115 ∷ 101 ∷ 116 ∷ 32 ∷ 107 ∷ 105 ∷ 110 ∷ 100 ∷ 32 ∷ 100 ∷ 97 ∷ 116 ∷ 97 ∷ 10 ∷ []

-- a line for each piece, the first of which starts at offset
unfoldable pub lines : ℕ → List Piece → List ℕ
lines offset [] = []
lines offset (p ∷ l) = line_of offset p.content (size_of p.span) ++ lines (offset + size_of p.span) l

-- how many bytes the pieces are
unfoldable pub size_all : List Piece → ℕ
size_all [] = 0
size_all (p ∷ l) = size_of p.span + size_all l

abbrev pub listed : Stream → ℕ → List ℕ
listed s total = heading ++ (lines 0 s.pieces ++ ending (size_all s.pieces) (length s.left) total)

-- the listing of a capture, read as plain YAPP
abbrev pub listing : List ℕ → List ℕ
listing capture = listed (stream_of false capture) (length capture)
