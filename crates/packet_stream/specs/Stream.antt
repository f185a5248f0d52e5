-- A whole stream of bytes: its packets and drops, and what a reader makes of it in chunks.
use Rattle.std.specs.Prelude.{ℕ, zero, suc, ◌+◌, ◌<◌, List, [], ◌∷◌, ◌++◌, Bool, length, get_or, drop}
use Rattle.packets.specs.declared.spans.Span.{Span}
use Rattle.packets.specs.declared.spans.Span.TheVariants.{Open, Whole, Drop}
use Rattle.packets.specs.Span.{span}
use Rattle.packets.specs.Packet.{packet_in}
use Rattle.packets.specs.Content.{Content, content_of}
use Rattle.packet_stream.specs.declared.Reader.{Reader}
use Rattle.packet_stream.specs.declared.Received.{Received}
use Rattle.packet_stream.specs.Reader.{receive}

-- a packet or a drop: its span, which says how long it is, and its content
pub record Piece : Type 0 where
  pub span : Span
  pub content : Content

-- the packets and drops of a stream in their order, and the bytes left behind them, which are an unfinished packet or none
pub record Stream : Type 0 where
  pub pieces : List Piece
  pub left : List ℕ

abbrev pub piece_of : Bool → Span → List ℕ → Piece
piece_of k v b = record { span = v; content = content_of b (packet_in k v b) }

abbrev pub joined : Piece → Stream → Stream
joined p s = record { pieces = p ∷ s.pieces; left = s.left }

-- the bytes b are at hand: go on with them while the packet is open, else it is a piece and the next starts from nothing
abbrev pub by_span : Bool → Span → List ℕ → Stream → Stream → Stream
by_span k Open b on next = on
by_span k (Whole n) b on next = joined (piece_of k (Whole n) b) next
by_span k (Drop n) b on next = joined (piece_of k (Drop n) b) next

-- the packets and drops of p ++ s, where p is an unfinished packet
unfoldable pub stream_from : Bool → List ℕ → List ℕ → Stream
stream_from k p [] = record { pieces = []; left = p }
stream_from k p (x ∷ s) =
    by_span k (span k (p ++ (x ∷ []))) (p ++ (x ∷ [])) (stream_from k (p ++ (x ∷ [])) s) (stream_from k [] s)

abbrev pub stream_of : Bool → List ℕ → Stream
stream_of k s = stream_from k [] s

-- what a reader made of some chunks: the reader, the packets and drops, and how many bytes it took in all
pub record Run : Type 0 where
  pub reader : Reader
  pub pieces : List Piece
  pub taken : ℕ

abbrev pub noted : Span → Received → List Piece → List Piece
noted Open a l = l
noted (Whole n) a l = record { span = Whole n; content = content_of a.reader.pending a.packet } ∷ l
noted (Drop n) a l = record { span = Drop n; content = content_of a.reader.pending a.packet } ∷ l

abbrev pub ran : Received → Run → Run
ran a m = record { reader = m.reader; pieces = noted a.found a m.pieces; taken = a.taken + m.taken }

-- one chunk handed over: each call gets what the call before did not take. A call takes at least one byte, so as many calls as the
-- chunk has bytes are enough
unfoldable pub hand_over : ℕ → Reader → List ℕ → Run
hand_over zero r s = record { reader = r; pieces = []; taken = 0 }
hand_over (suc n) r s = ran (receive r s) (hand_over n (receive r s).reader (drop (receive r s).taken s))

abbrev pub run_behind : Run → Run → Run
run_behind a b = record { reader = b.reader; pieces = a.pieces ++ b.pieces; taken = a.taken + b.taken }

-- chunk after chunk
unfoldable pub hand_all : Reader → List (List ℕ) → Run
hand_all r [] = record { reader = r; pieces = []; taken = 0 }
hand_all r (c ∷ cs) = run_behind (hand_over (length c) r c) (hand_all (hand_over (length c) r c).reader cs)

-- what is asked of a stream in the theorems: each of its elements is a byte
abbrev pub Bytes : List ℕ → Type 0
Bytes s = (i : ℕ) → get_or s i 0 < 256
