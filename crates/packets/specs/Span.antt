-- How far the packet at the front of some bytes reaches. (Document 01, "Packets of YAPP".)
use Rattle.std.specs.Prelude.{ℕ, ◌+◌, ◌-◌, List, Bool, true, ◌&&◌, ◌||◌, length, get_or, leb, eqb}
use Rattle.fields.specs.Pick.{pick}
use Rattle.packets.specs.declared.spans.Span.{Span}
use Rattle.packets.specs.declared.spans.Span.TheVariants.{Open, Whole, Drop}
use Rattle.fields.specs.declared.Place.{Place}

-- the bytes that start a packet: HD 01, DT 02, EF 03, ET 04, SI and RI 05, the acknowledgements 06, TX 10, NAK 15, CN 18
unfoldable pub known : ℕ → Bool
known a = (leb 1 a && leb a 6) || (eqb a 0x10 || (eqb a 0x15 || eqb a 0x18))

-- EF and ET have 01 behind them, SI and RI 01 and 02, the acknowledgements 01 to 06; the others a length
unfoldable pub paired : ℕ → ℕ → Bool
paired a b =
    pick (eqb a 3 || eqb a 4) (eqb b 1)
    (pick (eqb a 5) (eqb b 1 || eqb b 2)
    (pick (eqb a 6) (leb 1 b && leb b 6) true))

-- the bytes of data of a DT whose length byte is b: 00 means 256
unfoldable pub data_length : ℕ → ℕ
data_length b = pick (eqb b 0) 256 b

-- HD, TX, NAK and CN: the second byte counts what follows it, and 00 means no data
unfoldable pub counted : ℕ → Bool
counted a = eqb a 1 || (eqb a 0x10 || (eqb a 0x15 || eqb a 0x18))

-- the bytes of a whole packet that starts with a, b, d; in YappC (`checked`) a DT has one more, the checksum
unfoldable pub total : Bool → ℕ → ℕ → ℕ → ℕ
total checked a b d =
    pick (counted a) (2 + b)
    (pick (eqb a 2) (pick checked (data_length b + 3) (data_length b + 2))
    (pick (eqb a 5) (pick (eqb b 2) (3 + d) 2) 2))

-- of n bytes that start with a, b, d, each 0 past the end. A first byte outside the table is dropped alone, and a first byte
-- with a wrong second drops both
unfoldable pub span_at : Bool → ℕ → ℕ → ℕ → ℕ → Span
span_at checked n a b d =
    pick (eqb n 0) Open
    (pick (known a)
    (pick (eqb n 1) Open
    (pick (paired a b)
    (pick (leb (total checked a b d) n) (Whole (total checked a b d)) Open)
    (Drop 2)))
    (Drop 1))

-- the packet at the front of s: still open, whole at so many bytes, or 1 or 2 bytes to drop
abbrev pub span : Bool → List ℕ → Span
span checked s = span_at checked (length s) (get_or s 0 0) (get_or s 1 0) (get_or s 2 0)

-- how many bytes the answer takes off the front
abbrev pub size_of : Span → ℕ
size_of Open = 0
size_of (Whole n) = n
size_of (Drop n) = n

-- the bytes before the data: two, and three in RI
unfoldable pub lead : ℕ → ℕ → ℕ
lead a b = pick (eqb a 5 && eqb b 2) 3 2

-- the bytes behind the data: the checksum of a DT in YappC
unfoldable pub trail : Bool → ℕ → ℕ
trail checked a = pick (eqb a 2 && checked) 1 0

-- where the data stand in a whole packet of n bytes that starts with a and b
unfoldable pub place_at : Bool → ℕ → ℕ → ℕ → Place
place_at checked n a b = record { start = lead a b; len = n - (lead a b + trail checked a) }
