-- What the bytes of a saved record say. (Document 01, "The saved record": little-endian: length (2 bytes, counting what follows),
-- kind (2), size (4), kept (4), for kind 2 a stamp (4), name length (1), name.)
use Rattle.records.specs.declared.Record.{Record}
use Rattle.std.specs.Prelude.{ℕ, ◌+◌, List, length, leb, eqb, None, Option, Some}
use Rattle.fields.specs.Pick.{pick}
use Rattle.fields.specs.Lists.{part}
use Rattle.fields.specs.Name.{is_name}
use Rattle.numbers.specs.Reading.{little_value}

-- the number that w bytes of b from index i on are; bytes past the end are 0
abbrev pub number_at : ℕ → ℕ → List ℕ → ℕ
number_at i w b = little_value (part i w b)

-- size (4), kept (4), a stamp read already, and from index i on name length (1) and name; nothing may follow, and a name or size
-- outside the limits makes it unreadable
unfoldable pub named_at : ℕ → Option ℕ → List ℕ → Option Record
named_at i stamp b =
    pick (eqb (i + 1 + number_at i 1 b) (length b))
    (pick (is_name (part (i + 1) (number_at i 1 b) b))
    (pick (leb (number_at 4 4 b) 99999999)
    (Some (record {
      size = number_at 4 4 b;
      kept = number_at 8 4 b;
      stamp = stamp;
      name = record { start = i + 1; len = number_at i 1 b };
    }))
    None) None) None

-- kind 1 has no stamp, kind 2 has one behind the kept count; there is no other kind
unfoldable pub kind_read : ℕ → List ℕ → Option Record
kind_read kind b =
    pick (eqb kind 1) (named_at 12 None b)
    (pick (eqb kind 2) (named_at 16 (Some (number_at 12 4 b)) b) None)

-- a length that counts what follows it, and then the kind
unfoldable pub record_of : List ℕ → Option Record
record_of b = pick (eqb (2 + number_at 0 2 b) (length b)) (kind_read (number_at 2 2 b) b) None

-- document 01's number for each answer: 1 record unreadable
unfoldable pub read_number : Option Record → ℕ
read_number (Some r) = 0
read_number None = 1
