-- A saved record with its name, and the bytes that it is written as. (Document 01, "The saved record".)
use Rattle.std.specs.Prelude.{ℕ, Bool, ◌&&◌, List, [], ◌++◌, length, leb, None, Option, Some}
use Rattle.fields.specs.Lists.{bytes_at}
use Rattle.fields.specs.Name.{is_name}
use Rattle.numbers.specs.Writing.{little}
use Rattle.fields.specs.Buffer.{Form, form_if}
pub use Rattle.fields.specs.Stamps.{stamp_fits}
use Rattle.records.specs.declared.Record.{Record}

-- a record with the name's bytes where the code's `Record` has their place
pub record Saved : Type 0 where
  pub size : ℕ
  pub kept : ℕ
  pub stamp : Option ℕ
  pub name : List ℕ

-- a record whose name's place is in b
abbrev pub saved_of : List ℕ → Record → Saved
saved_of b r = record { size = r.size; kept = r.kept; stamp = r.stamp; name = bytes_at b r.name }

abbrev pub saved : List ℕ → ℕ → ℕ → Option ℕ → Saved
saved name size kept stamp = record { size = size; kept = kept; stamp = stamp; name = name }

-- kind 2 is used exactly where there is a stamp; kind 1 has none
unfoldable pub kind_of : Option ℕ → ℕ
kind_of (Some v) = 2
kind_of None = 1

unfoldable pub stamp_bytes : Option ℕ → List ℕ
stamp_bytes (Some v) = little 4 v
stamp_bytes None = []

-- what follows the length: kind (2), size (4), kept (4), for kind 2 a stamp (4), name length (1), name
unfoldable pub record_data : Saved → List ℕ
record_data s =
    little 2 (kind_of s.stamp) ++ little 4 s.size ++ little 4 s.kept ++ stamp_bytes s.stamp
    ++ little 1 (length s.name) ++ s.name

-- length (2 bytes, counting what follows), and what follows
unfoldable pub record_bytes : Saved → List ℕ
record_bytes s = little 2 (length (record_data s)) ++ record_data s

-- name and size within the limits, and kept count and stamp of four bytes
unfoldable pub is_saved : Saved → Bool
is_saved s = is_name s.name && (leb s.size 99999999 && (leb s.kept 0xFFFFFFFF && stamp_fits s.stamp))

-- the bytes of a record
unfoldable pub record_form : Saved → Form
record_form s = form_if (is_saved s) (record_bytes s)
