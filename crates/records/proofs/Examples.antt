-- Document 01's record (`lot7.csv`, size 300, kept 200), which `transfers` has written, is read; and the same with a stamp, both ways.
-- Assumes nothing.
use Rattle.std.specs.Prelude.{None, Some}
use mathlib.Core.Path.{◌≡◌, refl}
use mathlib.Core.List.{List, [], ◌∷◌}
use Prim.Native.Nat.{ℕ}
use Rattle.fields.specs.Lists.{all}
use Rattle.fields.specs.Name.{is_name_byte, is_name}
use Rattle.numbers.specs.Reading.{little_value}
use Rattle.numbers.specs.Writing.{little}
use Rattle.fields.specs.Buffer.{bytes}
use Rattle.records.specs.Record.{named_at, kind_read, record_of}
use Rattle.records.specs.Saved.{saved, kind_of, stamp_bytes, record_data, record_bytes, is_saved, record_form}

-- the bytes of `lot7.csv`
abbrev lot7 : List ℕ
lot7 = 0x6C ∷ 0x6F ∷ 0x74 ∷ 0x37 ∷ 0x2E ∷ 0x63 ∷ 0x73 ∷ 0x76 ∷ []

-- 13 00 01 00 2C 01 00 00 C8 00 00 00 08, name
abbrev without : List ℕ
without = 0x13 ∷ 0x00 ∷ 0x01 ∷ 0x00 ∷ 0x2C ∷ 0x01 ∷ 0x00 ∷ 0x00 ∷ 0xC8 ∷ 0x00 ∷ 0x00 ∷ 0x00 ∷ 0x08 ∷ lot7

-- with the stamp 5A214800: four bytes more, which the length counts, and kind 2
abbrev stamped : List ℕ
stamped =
    0x17 ∷ 0x00 ∷ 0x02 ∷ 0x00 ∷ 0x2C ∷ 0x01 ∷ 0x00 ∷ 0x00 ∷ 0xC8 ∷ 0x00 ∷ 0x00 ∷ 0x00 ∷ 0x00 ∷ 0x48 ∷ 0x21 ∷ 0x5A ∷ 0x08 ∷ lot7

pub written-stamped : record_form (saved lot7 300 200 (Some 0x5A214800)) ≡ bytes stamped
unfolding record_form is_saved is_name is_name_byte all record_bytes record_data kind_of stamp_bytes little
written-stamped = refl

pub read : record_of without ≡ Some (record { size = 300; kept = 200; stamp = None; name = record { start = 13; len = 8 } })
unfolding record_of kind_read named_at is_name is_name_byte all little_value
read = refl

pub read-stamped : record_of stamped ≡ Some (record { size = 300; kept = 200; stamp = Some 0x5A214800; name = record { start = 17; len = 8 } })
unfolding record_of kind_read named_at is_name is_name_byte all little_value
read-stamped = refl
