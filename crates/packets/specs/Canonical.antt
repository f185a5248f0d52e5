-- The form that we write packets in. Reading takes more: leading zeros, hex digits of either case, other options. (Document 01, "Packets of
-- YAPP": digits are written without a leading zero, hex in capitals.)
use Rattle.packets.specs.declared.Header.{Header}
use Rattle.std.specs.Prelude.{ℕ, ◌+◌, List, Bool, true, false, not, ◌&&◌, ◌||◌, length, get_or, take, drop, eqb, None, Option, Some}
use Rattle.fields.specs.Pick.{pick}
use Rattle.fields.specs.Lists.{up_to}
use Rattle.numbers.specs.Canonical.{plain, capitals}
pub use Rattle.fields.specs.Stamps.{is_present}
use Rattle.packets.specs.Packet.{stamp_of, header_read, resume_read, is_sound, place_of, data_of}
use Rattle.packets.specs.Content.{Content, is_asked}
use Rattle.packets.specs.Kind.{DT, kind_of}

-- what stands behind the first 00
abbrev pub behind : List ℕ → List ℕ
behind s = drop (length (up_to 0 s) + 1) s

abbrev pub is_good : Option Header → Bool
is_good (Some h) = true
is_good None = false

-- an option that we write: nothing, or a stamp in capitals
unfoldable pub option_in_form : List ℕ → Bool
option_in_form o = eqb (length o) 0 || (is_present (stamp_of o) && capitals (take 8 o))

-- the data of a header that is not malformed, its size without a leading zero
unfoldable pub header_in_form : List ℕ → Bool
header_in_form d = is_good (header_read d) && (plain (up_to 0 (behind d)) && option_in_form (behind (behind d)))

-- the data of a NAK: of a resume the position, behind `R` 00, without a leading zero; the reason of a Not Ready is free
unfoldable pub nak_in_form : List ℕ → Bool
nak_in_form d = not (is_asked (resume_read d)) || plain (up_to 0 (drop 2 d))

-- whether the whole packet b is in the form that we write: an HD and a NAK by their data, a DT where it is sound, every other
unfoldable pub in_form : Bool → List ℕ → Bool
in_form checked b =
    pick (eqb (get_or b 0 0) 1) (header_in_form (data_of checked b))
    (pick (eqb (get_or b 0 0) 2) (is_sound checked (place_of checked b) b)
    (pick (eqb (get_or b 0 0) 0x15) (nak_in_form (data_of checked b)) true))

-- a DT, the only packet that is written otherwise in YappC than in plain YAPP
unfoldable pub is_block : Content → Bool
is_block c = eqb (kind_of c) DT
