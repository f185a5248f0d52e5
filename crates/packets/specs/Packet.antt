-- What the bytes of one packet say. (Document 01, "Packets of YAPP".)
use Rattle.packets.specs.declared.Resume.{Resume}
use Rattle.packets.specs.declared.Header.{Header}
use Rattle.std.specs.Prelude.{ℕ, ◌+◌, ◌%◌, Bool, true, false, length, get_or, take, drop, ltb, eqb, None, Option, Some}
use mathlib.Core.List.{List, [], sum}
use Rattle.fields.specs.Pick.{pick}
use Rattle.fields.specs.Lists.{bytes_at, up_to}
use Rattle.fields.specs.Name.{is_name}
use Rattle.numbers.specs.Reading.{read_size, read_hex}
use Rattle.faults.specs.Faults.{header_fault}
use Rattle.packets.specs.Span.{span, place_at}
use Rattle.fields.specs.declared.Place.{Place}
use Rattle.packets.specs.declared.spans.Span.{Span}
use Rattle.packets.specs.declared.spans.Span.TheVariants.{Open as Unfinished, Whole, Drop}
use Rattle.packets.specs.declared.Packet.{Packet}
use Rattle.packets.specs.declared.Packet.TheVariants.{RR, RF, AF, AT, CA, RT, SI, RI, HD, Malformed, DT, EF, ET, NR, RE, CN, TX, Dropped, Open}

-- ---- HD: 01 len name 00 size 00 option

abbrev pub stamp_by : Option ℕ → Option ℕ
stamp_by (Some v) = Some v
stamp_by None = None

-- the option: exactly eight hex digits and 00 are the stamp, any other option is skipped
unfoldable pub stamp_of : List ℕ → Option ℕ
stamp_of o = pick (eqb (length o) 9) (pick (eqb (get_or o 8 0) 0) (stamp_by (read_hex (take 8 o))) None) None

abbrev pub sized_by : ℕ → Option ℕ → List ℕ → Option Header
sized_by n (Some v) o = Some (record { name = record { start = 2; len = n }; size = v; stamp = stamp_of o })
sized_by n None o = None

-- behind a name of n bytes and its 00: the size, which is 1 to 8 digits, 00, the option
unfoldable pub header_size : ℕ → List ℕ → Option Header
header_size n t =
    pick (ltb (length (up_to 0 t)) (length t)) (sized_by n (read_size (up_to 0 t)) (drop (length (up_to 0 t) + 1) t)) None

-- a header's data: a name within the limits, 00, and the rest
unfoldable pub header_read : List ℕ → Option Header
header_read d =
    pick (ltb (length (up_to 0 d)) (length d))
    (pick (is_name (up_to 0 d)) (header_size (length (up_to 0 d)) (drop (length (up_to 0 d) + 1) d)) None) None

abbrev pub header_by : List ℕ → Option Header → Packet
header_by d (Some h) = HD h
header_by d None = Malformed (header_fault d)

-- the packet that a header with these data is; what is malformed carries what is wrong, and where (change request 2026-02)
abbrev pub header_packet : List ℕ → Packet
header_packet d = header_by d (header_read d)

-- ---- NR or RE: 15 len data

-- behind a resume's digits and their 00: nothing, or `C` 00, nothing more
unfoldable pub resume_mode : ℕ → List ℕ → Option Resume
resume_mode v t =
    pick (eqb (length t) 0) (Some (record { position = v; checked = false }))
    (pick (eqb (length t) 2)
    (pick (eqb (get_or t 0 0) 67) (pick (eqb (get_or t 1 0) 0) (Some (record { position = v; checked = true })) None) None)
    None)

abbrev pub resume_by : Option ℕ → List ℕ → Option Resume
resume_by (Some v) t = resume_mode v t
resume_by None t = None

-- behind `R` 00: 1 to 8 digits, 00, and the rest
unfoldable pub resume_digits : List ℕ → Option Resume
resume_digits t = pick (ltb (length (up_to 0 t)) (length t)) (resume_by (read_size (up_to 0 t)) (drop (length (up_to 0 t) + 1) t)) None

-- the data of a NAK: `R` 00, 1 to 8 digits, 00, and optionally `C` 00
unfoldable pub resume_read : List ℕ → Option Resume
resume_read d = pick (ltb (length d) 2) None (pick (eqb (get_or d 0 0) 82) (pick (eqb (get_or d 1 0) 0) (resume_digits (drop 2 d)) None) None)

-- a NAK whose data are not a resume is a Not Ready
abbrev pub nak_by : Option Resume → Place → Packet
nak_by (Some r) p = RE r
nak_by None p = NR p

-- ---- DT: 02 len data, and in YappC the checksum

-- the sum of the data modulo 256
unfoldable pub checksum : List ℕ → ℕ
unfolding sum
checksum s = sum ◌+◌ 0 s % 256

-- whether the byte behind the data is their checksum; in plain YAPP there is none to disagree
unfoldable pub is_sound : Bool → Place → List ℕ → Bool
is_sound checked p b = pick checked (eqb (checksum (bytes_at b p)) (get_or b (p.start + p.len) 0)) true

-- ---- the whole

-- 06 01 to 06 06
unfoldable pub acknowledge_of : ℕ → Packet
acknowledge_of b = pick (eqb b 1) RR (pick (eqb b 2) RF (pick (eqb b 3) AF (pick (eqb b 4) AT (pick (eqb b 5) CA RT))))

-- 05 01 is SI, 05 02 is RI
abbrev pub enquiry_by : ℕ → Place → Packet
enquiry_by b p = pick (eqb b 1) SI (RI p)

-- where the data of the packet stand that b is
abbrev pub place_of : Bool → List ℕ → Place
place_of checked b = place_at checked (length b) (get_or b 0 0) (get_or b 1 0)

-- the data of the packet that b is
abbrev pub data_of : Bool → List ℕ → List ℕ
data_of checked b = bytes_at b (place_of checked b)

-- what b says, which is one whole packet
unfoldable pub whole_of : Bool → List ℕ → Packet
whole_of checked b =
    pick (eqb (get_or b 0 0) 1) (header_packet (data_of checked b))
    (pick (eqb (get_or b 0 0) 2) (DT (record { place = place_of checked b; sound = is_sound checked (place_of checked b) b }))
    (pick (eqb (get_or b 0 0) 3) EF
    (pick (eqb (get_or b 0 0) 4) ET
    (pick (eqb (get_or b 0 0) 5) (enquiry_by (get_or b 1 0) (place_of checked b))
    (pick (eqb (get_or b 0 0) 6) (acknowledge_of (get_or b 1 0))
    (pick (eqb (get_or b 0 0) 0x10) (TX (place_of checked b))
    (pick (eqb (get_or b 0 0) 0x15) (nak_by (resume_read (data_of checked b)) (place_of checked b))
    (CN (place_of checked b)))))))))

-- what stands at the front of b, where its span is v
abbrev pub packet_in : Bool → Span → List ℕ → Packet
packet_in checked Unfinished b = Open
packet_in checked (Drop n) b = Dropped n
packet_in checked (Whole n) b = whole_of checked (take n b)

-- what stands at the front of b
abbrev pub packet_of : Bool → List ℕ → Packet
packet_of checked b = packet_in checked (span checked b) b

abbrev pub data_in : Bool → Span → List ℕ → List ℕ
data_in checked Unfinished b = []
data_in checked (Drop n) b = []
data_in checked (Whole n) b = data_of checked (take n b)

-- the data of the packet at the front of b; none where no whole packet stands there
abbrev pub front_data : Bool → List ℕ → List ℕ
front_data checked b = data_in checked (span checked b) b
