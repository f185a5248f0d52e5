-- Packets with their bytes, and the bytes that each is written as. (Document 01, "Packets of YAPP".)
use Rattle.packets.specs.declared.Resume.{Resume}
use Rattle.std.specs.Prelude.{ℕ, ◌%◌, List, [], ◌∷◌, ◌++◌, Bool, true, false, not, ◌&&◌, length, leb, None, Option, Some}
use Rattle.fields.specs.Pick.{pick}
use Rattle.fields.specs.Lists.{bytes_at}
use Rattle.fields.specs.Name.{is_name}
use Rattle.numbers.specs.Writing.{decimal, hex}
use Rattle.fields.specs.Buffer.{Form, formless, bytes, form_if}
use Rattle.fields.specs.declared.Fault.{Fault}
pub use Rattle.fields.specs.Stamps.{stamp_fits}
use Rattle.packets.specs.declared.Packet.{Packet}
use Rattle.packets.specs.declared.Packet.TheVariants.{RR, RF, AF, AT, CA, RT, SI, RI, HD, Malformed, DT, EF, ET, NR, RE, CN, TX, Dropped, Open}
use Rattle.packets.specs.Packet.{resume_read, checksum}

-- a packet with the bytes themselves where the code's `Packet` has their places
pub data Content : Type 0 where
  rr rf af at ca rt si ef et : Content
  ri nr cn tx : List ℕ → Content
  hd : List ℕ → ℕ → Option ℕ → Content
  malformed : Fault → Content
  dt : List ℕ → Bool → Content
  re : ℕ → Bool → Content
  dropped : ℕ → Content
  unfinished : Content

-- a packet whose places are in s
unfoldable pub content_of : List ℕ → Packet → Content
content_of s RR = rr
content_of s RF = rf
content_of s AF = af
content_of s AT = at
content_of s CA = ca
content_of s RT = rt
content_of s SI = si
content_of s (RI p) = ri (bytes_at s p)
content_of s (HD h) = hd (bytes_at s h.name) h.size h.stamp
content_of s (Malformed f) = malformed f
content_of s (DT b) = dt (bytes_at s b.place) b.sound
content_of s EF = ef
content_of s ET = et
content_of s (NR p) = nr (bytes_at s p)
content_of s (RE r) = re r.position r.checked
content_of s (CN p) = cn (bytes_at s p)
content_of s (TX p) = tx (bytes_at s p)
content_of s (Dropped n) = dropped n
content_of s Open = unfinished

-- lead len data, with at most 255 bytes of data
abbrev pub counted_form : ℕ → List ℕ → Form
counted_form lead s = form_if (leb (length s) 255) (lead ∷ length s ∷ s)

-- the option: the stamp in eight hex digits and 00, or nothing
unfoldable pub stamp_data : Option ℕ → List ℕ
stamp_data (Some v) = hex 8 v ++ (0 ∷ [])
stamp_data None = []

-- name 00 size 00 option
unfoldable pub header_data : List ℕ → ℕ → Option ℕ → List ℕ
header_data name size stamp = (((name ++ (0 ∷ [])) ++ decimal size) ++ (0 ∷ [])) ++ stamp_data stamp

-- HD: 01 len name 00 size 00 option, with name and numbers within the limits
unfoldable pub header_form : List ℕ → ℕ → Option ℕ → Form
header_form name size stamp =
    form_if (is_name name && (leb size 99999999 && stamp_fits stamp))
    (1 ∷ length (header_data name size stamp) ∷ header_data name size stamp)

-- DT: 02 len data, 1 to 256 bytes; len 00 means 256; in YappC the checksum behind them
unfoldable pub block_form : Bool → List ℕ → Form
block_form checked d =
    form_if (leb 1 (length d) && leb (length d) 256)
    ((2 ∷ length d % 256 ∷ d) ++ pick checked (checksum d ∷ []) [])

abbrev pub is_asked : Option Resume → Bool
is_asked (Some r) = true
is_asked None = false

-- NR: 15 len reason; a reason that would read as a resume has no form
unfoldable pub refusal_form : List ℕ → Form
refusal_form s = form_if (leb (length s) 255 && not (is_asked (resume_read s))) (0x15 ∷ length s ∷ s)

-- `R` 00 position 00, and with checksums `C` 00
unfoldable pub resume_data : ℕ → Bool → List ℕ
resume_data position checked = (82 ∷ 0 ∷ decimal position) ++ (0 ∷ pick checked (67 ∷ 0 ∷ []) [])

-- RE: 15 len resume, the position within the limits of a size
unfoldable pub resume_form : ℕ → Bool → Form
resume_form position checked =
    form_if (leb position 99999999) (0x15 ∷ length (resume_data position checked) ∷ resume_data position checked)

-- RI: 05 02 len filespec
unfoldable pub request_form : List ℕ → Form
request_form s = form_if (leb (length s) 255) (5 ∷ 2 ∷ length s ∷ s)

-- the bytes of a packet, in plain YAPP or in YappC. Only a DT differs between the two. A DT whose checksum disagreed, a malformed
-- header, dropped bytes and an unfinished packet have no form
unfoldable pub form_of : Bool → Content → Form
form_of checked rr = bytes (6 ∷ 1 ∷ [])
form_of checked rf = bytes (6 ∷ 2 ∷ [])
form_of checked af = bytes (6 ∷ 3 ∷ [])
form_of checked at = bytes (6 ∷ 4 ∷ [])
form_of checked ca = bytes (6 ∷ 5 ∷ [])
form_of checked rt = bytes (6 ∷ 6 ∷ [])
form_of checked si = bytes (5 ∷ 1 ∷ [])
form_of checked (ri s) = request_form s
form_of checked (hd name size stamp) = header_form name size stamp
form_of checked (malformed f) = formless
form_of checked (dt d true) = block_form checked d
form_of checked (dt d false) = formless
form_of checked ef = bytes (3 ∷ 1 ∷ [])
form_of checked et = bytes (4 ∷ 1 ∷ [])
form_of checked (nr s) = refusal_form s
form_of checked (re position c) = resume_form position c
form_of checked (cn s) = counted_form 0x18 s
form_of checked (tx s) = counted_form 0x10 s
form_of checked (dropped n) = formless
form_of checked unfinished = formless
