-- Where a header, a line or an OK is wrong: one table for the three, byte by byte. (Change request 2026-02, over document 01's forms:
-- name 00 size 00 option; `#BIN#`size`\r` and `#BIN#`size`#|`crc`#$`stamp`?#`name`\r`; `#OK#\r`, `#OK#`name`\r` and `#OK#`name`#$`kept`#`crc`\r`.)
use Rattle.std.specs.Prelude.{ℕ, ◌+◌, ◌-◌, ◌*◌, List, [], ◌∷◌, Bool, true, false, drop, leb, ltb, eqb, Err, None, Ok, Option, Result, Some}
use Rattle.fields.specs.Pick.{pick}
use Rattle.fields.specs.Name.{is_name_byte}
use Rattle.fields.specs.declared.Flaw.{Flaw}
use Rattle.fields.specs.declared.Flaw.TheVariants.{NameOpen, NameLength, NameByte, NoDigits, ManyDigits, SizeOpen, Other}
use Rattle.fields.specs.declared.Fault.{Fault}
use Rattle.fields.specs.Faults.{no_fault}
use Rattle.numbers.specs.Reading.{is_digit, hex_digit}
use Rattle.faults.specs.declared.Stage.{Stage}
use Rattle.faults.specs.declared.Stage.TheVariants.{HeaderName, HeaderSize, HeaderOption, LineSize, LineBar, LineCrc, LineDollar, LineStamp, LineMark, LineName, OkName, OkDollar, OkKept, OkCrc, End}

-- ---- Parts: k bytes of one were read, and c is next. Where it belongs there, how many there are with it; None where the part stands whole before it

-- a name of 1 to 64 bytes, closed by z
unfoldable pub name_part : ℕ → ℕ → ℕ → Result (Option ℕ) Flaw
name_part z k c =
    pick (eqb c z) (pick (eqb k 0) (Err NameLength) (Ok None))
    (pick (leb 64 k) (Err NameLength)
    (pick (is_name_byte c) (Ok (Some (k + 1))) (Err NameByte)))

-- 1 to 8 digits; the byte behind them is not judged here
unfoldable pub size_part : ℕ → ℕ → Result (Option ℕ) Flaw
size_part k c =
    pick (is_digit c) (pick (leb 8 k) (Err ManyDigits) (Ok (Some (k + 1))))
    (pick (eqb k 0) (Err NoDigits) (Ok None))

-- the value of the k digits of a CRC that were read, 0 where there are none; and with the digit c
abbrev pub crc_before : ℕ → ℕ → ℕ
crc_before k v = pick (eqb k 0) 0 v

abbrev pub crc_with : ℕ → ℕ → ℕ → ℕ
crc_with k v c = crc_before k v * 10 + (c - 48)

-- 1 to 5 digits, at most 65,535: how many there are, and their value; the byte behind them is not judged here
unfoldable pub crc_part : ℕ → ℕ → ℕ → Result (Option (ℕ × ℕ)) Flaw
crc_part k v c =
    pick (is_digit c) (pick (leb 5 k) (Err Other) (pick (leb (crc_with k v c) 65535) (Ok (Some (k + 1, crc_with k v c))) (Err Other)))
    (pick (eqb k 0) (Err Other) (Ok None))

-- a hex digit of either case
abbrev pub is_hex : ℕ → Bool
is_hex c = ltb (hex_digit c) 16

-- ---- The table

abbrev pub in_part : Result (Option ℕ) Flaw → (ℕ → Stage) → Result Stage Flaw → Result Stage Flaw
in_part (Ok (Some k)) on behind = Ok (on k)
in_part (Ok None) on behind = behind
in_part (Err f) on behind = Err f

abbrev pub in_crc : Result (Option (ℕ × ℕ)) Flaw → (ℕ → ℕ → Stage) → Result Stage Flaw → Result Stage Flaw
in_crc (Ok (Some (k, v))) on behind = Ok (on k v)
in_crc (Ok None) on behind = behind
in_crc (Err f) on behind = Err f

-- x and no other byte
abbrev pub only : ℕ → ℕ → Stage → Flaw → Result Stage Flaw
only x c q f = pick (eqb c x) (Ok q) (Err f)

-- the byte behind a line's size: `\r`, or the `#` of `#|`
abbrev pub line_closing : ℕ → Result Stage Flaw
line_closing c = pick (eqb c 13) (Ok End) (only 35 c LineBar SizeOpen)

-- in an OK every fault is 7
abbrev pub in_ok : Result Stage Flaw → Result Stage Flaw
in_ok (Ok q) = Ok q
in_ok (Err f) = Err Other

-- what the byte c leads to
unfoldable pub step_of : Stage → ℕ → Result Stage Flaw
step_of (HeaderName k) c = in_part (name_part 0 k c) HeaderName (Ok (HeaderSize 0))
step_of (HeaderSize k) c = in_part (size_part k c) HeaderSize (only 0 c HeaderOption SizeOpen)
step_of HeaderOption c = Ok HeaderOption
step_of (LineSize k) c = in_part (size_part k c) LineSize (line_closing c)
step_of LineBar c = only 124 c (LineCrc 0 0) SizeOpen
step_of (LineCrc k v) c = in_crc (crc_part k v c) LineCrc (only 35 c LineDollar Other)
step_of LineDollar c = only 36 c (LineStamp 0) Other
step_of (LineStamp k) c =
    pick (leb 8 k) (pick (eqb c 63) (Ok LineMark) (only 35 c (LineName 0) Other))
    (pick (is_hex c) (Ok (LineStamp (k + 1))) (Err Other))
step_of LineMark c = only 35 c (LineName 0) Other
step_of (LineName k) c = in_part (name_part 13 k c) LineName (Ok End)
step_of (OkName k) c = pick (eqb c 13) (Ok End) (in_ok (in_part (name_part 35 k c) OkName (Ok OkDollar)))
step_of OkDollar c = only 36 c (OkKept 0) Other
step_of (OkKept k) c = in_ok (in_part (size_part k c) OkKept (only 35 c (OkCrc 0 0) Other))
step_of (OkCrc k v) c = in_crc (crc_part k v c) OkCrc (only 13 c End Other)
step_of End c = Err Other

-- the data end within a size: 74 where no digit was read, else 76
abbrev pub size_end : ℕ → Option Flaw
size_end k = Some (pick (eqb k 0) NoDigits SizeOpen)

-- whether the data may end here, or which fault it is
unfoldable pub end_of : Stage → Option Flaw
end_of (HeaderName k) = Some NameOpen
end_of (HeaderSize k) = size_end k
end_of HeaderOption = None
end_of (LineSize k) = size_end k
end_of LineBar = Some SizeOpen
end_of (LineCrc k v) = Some Other
end_of LineDollar = Some Other
end_of (LineStamp k) = Some Other
end_of LineMark = Some Other
end_of (LineName k) = Some NameOpen
end_of (OkName k) = Some Other
end_of OkDollar = Some Other
end_of (OkKept k) = Some Other
end_of (OkCrc k v) = Some Other
end_of End = None

-- ---- All of it

abbrev pub fault : Flaw → ℕ → Option Fault
fault f i = Some (record { flaw = f; offset = i })

abbrev pub end_by : Option Flaw → ℕ → Option Fault
end_by None i = None
end_by (Some f) i = fault f i

abbrev pub go_by : Result Stage Flaw → ℕ → Option Fault → Option Fault
go_by (Ok q) i on = on
go_by (Err f) i on = fault f i

-- where a move leads
abbrev pub stage_in : Result Stage Flaw → Stage
stage_in (Ok q) = q
stage_in (Err f) = End

-- the bytes s from the place i on
unfoldable pub check_from : Stage → ℕ → List ℕ → Option Fault
check_from q i [] = end_by (end_of q) i
check_from q i (c ∷ s) = go_by (step_of q c) i (check_from (stage_in (step_of q c)) (i + 1) s)

-- the data of a header
unfoldable pub check_header : List ℕ → Option Fault
check_header d = check_from (HeaderName 0) 0 d

-- a frame that starts `#BIN#`; places count in the frame
unfoldable pub check_line : List ℕ → Option Fault
check_line b = check_from (LineSize 0) 5 (drop 5 b)

-- a frame that starts `#OK#`
unfoldable pub check_ok : List ℕ → Option Fault
check_ok b = check_from (OkName 0) 4 (drop 4 b)

-- the fault that was found
abbrev pub fault_in : Option Fault → Fault
fault_in None = no_fault
fault_in (Some f) = f

abbrev pub header_fault : List ℕ → Fault
header_fault d = fault_in (check_header d)

abbrev pub line_fault : List ℕ → Fault
line_fault b = fault_in (check_line b)

abbrev pub ok_fault : List ℕ → Fault
ok_fault b = fault_in (check_ok b)

abbrev pub is_sound : Option Fault → Bool
is_sound None = true
is_sound (Some f) = false
