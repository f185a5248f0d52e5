-- Examples of the table, computed: what change request 2026-02 gives for each, worked out from its words. Assumes nothing.
use Rattle.fields.specs.declared.Fault.{Fault}
use Rattle.std.specs.Prelude.{None, Option}
use mathlib.Core.Path.{◌≡◌, refl}
use mathlib.Core.List.{List, [], ◌∷◌}
use Rattle.fields.specs.Name.{is_name_byte}
use Rattle.fields.specs.declared.Flaw.TheVariants.{NameOpen, NameLength, NameByte, NoDigits, ManyDigits, SizeOpen, Other}
use Rattle.numbers.specs.Reading.{hex_digit}
use Rattle.faults.specs.Faults.{name_part, size_part, crc_part, step_of, end_of, fault, check_from, check_header, check_line, check_ok}

-- the data of headers
abbrev headers : List (Option Fault)
headers =
    -- nothing
    check_header ([])
    -- <00>
    ∷ check_header (0 ∷ [])
    -- lot7.csv
    ∷ check_header (108 ∷ 111 ∷ 116 ∷ 55 ∷ 46 ∷ 99 ∷ 115 ∷ 118 ∷ [])
    -- lot7.csv<00>
    ∷ check_header (108 ∷ 111 ∷ 116 ∷ 55 ∷ 46 ∷ 99 ∷ 115 ∷ 118 ∷ 0 ∷ [])
    -- lot7.csv<00>300
    ∷ check_header (108 ∷ 111 ∷ 116 ∷ 55 ∷ 46 ∷ 99 ∷ 115 ∷ 118 ∷ 0 ∷ 51 ∷ 48 ∷ 48 ∷ [])
    -- lot7.csv<00>30x<00>
    ∷ check_header (108 ∷ 111 ∷ 116 ∷ 55 ∷ 46 ∷ 99 ∷ 115 ∷ 118 ∷ 0 ∷ 51 ∷ 48 ∷ 120 ∷ 0 ∷ [])
    -- lot 7.csv<00>300<00>
    ∷ check_header (108 ∷ 111 ∷ 116 ∷ 32 ∷ 55 ∷ 46 ∷ 99 ∷ 115 ∷ 118 ∷ 0 ∷ 51 ∷ 48 ∷ 48 ∷ 0 ∷ [])
    -- 65 times a, then <00>1<00>
    ∷ check_header (97 ∷ 97 ∷ 97 ∷ 97 ∷ 97 ∷ 97 ∷ 97 ∷ 97 ∷ 97 ∷ 97 ∷ 97 ∷ 97 ∷ 97 ∷ 97 ∷ 97 ∷ 97 ∷ 97 ∷ 97 ∷ 97 ∷ 97 ∷ 97 ∷ 97 ∷ 97 ∷ 97
    ∷ 97 ∷ 97 ∷ 97 ∷ 97 ∷ 97 ∷ 97 ∷ 97 ∷ 97 ∷ 97 ∷ 97 ∷ 97 ∷ 97 ∷ 97 ∷ 97 ∷ 97 ∷ 97 ∷ 97 ∷ 97 ∷ 97 ∷ 97 ∷ 97 ∷ 97 ∷ 97 ∷ 97 ∷ 97 ∷ 97 ∷ 97
    ∷ 97 ∷ 97 ∷ 97 ∷ 97 ∷ 97 ∷ 97 ∷ 97 ∷ 97 ∷ 97 ∷ 97 ∷ 97 ∷ 97 ∷ 97 ∷ 97 ∷ 0 ∷ 49 ∷ 0 ∷ [])
    -- 64 times a, then #<00>1<00>
    ∷ check_header (97 ∷ 97 ∷ 97 ∷ 97 ∷ 97 ∷ 97 ∷ 97 ∷ 97 ∷ 97 ∷ 97 ∷ 97 ∷ 97 ∷ 97 ∷ 97 ∷ 97 ∷ 97 ∷ 97 ∷ 97 ∷ 97 ∷ 97 ∷ 97 ∷ 97 ∷ 97 ∷ 97
    ∷ 97 ∷ 97 ∷ 97 ∷ 97 ∷ 97 ∷ 97 ∷ 97 ∷ 97 ∷ 97 ∷ 97 ∷ 97 ∷ 97 ∷ 97 ∷ 97 ∷ 97 ∷ 97 ∷ 97 ∷ 97 ∷ 97 ∷ 97 ∷ 97 ∷ 97 ∷ 97 ∷ 97 ∷ 97 ∷ 97 ∷ 97
    ∷ 97 ∷ 97 ∷ 97 ∷ 97 ∷ 97 ∷ 97 ∷ 97 ∷ 97 ∷ 97 ∷ 97 ∷ 97 ∷ 97 ∷ 97 ∷ 35 ∷ 0 ∷ 49 ∷ 0 ∷ [])
    -- a<00>123456789<00>
    ∷ check_header (97 ∷ 0 ∷ 49 ∷ 50 ∷ 51 ∷ 52 ∷ 53 ∷ 54 ∷ 55 ∷ 56 ∷ 57 ∷ 0 ∷ [])
    -- a<00>12345678x
    ∷ check_header (97 ∷ 0 ∷ 49 ∷ 50 ∷ 51 ∷ 52 ∷ 53 ∷ 54 ∷ 55 ∷ 56 ∷ 120 ∷ [])
    -- a<00>-1<00>
    ∷ check_header (97 ∷ 0 ∷ 45 ∷ 49 ∷ 0 ∷ [])
    -- a<00>1<00>
    ∷ check_header (97 ∷ 0 ∷ 49 ∷ 0 ∷ [])
    ∷ []

headers-agree : headers
    ≡ fault NameOpen 0 ∷ fault NameLength 0 ∷ fault NameOpen 8 ∷ fault NoDigits 9 ∷ fault SizeOpen 12 ∷ fault SizeOpen 11 ∷ fault NameByte 3
    ∷ fault NameLength 64 ∷ fault NameLength 64 ∷ fault ManyDigits 10 ∷ fault SizeOpen 10 ∷ fault NoDigits 2 ∷ None ∷ []
unfolding check_header check_line check_ok check_from step_of end_of name_part size_part crc_part is_name_byte hex_digit
headers-agree = refl

-- frames that start `#BIN#`
abbrev lines : List (Option Fault)
lines =
    -- #BIN#
    check_line (35 ∷ 66 ∷ 73 ∷ 78 ∷ 35 ∷ [])
    -- #BIN#3
    ∷ check_line (35 ∷ 66 ∷ 73 ∷ 78 ∷ 35 ∷ 51 ∷ [])
    -- #BIN#3\rx
    ∷ check_line (35 ∷ 66 ∷ 73 ∷ 78 ∷ 35 ∷ 51 ∷ 13 ∷ 120 ∷ [])
    -- #BIN#12#\r
    ∷ check_line (35 ∷ 66 ∷ 73 ∷ 78 ∷ 35 ∷ 49 ∷ 50 ∷ 35 ∷ 13 ∷ [])
    -- #BIN#12#|65536#$
    ∷ check_line (35 ∷ 66 ∷ 73 ∷ 78 ∷ 35 ∷ 49 ∷ 50 ∷ 35 ∷ 124 ∷ 54 ∷ 53 ∷ 53 ∷ 51 ∷ 54 ∷ 35 ∷ 36 ∷ [])
    -- #BIN#12#|99999
    ∷ check_line (35 ∷ 66 ∷ 73 ∷ 78 ∷ 35 ∷ 49 ∷ 50 ∷ 35 ∷ 124 ∷ 57 ∷ 57 ∷ 57 ∷ 57 ∷ 57 ∷ [])
    -- #BIN#12#|655350
    ∷ check_line (35 ∷ 66 ∷ 73 ∷ 78 ∷ 35 ∷ 49 ∷ 50 ∷ 35 ∷ 124 ∷ 54 ∷ 53 ∷ 53 ∷ 51 ∷ 53 ∷ 48 ∷ [])
    -- #BIN#12#|1#$5A21480#a\r
    ∷ check_line (35 ∷ 66 ∷ 73 ∷ 78 ∷ 35 ∷ 49 ∷ 50 ∷ 35 ∷ 124 ∷ 49 ∷ 35 ∷ 36 ∷ 53 ∷ 65 ∷ 50 ∷ 49 ∷ 52 ∷ 56 ∷ 48 ∷ 35 ∷ 97 ∷ 13 ∷ [])
    -- #BIN#12#|1#$5A2148000
    ∷ check_line (35 ∷ 66 ∷ 73 ∷ 78 ∷ 35 ∷ 49 ∷ 50 ∷ 35 ∷ 124 ∷ 49 ∷ 35 ∷ 36 ∷ 53 ∷ 65 ∷ 50 ∷ 49 ∷ 52 ∷ 56 ∷ 48 ∷ 48 ∷ 48 ∷ [])
    -- #BIN#12#|1#$5A214800??#a\r
    ∷ check_line (35 ∷ 66 ∷ 73 ∷ 78 ∷ 35 ∷ 49 ∷ 50 ∷ 35 ∷ 124 ∷ 49 ∷ 35 ∷ 36 ∷ 53 ∷ 65 ∷ 50 ∷ 49 ∷ 52 ∷ 56 ∷ 48 ∷ 48 ∷ 63 ∷ 63 ∷ 35 ∷ 97 ∷ 13 ∷ [])
    -- #BIN#12#|1#$5A214800?#\r
    ∷ check_line (35 ∷ 66 ∷ 73 ∷ 78 ∷ 35 ∷ 49 ∷ 50 ∷ 35 ∷ 124 ∷ 49 ∷ 35 ∷ 36 ∷ 53 ∷ 65 ∷ 50 ∷ 49 ∷ 52 ∷ 56 ∷ 48 ∷ 48 ∷ 63 ∷ 35 ∷ 13 ∷ [])
    -- #BIN#12#|1#$5A214800?#
    ∷ check_line (35 ∷ 66 ∷ 73 ∷ 78 ∷ 35 ∷ 49 ∷ 50 ∷ 35 ∷ 124 ∷ 49 ∷ 35 ∷ 36 ∷ 53 ∷ 65 ∷ 50 ∷ 49 ∷ 52 ∷ 56 ∷ 48 ∷ 48 ∷ 63 ∷ 35 ∷ [])
    -- #BIN#12#|1#$5A214800?#a#b\r
    ∷ check_line (35 ∷ 66 ∷ 73 ∷ 78 ∷ 35 ∷ 49 ∷ 50 ∷ 35 ∷ 124 ∷ 49 ∷ 35 ∷ 36 ∷ 53 ∷ 65 ∷ 50 ∷ 49 ∷ 52 ∷ 56 ∷ 48 ∷ 48 ∷ 63 ∷ 35 ∷ 97 ∷ 35 ∷ 98
    ∷ 13 ∷ [])
    -- #BIN#12#|1#$5A214800?#a\r\r
    ∷ check_line (35 ∷ 66 ∷ 73 ∷ 78 ∷ 35 ∷ 49 ∷ 50 ∷ 35 ∷ 124 ∷ 49 ∷ 35 ∷ 36 ∷ 53 ∷ 65 ∷ 50 ∷ 49 ∷ 52 ∷ 56 ∷ 48 ∷ 48 ∷ 63 ∷ 35 ∷ 97 ∷ 13 ∷ 13 ∷ [])
    -- #BIN#3\r
    ∷ check_line (35 ∷ 66 ∷ 73 ∷ 78 ∷ 35 ∷ 51 ∷ 13 ∷ [])
    -- #BIN#3#|6822#$5A214800?#abc.txt\r
    ∷ check_line (35 ∷ 66 ∷ 73 ∷ 78 ∷ 35 ∷ 51 ∷ 35 ∷ 124 ∷ 54 ∷ 56 ∷ 50 ∷ 50 ∷ 35 ∷ 36 ∷ 53 ∷ 65 ∷ 50 ∷ 49 ∷ 52 ∷ 56 ∷ 48 ∷ 48 ∷ 63 ∷ 35 ∷ 97
    ∷ 98 ∷ 99 ∷ 46 ∷ 116 ∷ 120 ∷ 116 ∷ 13 ∷ [])
    ∷ []

lines-agree : lines
    ≡ fault NoDigits 5 ∷ fault SizeOpen 6 ∷ fault Other 7 ∷ fault SizeOpen 8 ∷ fault Other 13 ∷ fault Other 13 ∷ fault Other 14
    ∷ fault Other 19 ∷ fault Other 20 ∷ fault Other 21 ∷ fault NameLength 22 ∷ fault NameOpen 22 ∷ fault NameByte 23 ∷ fault Other 24
    ∷ None ∷ None ∷ []
unfolding check_header check_line check_ok check_from step_of end_of name_part size_part crc_part is_name_byte hex_digit
lines-agree = refl

-- frames that start `#OK#`
abbrev oks : List (Option Fault)
oks =
    -- #OK#
    check_ok (35 ∷ 79 ∷ 75 ∷ 35 ∷ [])
    -- #OK# \r
    ∷ check_ok (35 ∷ 79 ∷ 75 ∷ 35 ∷ 32 ∷ 13 ∷ [])
    -- #OK##$2#1\r
    ∷ check_ok (35 ∷ 79 ∷ 75 ∷ 35 ∷ 35 ∷ 36 ∷ 50 ∷ 35 ∷ 49 ∷ 13 ∷ [])
    -- #OK#a#2\r
    ∷ check_ok (35 ∷ 79 ∷ 75 ∷ 35 ∷ 97 ∷ 35 ∷ 50 ∷ 13 ∷ [])
    -- #OK#a#$123456789#1\r
    ∷ check_ok (35 ∷ 79 ∷ 75 ∷ 35 ∷ 97 ∷ 35 ∷ 36 ∷ 49 ∷ 50 ∷ 51 ∷ 52 ∷ 53 ∷ 54 ∷ 55 ∷ 56 ∷ 57 ∷ 35 ∷ 49 ∷ 13 ∷ [])
    -- #OK#a#$2#65536\r
    ∷ check_ok (35 ∷ 79 ∷ 75 ∷ 35 ∷ 97 ∷ 35 ∷ 36 ∷ 50 ∷ 35 ∷ 54 ∷ 53 ∷ 53 ∷ 51 ∷ 54 ∷ 13 ∷ [])
    -- #OK#\rx
    ∷ check_ok (35 ∷ 79 ∷ 75 ∷ 35 ∷ 13 ∷ 120 ∷ [])
    -- #OK#\r
    ∷ check_ok (35 ∷ 79 ∷ 75 ∷ 35 ∷ 13 ∷ [])
    -- #OK#abc.txt#$2#16706\r
    ∷ check_ok (35 ∷ 79 ∷ 75 ∷ 35 ∷ 97 ∷ 98 ∷ 99 ∷ 46 ∷ 116 ∷ 120 ∷ 116 ∷ 35 ∷ 36 ∷ 50 ∷ 35 ∷ 49 ∷ 54 ∷ 55 ∷ 48 ∷ 54 ∷ 13 ∷ [])
    ∷ []

oks-agree : oks ≡ fault Other 4 ∷ fault Other 4 ∷ fault Other 4 ∷ fault Other 6 ∷ fault Other 15 ∷ fault Other 13 ∷ fault Other 5 ∷ None ∷ None ∷ []
unfolding check_header check_line check_ok check_from step_of end_of name_part size_part crc_part is_name_byte hex_digit
oks-agree = refl
