-- What a frame of #BIN# says. One element fills one frame, nothing before it and nothing behind; `\r` is 0D.
-- (Document 01, "Lines of #BIN#".)
use Rattle.std.specs.Prelude.{ℕ, ◌+◌, ◌-◌, List, [], ◌∷◌, Bool, false, length, get_or, take, drop, ltb, eqb, None, Option, Some}
use Rattle.fields.specs.declared.Place.{Place}
use Rattle.fields.specs.Pick.{pick}
use Rattle.fields.specs.Lists.{part, up_to, same}
use Rattle.fields.specs.Name.{is_name}
use Rattle.numbers.specs.Reading.{read_size, read_crc, read_hex}
use Rattle.faults.specs.Faults.{line_fault, ok_fault}
use Rattle.lines.specs.declared.Frame.{Frame}
use Rattle.lines.specs.declared.Frame.TheVariants.{Basic, Extended, MalformedLine, OK, OKName, OKKept, MalformedOK, NO, Stop, Display, Other}

-- ---- How an element starts and ends

-- `#BIN#`
abbrev pub line_mark : List ℕ
line_mark = 35 ∷ 66 ∷ 73 ∷ 78 ∷ 35 ∷ []

-- `#OK#`
abbrev pub ok_mark : List ℕ
ok_mark = 35 ∷ 79 ∷ 75 ∷ 35 ∷ []

-- `#NO#`
abbrev pub no_mark : List ℕ
no_mark = 35 ∷ 78 ∷ 79 ∷ 35 ∷ []

-- the stop frame: `\r#ABORT#\r`
abbrev pub stop_frame : List ℕ
stop_frame = 13 ∷ 35 ∷ 65 ∷ 66 ∷ 79 ∷ 82 ∷ 84 ∷ 35 ∷ 13 ∷ []

-- `SP\-`, four bytes: what follows is for display
abbrev pub display_mark : List ℕ
display_mark = 83 ∷ 80 ∷ 92 ∷ 45 ∷ []

-- whether b starts with m
unfoldable pub starts : List ℕ → List ℕ → Bool
starts m b = same m (take (length m) b)

-- whether b ends with `\r`
unfoldable pub ends : List ℕ → Bool
ends b = eqb (get_or b (length b - 1) 0) 13

-- what stands behind the k bytes of a mark and before the final `\r`
unfoldable pub body : ℕ → List ℕ → List ℕ
body k b = part k (length b - (k + 1)) b

-- ---- Fields with `#` between them

-- whether there is a `#` in t
unfoldable pub has_hash : List ℕ → Bool
has_hash t = ltb (length (up_to 35 t)) (length t)

-- what stands behind the first `#`
unfoldable pub behind : List ℕ → List ℕ
behind t = drop (length (up_to 35 t) + 1) t

-- whether t is the byte x, a field, `#` and more
unfoldable pub marked : ℕ → List ℕ → Bool
marked x t = pick (eqb (get_or t 0 0) x) (has_hash (drop 1 t)) false

-- ---- Lines: `#BIN#`size`\r`, and `#BIN#`size`#|`crc`#$`stamp`?#`name`\r`

-- the name, to the final `\r`, which stands at the index end
unfoldable pub line_name : ℕ → ℕ → ℕ → ℕ → Bool → List ℕ → Option Frame
line_name end size crc stamp resumable t =
    pick (is_name t)
    (Some (Extended
    (record { size = size; crc = crc; stamp = stamp; resumable = resumable; name = record { start = end - length t; len = length t } })))
    None

-- whether `?` stands behind a stamp's eight digits: resume is possible
unfoldable pub has_resume : List ℕ → Bool
has_resume s = pick (eqb (length s) 9) (eqb (get_or s 8 0) 63) false

-- the stamp without the `?`
unfoldable pub stamp_digits : List ℕ → List ℕ
stamp_digits s = pick (has_resume s) (take 8 s) s

abbrev pub stamp_by : ℕ → ℕ → ℕ → Option ℕ → Bool → List ℕ → Option Frame
stamp_by end size crc (Some v) resumable t = line_name end size crc v resumable t
stamp_by end size crc None resumable t = None

-- `$`, the stamp and perhaps `?`, `#`, and the name
unfoldable pub line_stamp : ℕ → ℕ → ℕ → List ℕ → Option Frame
line_stamp end size crc t =
    pick (marked 36 t)
    (stamp_by end size crc (read_hex (stamp_digits (up_to 35 (drop 1 t)))) (has_resume (up_to 35 (drop 1 t))) (behind (drop 1 t)))
    None

abbrev pub crc_by : ℕ → ℕ → Option ℕ → List ℕ → Option Frame
crc_by end size (Some v) t = line_stamp end size v t
crc_by end size None t = None

-- `|`, the CRC, `#`, and the rest
unfoldable pub line_crc : ℕ → ℕ → List ℕ → Option Frame
line_crc end size t = pick (marked 124 t) (crc_by end size (read_crc (up_to 35 (drop 1 t))) (behind (drop 1 t))) None

abbrev pub size_by : ℕ → Option ℕ → List ℕ → Option Frame
size_by end (Some v) t = line_crc end v t
size_by end None t = None

abbrev pub basic_by : Option ℕ → Option Frame
basic_by (Some v) = Some (Basic v)
basic_by None = None

-- the size alone, or the size, `#`, and the rest
unfoldable pub line_read : ℕ → List ℕ → Option Frame
line_read end t = pick (has_hash t) (size_by end (read_size (up_to 35 t)) (behind t)) (basic_by (read_size t))

-- a frame that starts `#BIN#`
unfoldable pub line_of : List ℕ → Option Frame
line_of b = pick (ends b) (line_read (length b - 1) (body 5 b)) None

-- ---- OKs: `#OK#\r`, `#OK#`name`\r`, `#OK#`name`#$`kept`#`crc`\r`

abbrev pub ok_crc_by : ℕ → ℕ → Option ℕ → Option Frame
ok_crc_by n kept (Some v) = Some (OKKept (record { name = record { start = 4; len = n }; kept = kept; crc = v }))
ok_crc_by n kept None = None

abbrev pub ok_kept_by : ℕ → Option ℕ → List ℕ → Option Frame
ok_kept_by n (Some v) t = ok_crc_by n v (read_crc t)
ok_kept_by n None t = None

-- behind a name of n bytes and its `#`: `$`, the kept count, `#`, and the CRC
unfoldable pub ok_kept : ℕ → List ℕ → Option Frame
ok_kept n t = pick (marked 36 t) (ok_kept_by n (read_size (up_to 35 (drop 1 t))) (behind (drop 1 t))) None

-- nothing, or a name
unfoldable pub ok_name : List ℕ → Option Frame
ok_name t = pick (eqb (length t) 0) (Some OK) (pick (is_name t) (Some (OKName (record { start = 4; len = length t }))) None)

unfoldable pub ok_read : List ℕ → Option Frame
ok_read t = pick (has_hash t) (pick (is_name (up_to 35 t)) (ok_kept (length (up_to 35 t)) (behind t)) None) (ok_name t)

-- a frame that starts `#OK#`
unfoldable pub ok_of : List ℕ → Option Frame
ok_of b = pick (ends b) (ok_read (body 4 b)) None

-- ---- The whole

-- a frame that starts `#NO#`, whatever stands behind: its text, without a final `\r`
unfoldable pub text_of : List ℕ → Place
text_of b = record { start = 4; len = pick (ends b) (length b - 5) (length b - 4) }

-- a frame that starts `SP\-`: the text behind
abbrev pub shown_of : List ℕ → Place
shown_of b = record { start = 4; len = length b - 4 }

-- what is malformed carries what is wrong, and where (change request 2026-02)
abbrev pub line_by : List ℕ → Option Frame → Frame
line_by b (Some f) = f
line_by b None = MalformedLine (line_fault b)

abbrev pub ok_by : List ℕ → Option Frame → Frame
ok_by b (Some f) = f
ok_by b None = MalformedOK (ok_fault b)

abbrev pub line_frame : List ℕ → Frame
line_frame b = line_by b (line_of b)

abbrev pub ok_frame : List ℕ → Frame
ok_frame b = ok_by b (ok_of b)

-- what a frame says
unfoldable pub frame_of : List ℕ → Frame
frame_of b =
    pick (starts line_mark b) (line_frame b)
    (pick (starts ok_mark b) (ok_frame b)
    (pick (starts no_mark b) (NO (text_of b))
    (pick (same stop_frame b) Stop
    (pick (starts display_mark b) (Display (shown_of b))
    Other))))
