-- Elements with their bytes, and the bytes that each is written as. (Document 01, "Lines of #BIN#".)
use Rattle.std.specs.Prelude.{ℕ, List, [], ◌∷◌, ◌++◌, Bool, ◌&&◌, length, leb}
use Rattle.fields.specs.Pick.{pick}
use Rattle.fields.specs.declared.Fault.{Fault}
use Rattle.fields.specs.Lists.{bytes_at}
use Rattle.fields.specs.Name.{is_name}
use Rattle.numbers.specs.Writing.{decimal, hex}
use Rattle.fields.specs.Buffer.{Form, formless, bytes, form_if}
use Rattle.lines.specs.declared.Frame.{Frame}
use Rattle.lines.specs.declared.Frame.TheVariants.{Basic, Extended, MalformedLine, OK, OKName, OKKept, MalformedOK, NO, Stop, Display, Other}
use Rattle.lines.specs.Frame.{line_mark, ok_mark, no_mark, stop_frame}

-- a frame with the bytes themselves where the code's `Frame` has their places: a line has size, CRC, stamp, whether resume is possible,
-- and name; the third OK has name, kept count and CRC
pub data Element : Type 0 where
  basic : ℕ → Element
  extended : ℕ → ℕ → ℕ → Bool → List ℕ → Element
  malformed_line : Fault → Element
  ok : Element
  ok_name : List ℕ → Element
  ok_kept : List ℕ → ℕ → ℕ → Element
  malformed_ok : Fault → Element
  no : List ℕ → Element
  stop : Element
  display : List ℕ → Element
  other : Element

-- a frame whose places are in s
unfoldable pub content_of : List ℕ → Frame → Element
content_of s (Basic size) = basic size
content_of s (Extended l) = extended l.size l.crc l.stamp l.resumable (bytes_at s l.name)
content_of s (MalformedLine f) = malformed_line f
content_of s OK = ok
content_of s (OKName p) = ok_name (bytes_at s p)
content_of s (OKKept k) = ok_kept (bytes_at s k.name) k.kept k.crc
content_of s (MalformedOK f) = malformed_ok f
content_of s (NO p) = no (bytes_at s p)
content_of s Stop = stop
content_of s (Display p) = display (bytes_at s p)
content_of s Other = other

-- `#BIN#`size`\r`
unfoldable pub basic_bytes : List ℕ → List ℕ
basic_bytes size = line_mark ++ (size ++ (13 ∷ []))

-- `?` if resume is possible
abbrev pub resume_mark : Bool → List ℕ
resume_mark resumable = pick resumable (63 ∷ []) []

-- `#BIN#`size`#|`crc`#$`stamp`?#`name`\r`
unfoldable pub line_bytes : List ℕ → List ℕ → List ℕ → Bool → List ℕ → List ℕ
line_bytes size crc stamp resumable name =
    line_mark ++ (size ++ (35 ∷ 124 ∷ (crc ++ (35 ∷ 36 ∷ (stamp ++ (resume_mark resumable ++ (35 ∷ (name ++ (13 ∷ [])))))))))

-- `#OK#`name`\r`; without a name `#OK#\r`
unfoldable pub ok_bytes : List ℕ → List ℕ
ok_bytes name = ok_mark ++ (name ++ (13 ∷ []))

-- `#OK#`name`#$`kept`#`crc`\r`
unfoldable pub kept_bytes : List ℕ → List ℕ → List ℕ → List ℕ
kept_bytes name kept crc = ok_mark ++ (name ++ (35 ∷ 36 ∷ (kept ++ (35 ∷ (crc ++ (13 ∷ []))))))

-- `#NO#`text`\r`
unfoldable pub no_bytes : List ℕ → List ℕ
no_bytes text = no_mark ++ (text ++ (13 ∷ []))

-- the size within the limits
unfoldable pub basic_form : ℕ → Form
basic_form size = form_if (leb size 99999999) (basic_bytes (decimal size))

-- name and numbers within the limits
unfoldable pub line_form : ℕ → ℕ → ℕ → Bool → List ℕ → Form
line_form size crc stamp resumable name =
    form_if (is_name name && (leb size 99999999 && (leb crc 65535 && leb stamp 0xFFFFFFFF)))
    (line_bytes (decimal size) (decimal crc) (hex 8 stamp) resumable name)

unfoldable pub ok_name_form : List ℕ → Form
ok_name_form name = form_if (is_name name) (ok_bytes name)

unfoldable pub ok_kept_form : List ℕ → ℕ → ℕ → Form
ok_kept_form name kept crc =
    form_if (is_name name && (leb kept 99999999 && leb crc 65535)) (kept_bytes name (decimal kept) (decimal crc))

-- at most 80 bytes of text
unfoldable pub no_form : List ℕ → Form
no_form text = form_if (leb (length text) 80) (no_bytes text)

-- the bytes of an element; what is malformed, for display or no element has no form
unfoldable pub form_of : Element → Form
form_of (basic size) = basic_form size
form_of (extended size crc stamp resumable name) = line_form size crc stamp resumable name
form_of (malformed_line f) = formless
form_of ok = bytes (ok_bytes [])
form_of (ok_name name) = ok_name_form name
form_of (ok_kept name kept crc) = ok_kept_form name kept crc
form_of (malformed_ok f) = formless
form_of (no text) = no_form text
form_of stop = bytes stop_frame
form_of (display text) = formless
form_of other = formless
