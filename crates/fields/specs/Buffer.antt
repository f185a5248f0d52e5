-- Bytes laid into a buffer that the caller lends, and what a writer answers.
use Rattle.fields.specs.declared.WriteError.TheVariants.{Formless, Small}
use Rattle.fields.specs.declared.WriteError.{WriteError}
use Rattle.std.specs.Prelude.{ℕ, ◌+◌, Bool, List, [], ◌++◌, length, take, drop, leb, ltb, Err, Ok, Result}
use Rattle.fields.specs.Pick.{pick}

-- d with bs in the place of its bytes from index at on
unfoldable pub over : ℕ → List ℕ → List ℕ → List ℕ
over at bs d = take at d ++ (bs ++ drop (at + length bs) d)

-- d with bs in the place of its bytes from index at on where that fits, else d
unfoldable pub appended : ℕ → List ℕ → List ℕ → List ℕ
appended at bs d = pick (leb (at + length bs) (length d)) (over at bs d) d

-- the index behind them, or at
unfoldable pub appended_end : ℕ → List ℕ → List ℕ → ℕ
appended_end at bs d = pick (leb (at + length bs) (length d)) (at + length bs) at

-- the same from the first byte on, and how many bytes that lays down
abbrev pub placed : List ℕ → List ℕ → List ℕ
placed = appended 0

abbrev pub placed_count : List ℕ → List ℕ → ℕ
placed_count = appended_end 0

-- the bytes of what is to be written, or none where it has no form
pub data Form : Type 0 where
  formless : Form
  bytes : List ℕ → Form

-- the bytes of a form; none where there is none
abbrev pub bytes_in : Form → List ℕ
bytes_in formless = []
bytes_in (bytes bs) = bs

-- bs where a test holds
abbrev pub form_if : Bool → List ℕ → Form
form_if b bs = pick b (bytes bs) formless

abbrev pub answer_of : Form → Result ℕ WriteError
answer_of formless = (Err Formless)
answer_of (bytes bs) = Ok (length bs)

abbrev pub buffer_of : Form → List ℕ → List ℕ
buffer_of formless d = d
buffer_of (bytes bs) d = over 0 bs d

-- what a writer answers that is lent the buffer d; a buffer under `least` bytes is refused first
unfoldable pub written_of : ℕ → Form → List ℕ → Result ℕ WriteError
written_of least f d = pick (ltb (length d) least) (Err Small) (answer_of f)

-- the buffer after it: the bytes and behind them what was there; a refusal leaves all as it was
unfoldable pub left_of : ℕ → Form → List ℕ → List ℕ
left_of least f d = pick (ltb (length d) least) d (buffer_of f d)

-- document 01's number for each answer: 20 reply buffer small, 22 cannot be written
unfoldable pub written_number : Result ℕ WriteError → ℕ
written_number (Ok n) = 0
written_number (Err Small) = 20
written_number (Err Formless) = 22
