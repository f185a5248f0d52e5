-- What the writing of a receiver's record answers, and the buffer that it leaves. (Document 01, "The saved record".)
use Rattle.fields.specs.declared.WriteError.{WriteError}
use Rattle.std.specs.Prelude.{ℕ, List, None, Option, Result, Some}
use Rattle.fields.specs.Buffer.{Form, written_of, left_of, written_number}

-- a buffer of at least 81 bytes is asked for
abbrev pub record_answer : Option Form → List ℕ → Option (Result ℕ WriteError)
record_answer None d = None
record_answer (Some f) d = Some (written_of 81 f d)

-- the record's bytes at the front; where there is no record, and on a refusal, all stays
abbrev pub record_left : Option Form → List ℕ → List ℕ
record_left None d = d
record_left (Some f) d = left_of 81 f d

-- document 01's number for each answer: 20 buffer small, 22 cannot be written
unfoldable pub record_number : Option (Result ℕ WriteError) → ℕ
record_number None = 0
record_number (Some w) = written_number w
