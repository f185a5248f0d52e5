-- What is printed of bytes, numbers, outcomes and buffers.
use Rattle.fields.specs.declared.WriteError.{WriteError}
use Rattle.calls.specs.declared.Refusal.{Refusal}
use Rattle.script.specs.declared.printing.Change.{Change}
use Rattle.std.specs.Prelude.{ℕ, ◌-◌, ◌≤◌, ◌<◌, ◌≡◌, ◌≢◌, ◌&&◌, List, [], ◌∷◌, ◌++◌, length, get_or, leb, eqb, codes, replicate, Option, None, Result, Some}
use Rattle.std.specs.Fmt.{decimal}
use Rattle.std.specs.List.{flat_map}
use Rattle.std.specs.Io.KnownBytes.{Appends}
use Rattle.fields.specs.Pick.{pick}
use Rattle.fields.specs.Lists.{part}
use Rattle.numbers.specs.Writing.{hex}
use Rattle.calls.specs.Numbers.{outcome_number, outcome_offset, status_number}
use Rattle.calls.specs.Recording.{record_number}
use Rattle.calls.specs.Count.{count_of}
use Rattle.calls.specs.declared.Outcome.{Outcome}

abbrev pub numbered : List ℕ → ℕ → List ℕ
numbered label n = label ++ decimal n

-- a printable byte as it is, any other as `<0D>`
abbrev pub shown : ℕ → List ℕ
shown c = pick (leb 32 c && leb c 126) (c ∷ []) (60 ∷ (hex 2 c ++ (62 ∷ [])))

-- nothing where s is empty
abbrev pub text : List ℕ → List ℕ → List ℕ
text label s = pick (eqb (length s) 0) [] (label ++ flat_map shown s)

-- a space and two hex digits
abbrev pub pair : ℕ → List ℕ
pair c = 32 ∷ hex 2 c

-- among the first n bytes, from is where the first one of a stands that differs from b's at the same place, and to the index behind the last;
-- both are 0 where none does
pub record IsChange (n : ℕ) (a b : List ℕ) (from to : ℕ) : Type 0 where
  pub within : to ≤ n
  pub same_before : (i : ℕ) → i < from → get_or a i 0 ≡ get_or b i 0
  pub same_behind : (i : ℕ) → to ≤ i → i < n → get_or a i 0 ≡ get_or b i 0
  pub first : 0 < to → (from < to) × (get_or a from 0 ≢ get_or b from 0)
  pub last : 0 < to → get_or a (to - 1) 0 ≢ get_or b (to - 1) 0
  pub none : to ≡ 0 → from ≡ 0

-- among the first n bytes, what of a is otherwise in b, if anything is
abbrev pub IsChanged : ℕ → List ℕ → List ℕ → Option Change → Type 0
IsChanged n a b None = IsChange n a b 0 0
IsChanged n a b (Some c) = (0 < c.to) × IsChange n a b c.from c.to

-- where a change is from, and to; 0 where there is none
abbrev pub changed_from : Option Change → ℕ
changed_from None = 0
changed_from (Some c) = c.from

abbrev pub changed_to : Option Change → ℕ
changed_to None = 0
changed_to (Some c) = c.to

-- a buffer of n bytes as it is lent, up to 259 of them EE
abbrev pub lent : ℕ → List ℕ
lent n = part 0 n (replicate 259 0xEE)

abbrev pub change : List ℕ → ℕ → ℕ → List ℕ
change label from to = label ++ pick (eqb to 0) (codes " untouched") (numbered (codes " ") from ++ numbered (codes "..") to)

-- the same of what was found
abbrev pub change_text : List ℕ → Option Change → List ℕ
change_text label None = label ++ codes " untouched"
change_text label (Some c) = label ++ (numbered (codes " ") c.from ++ numbered (codes "..") c.to)

-- where an area is no longer what it was, and what stands there now
abbrev pub stored : List ℕ → ℕ → ℕ → List ℕ
stored after from to = change (codes "; area") from to ++ text (codes " ") (part from to (part 0 to after))

-- a writer that held old holds that behind it
abbrev pub Stored : List ℕ → List ℕ → Option (List ℕ) → Option (List ℕ) → Type 0
Stored before after old new = (from to : ℕ) × IsChange (length before) before after from to × Appends old new (stored after from to)

-- the same of what is printed, and behind it where a buffer is no longer as it was lent
abbrev pub Touched : List ℕ → List ℕ → List ℕ → Option (List ℕ) → Option (List ℕ) → Type 0
Touched printed label buf old new =
    (from to : ℕ) × IsChange (length (lent (length buf))) (lent (length buf)) buf from to × Appends old new (printed ++ change label from to)

abbrev pub place : Option ℕ → List ℕ
place (Some n) = numbered (codes " at ") n
place None = []

abbrev pub outcome_text : List ℕ → Outcome → List ℕ
outcome_text label o = numbered label (outcome_number o) ++ place (outcome_offset o)

abbrev pub status_text : Result (Unit {0}) Refusal → List ℕ
status_text s = pick (eqb (status_number s) 0) [] (numbered (codes " refused ") (status_number s))

abbrev pub taken_record : Option (Result ℕ WriteError) → List ℕ → List ℕ
taken_record None buf = codes " -> none"
taken_record (Some written) buf = text (codes " -> ") (part 0 (count_of written) buf)

abbrev pub record_text : Option (Result ℕ WriteError) → List ℕ → List ℕ
record_text got buf = pick (eqb (record_number got) 0) (taken_record got buf) (numbered (codes " -> ") (record_number got))
