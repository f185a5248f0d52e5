-- The record that a receiver holds, as its struct has it and as the record with its name.
use Rattle.std.specs.Prelude.{ℕ, ◌+◌, Bool, ◌&&◌, List, [], length, take, leb, eqb, None, Option, Some}
use Rattle.fields.specs.Lists.{same}
use Rattle.fields.specs.Buffer.{Form}
use Rattle.records.specs.Saved.{Saved, record_form}
use Rattle.calls.specs.declared.Entry.{Entry}

-- the record, whose name stands at the front of an array
abbrev pub saved_by : Option Entry → List ℕ → Option Saved
saved_by None name = None
saved_by (Some e) name = Some (record { size = e.size; kept = e.kept; stamp = e.stamp; name = take e.named name })

abbrev pub keeping_of : Option Saved → Option Entry
keeping_of None = None
keeping_of (Some v) = Some (record { named = length v.name; size = v.size; kept = v.kept; stamp = v.stamp })

-- the same record, its name no longer than the array
abbrev pub held_of : Option Entry → List ℕ → Option Entry
held_of k name = keeping_of (saved_by k name)

abbrev pub name_of : Option Saved → List ℕ
name_of None = []
name_of (Some v) = v.name

-- how many bytes are kept, none without a record, and of how many
abbrev pub kept_of : Option Saved → ℕ
kept_of None = 0
kept_of (Some v) = v.kept

abbrev pub size_of : Option Saved → ℕ
size_of None = 0
size_of (Some v) = v.size

-- n bytes more are kept
abbrev pub grown : Option Saved → ℕ → Option Saved
grown None n = None
grown (Some v) n = Some (record { size = v.size; kept = v.kept + n; stamp = v.stamp; name = v.name })

-- kept bytes within the size, and the size within the area
abbrev pub is_within : ℕ → ℕ → ℕ → Bool
is_within kept size room = leb kept size && leb size room

-- a record matches a header or line of the same name and announced size
abbrev pub matches_of : Entry → List ℕ → List ℕ → ℕ → Bool
matches_of e held name size = same (take e.named held) name && eqb e.size size

-- the form of a record, none where there is none
abbrev pub form_by : Option Saved → Option Form
form_by None = None
form_by (Some v) = Some (record_form v)
