-- How many bytes of the reply buffer a writer's answer stands for; none where it refused, and none of a record where there is none.
use Rattle.fields.specs.declared.WriteError.TheVariants.{Formless, Small}
use Rattle.fields.specs.declared.WriteError.{WriteError}
use Rattle.std.specs.Prelude.{ℕ, Err, None, Ok, Option, Result, Some}

abbrev pub count_of : Result ℕ WriteError → ℕ
count_of (Ok n) = n
count_of (Err Small) = 0
count_of (Err Formless) = 0

abbrev pub record_count : Option (Result ℕ WriteError) → ℕ
record_count None = 0
record_count (Some written) = count_of written
