-- The form that we write elements in. Reading takes more: leading zeros, hex digits of either case, and a `#NO#` however it goes on.
use Rattle.std.specs.Prelude.{List, Bool, true, false, ◌&&◌, ℕ, drop, leb}
use Rattle.fields.specs.Lists.{up_to}
use Rattle.numbers.specs.Canonical.{plain, capitals}
use Rattle.lines.specs.declared.Frame.{Frame}
use Rattle.lines.specs.declared.Frame.TheVariants.{Basic, Extended, MalformedLine, OK, OKName, OKKept, MalformedOK, NO, Stop, Display, Other}
use Rattle.lines.specs.Frame.{ends, body, behind, stamp_digits, frame_of}

-- what stands between the marks of an extended line: size and CRC without leading zeros, the stamp in capitals
unfoldable pub plain_line : List ℕ → Bool
plain_line t =
    plain (up_to 35 t)
    && (plain (up_to 35 (drop 1 (behind t))) && capitals (stamp_digits (up_to 35 (drop 1 (behind (drop 1 (behind t)))))))

-- what stands between the marks of the third OK: kept count and CRC without leading zeros
unfoldable pub plain_kept : List ℕ → Bool
plain_kept t = plain (up_to 35 (drop 1 (behind t))) && plain (behind (drop 1 (behind t)))

abbrev pub canonical_as : List ℕ → Frame → Bool
canonical_as b (Basic size) = plain (body 5 b)
canonical_as b (Extended l) = plain_line (body 5 b)
canonical_as b (MalformedLine f) = false
canonical_as b OK = true
canonical_as b (OKName p) = true
canonical_as b (OKKept k) = plain_kept (body 4 b)
canonical_as b (MalformedOK f) = false
canonical_as b (NO p) = ends b && leb p.len 80
canonical_as b Stop = true
canonical_as b (Display p) = false
canonical_as b Other = false

-- whether b is in the form that we write
unfoldable pub canonical : List ℕ → Bool
canonical b = canonical_as b (frame_of b)
