-- Whether what was read is a line, and whether it is an OK.
use Rattle.std.specs.Prelude.{Bool, true, false}
use Rattle.lines.specs.declared.Frame.{Frame}
use Rattle.lines.specs.declared.Frame.TheVariants.{Basic, Extended, MalformedLine, OK, OKName, OKKept, MalformedOK, NO, Stop, Display, Other}

abbrev pub is_line : Frame → Bool
is_line (Basic size) = true
is_line (Extended l) = true
is_line (MalformedLine f) = false
is_line OK = false
is_line (OKName p) = false
is_line (OKKept k) = false
is_line (MalformedOK f) = false
is_line (NO p) = false
is_line Stop = false
is_line (Display p) = false
is_line Other = false

abbrev pub is_ok : Frame → Bool
is_ok (Basic size) = false
is_ok (Extended l) = false
is_ok (MalformedLine f) = false
is_ok OK = true
is_ok (OKName p) = true
is_ok (OKKept k) = true
is_ok (MalformedOK f) = false
is_ok (NO p) = false
is_ok Stop = false
is_ok (Display p) = false
is_ok Other = false
