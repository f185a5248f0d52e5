-- The number of each fault. (Change request 2026-02: 71 to 76 in the order named; 7 stays for a malformed OK and for a line's CRC, stamp and other
-- marks.)
use Rattle.std.specs.Prelude.{ℕ}
use Rattle.fields.specs.declared.Flaw.{Flaw}
use Rattle.fields.specs.declared.Fault.{Fault}
use Rattle.fields.specs.declared.Flaw.TheVariants.{NameOpen, NameLength, NameByte, NoDigits, ManyDigits, SizeOpen, Other}

unfoldable pub flaw_number : Flaw → ℕ
flaw_number NameOpen = 71
flaw_number NameLength = 72
flaw_number NameByte = 73
flaw_number NoDigits = 74
flaw_number ManyDigits = 75
flaw_number SizeOpen = 76
flaw_number Other = 7

-- where there is no fault
abbrev pub no_fault : Fault
no_fault = record { flaw = Other; offset = 0 }
