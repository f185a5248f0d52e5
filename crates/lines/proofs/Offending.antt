-- A malformed line and a malformed OK carry what is wrong, and where. (Change request 2026-02.) Assumes nothing.
use Rattle.std.specs.Prelude.{None, Option, Some}
use mathlib.Core.Path.{◌≡◌, refl, sym, ap, subst, ◌∙◌}
use mathlib.Core.Bool.{Bool, true, false}
use mathlib.Core.List.{List, [], ◌∷◌, ◌++◌}
use Prim.Native.Nat.{ℕ, ◌≤◌}
use native.Mathlib.Omega.{arith}
use lib.ListN.{length, take, drop, length-append, length-take}
use lib.Seq.{take-append-le, take-take}
use Rattle.fields.specs.declared.Fault.{Fault}
use Rattle.fields.specs.declared.Flaw.TheVariants.{SizeOpen, Other as OtherFlaw}
use Rattle.fields.specs.Lists.{same}
use Rattle.fields.proofs.Lists.{never}
use Rattle.faults.specs.Faults.{size_part, step_of, end_of, check_from, check_line, check_ok, line_fault, ok_fault, fault_in, is_sound}
use Rattle.faults.specs.Search.{line_faults}
use Rattle.faults.specs.Place.{FirstOffending}
use Rattle.faults.proofs.LeastLine.{least-line}
use Rattle.faults.proofs.Moves.{ok-other}
use Rattle.faults.proofs.Place as table
use Rattle.faults.proofs.Offending.{first-offending}
use Rattle.lines.specs.declared.Frame.{Frame}
use Rattle.lines.specs.declared.Frame.TheVariants.{Basic, Extended, MalformedLine, OK, OKName, OKKept, MalformedOK, NO, Stop, Display, Other}
use Rattle.lines.specs.Frame.{line_mark, ok_mark, starts, ends, body, line_of, ok_of, frame_of}
use Rattle.lines.specs.WellFormed.{is_line, is_ok}
use Rattle.lines.proofs.Fields.{starts_is}
use Rattle.lines.proofs.Reading.{Seen, is_basic, is_extended, is_malformed_line, is_bare_ok, is_named, is_kept, is_malformed_ok, is_no, is_stop, is_display, is_other, seen}
use Rattle.lines.proofs.Faults.{agrees-line, agrees-ok}

-- ---- From the frame to the table

-- what a malformed frame tells: it has its mark, and carries what the table finds
abbrev Told : List ℕ → Frame → Type 0
Told b (Basic size) = Unit {0}
Told b (Extended l) = Unit {0}
Told b (MalformedLine f) = (starts line_mark b ≡ true) × (line_fault b ≡ f)
Told b OK = Unit {0}
Told b (OKName p) = Unit {0}
Told b (OKKept k) = Unit {0}
Told b (MalformedOK f) = (starts ok_mark b ≡ true) × (ok_fault b ≡ f)
Told b (NO p) = Unit {0}
Told b Stop = Unit {0}
Told b (Display p) = Unit {0}
Told b Other = Unit {0}

told : (b : List ℕ) (x : Frame) → Seen b x → Told b x
told b _ (is_basic size n q a) = tt
told b _ (is_extended size crc stamp name n k v r q a c d i) = tt
told b _ (is_malformed_line s) = (s, refl)
told b _ (is_bare_ok q) = tt
told b _ (is_named name q i) = tt
told b _ (is_kept name digits crc n k q i a c) = tt
told b _ (is_malformed_ok s) = (s, refl)
told b _ (is_no s) = tt
told b _ (is_stop q) = tt
told b _ (is_display s) = tt
told b _ is_other = tt

-- what is not well-formed has a fault
faulty : (c : Option Fault) (f : Fault) → is_sound c ≡ false → fault_in c ≡ f → c ≡ Some f
faulty None f n e = never (sym n)
faulty (Some g) f n e = ap Some e

-- b has its mark, and behind a mark the reading and the table agree
module _ (mark b : List ℕ) (s : starts mark b ≡ true) (good : List ℕ → Bool) (check : List ℕ → Option Fault)
    (agrees : (x : List ℕ) → starts mark x ≡ true → good x ≡ is_sound (check x)) (f : Fault) where
  long : length mark ≤ length b
  long = rw (starts_is mark b s, length-append) (omega arith)

  -- a front of b with its mark, and more behind it
  front-starts : (m : ℕ) (t : List ℕ) → length mark ≤ m → starts mark (take m b ++ t) ≡ true
  unfolding starts
  front-starts m t h =
      ap (same mark) (take-append-le (length mark) (take m b) t (rw length-take (omega (arith, long))) ∙ take-take (length mark) m b h) ∙ s

  found-by : good b ≡ false → fault_in (check b) ≡ f → check b ≡ Some f
  found-by n e = faulty (check b) f (sym (agrees b s) ∙ n) e

  placed : length mark ≤ f.offset → (length mark ≤ length b → table.Place check b f.offset) → FirstOffending good b f.offset
  placed l p = first-offending good check b f.offset (p long) (λ m t h. agrees (take m b ++ t) (front-starts m t (omega arith)))

-- ---- The theorems, over the frame that callers are given

abbrev reads_line : List ℕ → Bool
reads_line s = is_line (frame_of s)

abbrev reads_ok : List ℕ → Bool
reads_ok s = is_ok (frame_of s)

module _ (b : List ℕ) (f : Fault) (e : frame_of b ≡ MalformedLine f) where
  line-told : (starts line_mark b ≡ true) × (line_fault b ≡ f)
  line-told = subst (Told b) e (told b (frame_of b) (seen b))

  found : check_line b ≡ Some f
  found = found-by line_mark b line-told.0 reads_line check_line agrees-line f (ap is_line e) line-told.1

  -- THE LAW: the place is that of the first offending byte in the frame
  pub place-line : FirstOffending reads_line b f.offset
  place-line =
      placed line_mark b line-told.0 reads_line check_line agrees-line f (table.past-line b f found) (λ h. table.place-line b f h found)

  pub short-line : f.offset ≤ 97
  short-line = table.short-line b f found

  -- THE LAW: number and place are those of the fault that counts, each looked for by itself
  pub least : line_faults 5 (drop 5 b) ≡ Some f
  least = sym (least-line b) ∙ found

module _ (b : List ℕ) (f : Fault) (e : frame_of b ≡ MalformedOK f) where
  ok-told : (starts ok_mark b ≡ true) × (ok_fault b ≡ f)
  ok-told = subst (Told b) e (told b (frame_of b) (seen b))

  ok-found : check_ok b ≡ Some f
  ok-found = found-by ok_mark b ok-told.0 reads_ok check_ok agrees-ok f (ap is_ok e) ok-told.1

  -- THE LAW: the same of an OK
  pub place_ok : FirstOffending reads_ok b f.offset
  place_ok = placed ok_mark b ok-told.0 reads_ok check_ok agrees-ok f (table.past-ok b f ok-found) (λ h. table.place_ok b f h ok-found)

  pub short_ok : f.offset ≤ 85
  short_ok = table.short_ok b f ok-found

  -- THE LAW: what is wrong with an OK is 7
  pub other : f.flaw ≡ OtherFlaw
  other = ok-other b f ok-found

-- ---- There are such frames

-- `#BIN#3`
line-example : frame_of (35 ∷ 66 ∷ 73 ∷ 78 ∷ 35 ∷ 51 ∷ []) ≡ MalformedLine (record { flaw = SizeOpen; offset = 6 })
unfolding frame_of starts same line_of ends body check_line check_from step_of end_of size_part
line-example = refl

-- `#OK#`
ok-example : frame_of (35 ∷ 79 ∷ 75 ∷ 35 ∷ []) ≡ MalformedOK (record { flaw = OtherFlaw; offset = 4 })
unfolding frame_of starts same ok_of ends body check_ok check_from step_of end_of
ok-example = refl
