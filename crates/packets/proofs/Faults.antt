-- A header is malformed exactly where there is a fault in it. (Change request 2026-02.) Assumes nothing.
use Rattle.std.specs.Prelude.{None, Option, Some, ℕ}
use mathlib.Core.Path.{◌≡◌, refl, sym, ap, ◌∙◌}
use mathlib.Core.Bool.{Bool, true, false, ◌&&◌}
use mathlib.Core.List.{List}
use Prim.Native.Nat.{ℕ, ◌+◌}
use lib.ListN.{length}
use Rattle.fields.specs.Pick.{pick}
use Rattle.fields.specs.Lists.{up_to}
use Rattle.fields.specs.Name.{is_name_byte, is_name}
use Rattle.numbers.specs.Reading.{read_size}
use Rattle.faults.specs.Faults.{check_header, is_sound}
use Rattle.faults.specs.Search.{occurs, is_value, name_faults, header_size_faults, header_faults}
use Rattle.faults.proofs.SoundParts.{sound-earlier, name-sound, size-sound}
use Rattle.faults.proofs.LeastHeader.{least-header}
use Rattle.packets.specs.Packet.{sized_by, header_size, header_read}
use Rattle.packets.specs.Canonical.{behind, is_good}

-- the size, behind a name of n bytes, at the place i
size-agrees : (n i : ℕ) (t : List ℕ) → is_good (header_size n t) ≡ is_sound (header_size_faults i t)
unfolding header_size header_size_faults
size-agrees n i t = go (occurs 0 t) (read_size (up_to 0 t)) ∙ sym (size-sound 0 i t refl)
  where
    go : (b : Bool) (v : Option ℕ) → is_good (pick b (sized_by n v (behind t)) None) ≡ (b && is_value v)
    go true (Some v) = refl
    go true None = refl
    go false v = refl

pub agrees-header : (d : List ℕ) → is_good (header_read d) ≡ is_sound (check_header d)
unfolding header_read header_faults is_name_byte
agrees-header d =
    go (occurs 0 d) (is_name (up_to 0 d))
    ∙ sym (ap is_sound (least-header d) ∙ sound-earlier (name_faults 0 0 d) (pick (occurs 0 d) (header_size_faults (u + 1) (behind d)) None)
    ∙ ap (λ (b : Bool). b && is_sound (pick (occurs 0 d) (header_size_faults (u + 1) (behind d)) None)) (name-sound 0 0 d refl))
  where
    u : ℕ
    u = length (up_to 0 d)

    go : (o n : Bool)
        → is_good (pick o (pick n (header_size u (behind d)) None) None) ≡ ((o && n) && is_sound (pick o (header_size_faults (u + 1) (behind d)) None))
    go true true = size-agrees u (u + 1) (behind d)
    go true false = refl
    go false n = refl
