-- `stamp_of` meets its contract: digits that are not eight are no stamp. Assumes nothing.
use Rattle.std.specs.Prelude.{None, Option, Some}
use mathlib.Core.Path.{◌≡◌, refl, ◌∙◌}
use mathlib.Core.Logic.{⊎_elim}
use mathlib.Core.List.{List}
use Prim.Native.Nat.{ℕ, ◌-◌, ◌≤◌}
use native.Mathlib.Omega.{arith}
use lib.ListN.{length, take, get_or, length-take}
use borrow.Author.Tests.{eq-eqb, ne_eqb}
use Rattle.fields.proofs.Lists.{eq-or-not}
use Rattle.numbers.specs.Reading.{read_hex}
use Rattle.packets.specs.Packet.{stamp_by, stamp_of}
use Rattle.packets.proofs.header_reader.stamp_of.Goals as goal

same : (v : Option ℕ) → v ≡ stamp_by v
same (Some v) = refl
same None = refl

ended : (o : List ℕ) → 1 ≤ length o → get_or o (length o - 1) 0 ≡ 0 → read_hex (take (length o - 1) o) ≡ stamp_of o
unfolding stamp_of read_hex
ended o h z = ⊎_elim nine other (eq-or-not (length o) 9)
  where
    nine : length o ≡ 9 → read_hex (take (length o - 1) o) ≡ stamp_of o
    nine e =
        let l : length o - 1 ≡ 8 = omega arith in
        let y : get_or o 8 0 ≡ 0 = rw l at z in
        rw (l, eq-eqb (length o) 9 e, eq-eqb (get_or o 8 0) 0 y) (same (read_hex (take 8 o)))

    other : (length o ≡ 9 → ⊥) → read_hex (take (length o - 1) o) ≡ stamp_of o
    other e =
        let s : length (take (length o - 1) o) ≡ length o - 1 = simp length-take (omega arith) in
        rw (ne_eqb (length o) 9 e, s, ne_eqb (length o - 1) 8 (λ q. e (omega arith)))

pub returns-in-0 : goal.returns-in-0
returns-in-0 c = c.read_hex.ensures ∙ ended c.args.option.now (omega arith) (omega arith)
