-- The laws of the form of DT: the ways that it is refused, and its bytes. Assumes nothing.
use mathlib.Core.Path.{◌≡◌, ap}
use mathlib.Core.Bool.{Bool, true, false}
use mathlib.Core.List.{List, [], ◌∷◌, ◌++◌, append-nil}
use Prim.Native.Nat.{ℕ, ◌%◌, ◌≤◌}
use lib.ListN.{length}
use borrow.Author.Tests.{le-leb}
use Rattle.fields.specs.Buffer.{bytes}
use Rattle.packets.specs.Packet.{checksum}
use Rattle.packets.specs.Content.{block_form}

module _ (checked : Bool) (s : List ℕ) where
  module _ (some : 1 ≤ length s) (short : length s ≤ 256) where
    pub block-checked : checked ≡ true → block_form checked s ≡ bytes ((2 ∷ length s % 256 ∷ s) ++ (checksum s ∷ []))
    unfolding block_form
    block-checked e = rw (e, le-leb 1 (length s) some, le-leb (length s) 256 short)

    pub block-plain : checked ≡ false → block_form checked s ≡ bytes (2 ∷ length s % 256 ∷ s)
    unfolding block_form
    block-plain e = rw (e, le-leb 1 (length s) some, le-leb (length s) 256 short) (ap bytes (append-nil (2 ∷ length s % 256 ∷ s)))
