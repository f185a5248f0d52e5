-- How long the next frame of the file is. Assumes nothing.
use mathlib.Core.Path.{◌≡◌, refl}
use mathlib.Core.Bool.{Bool, true, false}
use mathlib.Core.List.{List}
use Prim.Native.Nat.{ℕ, ◌≤◌}
use native.Mathlib.Omega.{arith}
use lib.ListN.{length, take, length-take}
use lib.Dec.{leb}
use borrow.Author.Tests.{leb-true}
use Rattle.fields.specs.Pick.{pick}
use Rattle.fields.specs.Lists.{same}
use Rattle.lines.specs.Frame.{starts, display_mark, stop_frame}
use Rattle.bin.specs.Steps.{cut}
use Rattle.bin_sender.specs.Sender.{block_of}

-- a frame of the file has at most 256 bytes
pub block_most : (block : ℕ) → block_of block ≤ 256
block_most block = go (leb block 256) refl
  where
    go : (x : Bool) → leb block 256 ≡ x → pick x block 256 ≤ 256
    go true e = leb-true block 256 e
    go false e = omega arith

pub cut_most : (block : ℕ) (rest : List ℕ) → length (cut (block_of block) rest) ≤ 256
unfolding cut
cut_most block rest = go (starts display_mark rest) (same stop_frame (take (block_of block) rest))
  where
    front : (k : ℕ) → k ≤ 256 → length (take k rest) ≤ 256
    front k h = simp length-take (omega arith)

    go : (x y : Bool) → length (pick x (take 1 rest) (pick y (take 1 rest) (take (block_of block) rest))) ≤ 256
    go true y = front 1 (omega arith)
    go false true = front 1 (omega arith)
    go false false = front (block_of block) (block_most block)

pub frame-most : (block : ℕ) (rest frame : List ℕ) → frame ≡ cut (block_of block) rest → length frame ≤ 256
frame-most block rest frame e = rw e (cut_most block rest)
