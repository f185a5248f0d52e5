-- Data that were laid over the beginning of a room, and the form of a text that is short enough. Assumes nothing.
use mathlib.Core.Path.{◌≡◌}
use mathlib.Core.List.{List}
use Prim.Native.Nat.{ℕ, ◌≤◌}
use lib.Dec.{leb}
use lib.ListN.{length, take}
use lib.Seq.{take-append_seam}
use borrow.Author.Tests.{le-leb}
use Rattle.fields.specs.Buffer.{over, bytes, form_if}

-- they are taken from it again
pub laid_is : (bs d e : List ℕ) (n : ℕ) → (n ≡ length bs) × (e ≡ over 0 bs d) → take n e ≡ bs
unfolding over
laid_is bs d e n q = rw (q.0, q.1) (take-append_seam bs _)

pub text_is : (s bs : List ℕ) → length s ≤ 255 → form_if (leb (length s) 255) bs ≡ bytes bs
text_is s bs h = rw (le-leb (length s) 255 h)
