-- Only contracts of private functions and the invariant of the private `Rows` cite this.
-- Ten rows of remainders, by which the walk takes eight bytes at a time (change requests 2026-03, 2026-06).
-- Assumes nothing.
use Rattle.std.specs.Prelude.{◌≡◌, List, [], ℕ, zero, suc, ◌+◌, ◌*◌, ◌/◌, ◌%◌, ◌<◌, get_or}
use Rattle.crc.specs.declared.Reading.{Reading}
use Rattle.crc.specs.declared.Reading.TheVariants.{Bare, Augmented}
use Rattle.crc.specs.Crc.{reduced, byte_step}

-- the remainder of r times x^k, for a remainder r
unfoldable pub times : ℕ → ℕ → ℕ
times zero r = r
times (suc k) r = reduced (times k r * 2)

-- entry i of ten rows of 256, one behind another: row j has the bytes times x^(8 j), so row 2 is the table
unfoldable pub rows_at : ℕ → ℕ
rows_at i = times (8 * (i / 256)) (i % 256)

-- the row in which the last byte of eight is looked up: by the old reading a byte goes in as it is, by the new one times x^16
abbrev pub row_of : Reading → ℕ
row_of Bare = 0
row_of Augmented = 2

-- the first n of the rows: byte b of row j is entry 256 j + b
abbrev pub AreRows : ℕ → List (List ℕ) → Type 0
AreRows n rows = (j : ℕ) → j < n → (b : ℕ) → b < 256 → get_or (get_or rows j []) b 0 ≡ rows_at (256 * j + b)

-- the steps of eight bytes
abbrev pub eight_steps : Reading → ℕ → ℕ → ℕ → ℕ → ℕ → ℕ → ℕ → ℕ → ℕ → ℕ
eight_steps q r a b c d e f g h =
    byte_step q (byte_step q (byte_step q (byte_step q (byte_step q (byte_step q (byte_step q (byte_step q r a) b) c) d) e) f) g) h
