-- Only contracts of private functions cite this.
-- Bytes laid into the reply buffer.
use Rattle.std.specs.Prelude.{ℕ, ◌≡◌, List, length}
use Rattle.fields.specs.Buffer.{over}

-- the bytes b at the front of the buffer d, which is then e; r is how many bytes that are
abbrev pub Laid : List ℕ → List ℕ → List ℕ → ℕ → Type 0
Laid b d e r = (r ≡ length b) × (e ≡ over 0 b d)
