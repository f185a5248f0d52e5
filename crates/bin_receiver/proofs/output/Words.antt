-- What is said, laid into a reply buffer. Assumes nothing.
use Rattle.fields.specs.declared.WriteError.{WriteError}
use Rattle.std.specs.Prelude.{Result, ℕ}
use mathlib.Core.Path.{◌≡◌, ◌∙◌}
use mathlib.Core.List.{List, [], ◌∷◌, append-nil}
use Prim.Native.Nat.{ℕ, ◌≤◌}
use lib.ListN.{length}
use Rattle.fields.specs.Buffer.{Form, bytes_in, over, written_of, left_of}
use Rattle.calls.specs.Count.{count_of}
use Rattle.calls.proofs.Laws.{wrote}
use Rattle.bin.specs.Steps.{joined}

-- one frame that a writer has laid down, and that was counted
pub laid : (f : Form) (d e : List ℕ) (w : Result ℕ WriteError) (n : ℕ) → 259 ≤ length d → (w ≡ written_of 259 f d) × (e ≡ left_of 259 f d) → n ≡ count_of w
    → (n ≡ length (joined (bytes_in f ∷ []))) × (e ≡ over 0 (joined (bytes_in f ∷ [])) d)
laid f d e w n h p q = rw (append-nil (bytes_in f)) (q ∙ (wrote f d e w h p).0, (wrote f d e w h p).1)
