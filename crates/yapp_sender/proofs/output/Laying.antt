-- What is laid into the reply buffer. Assumes nothing.
use Rattle.fields.specs.declared.WriteError.{WriteError}
use Rattle.std.specs.Prelude.{Result, ℕ}
use mathlib.Core.Path.{◌≡◌, refl, sym, ap, ◌∙◌}
use mathlib.Core.Bool.{Bool}
use mathlib.Core.List.{List, [], ◌∷◌, append-nil}
use Prim.Native.Nat.{ℕ, ◌≤◌}
use lib.ListN.{length}
use Rattle.fields.specs.Buffer.{Form, bytes_in, written_of, left_of}
use Rattle.fields.proofs.Buffer.{over_none}
use Rattle.packets.specs.Content.{Content, form_of}
use Rattle.yapp.specs.Steps.{writes}
use Rattle.calls.specs.Count.{count_of}
use Rattle.calls.proofs.Laws.{wrote}
use Rattle.yapp_sender.specs.Output.{Laid}

-- one packet, of the form f
pub put_one : (k : Bool) (c : Content) (f : Form) (d e : List ℕ) (w : Result ℕ WriteError) (r : ℕ) → 259 ≤ length d → r ≡ count_of w
    → (w ≡ written_of 259 f d) × (e ≡ left_of 259 f d) → f ≡ form_of k c → Laid (writes k (c ∷ [])) d e r
unfolding writes
put_one k c f d e w r h n p q =
    let j : writes k (c ∷ []) ≡ bytes_in f = append-nil (bytes_in (form_of k c)) ∙ ap bytes_in (sym q) in
    let l = wrote f d e w h p in
    rw j (n ∙ l.0, l.1)

pub put_nothing : (k : Bool) (d : List ℕ) → Laid (writes k []) d d 0
unfolding writes
put_nothing k d = (refl, sym (over_none d))
