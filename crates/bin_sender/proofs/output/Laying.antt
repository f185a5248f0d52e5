-- What is laid into the reply buffer. Assumes nothing.
use Rattle.fields.specs.declared.WriteError.{WriteError}
use Rattle.std.specs.Prelude.{Result, ℕ}
use mathlib.Core.Path.{◌≡◌, refl, sym, ap, ◌∙◌}
use mathlib.Core.Bool.{Bool}
use mathlib.Core.List.{List, [], ◌∷◌, append-nil}
use Prim.Native.Nat.{ℕ, ◌≤◌}
use native.Mathlib.Omega.{arith}
use lib.ListN.{length, take}
use Rattle.fields.specs.Buffer.{Form, bytes_in, appended, appended_end, written_of, left_of}
use Rattle.fields.proofs.Buffer.{over_none, append-fits}
use Rattle.crc.specs.declared.Reading.{Reading}
use Rattle.crc.specs.Crc.{crc_by}
use Rattle.lines.specs.Element.{basic_form, line_form, form_of}
use Rattle.calls.specs.Count.{count_of}
use Rattle.calls.proofs.Laws.{wrote as laid}
use Rattle.bin.specs.declared.Announce.TheVariants.{Basic, Extended}
use Rattle.bin.specs.Steps.{joined, cut, line_of}
use Rattle.bin_sender.specs.declared.Sender.{Sender}
use Rattle.bin_sender.specs.Sender.{block_of, settings_of}
use Rattle.bin_sender.specs.Step.{Laid}
use Rattle.bin_sender.proofs.step.Cutting.{frame-most}

-- a writer that answers w has laid down what its form f has
pub wrote : (b : List ℕ) (f : Form) (d e : List ℕ) (w : Result ℕ WriteError) (r : ℕ) → b ≡ bytes_in f → 259 ≤ length d → r ≡ count_of w
    → (w ≡ written_of 259 f d) × (e ≡ left_of 259 f d) → Laid b d e r
wrote b f d e w r l h q p = let z = laid f d e w h p in rw l (q ∙ z.0, z.1)

-- a frame of the file
pub copied : (block : ℕ) (rest frame d e : List ℕ) (r : ℕ) → frame ≡ cut (block_of block) rest → 259 ≤ length d
    → (r ≡ appended_end 0 frame d) × (e ≡ appended 0 frame d) → Laid (cut (block_of block) rest) d e r
copied block rest frame d e r q h p =
    let a = append-fits 0 frame d (omega (arith, frame-most block rest frame q)) in
    rw (← q) (p.0 ∙ sym a.0 ∙ omega arith, p.1 ∙ sym a.1)

-- the line
module _ (m : Sender) (file : List ℕ) where
  pub line-basic : m.core.announce ≡ Basic → line_of (settings_of m) file ≡ bytes_in (basic_form m.core.size)
  unfolding form_of
  line-basic e = rw e

  pub line-extended : (stamp : ℕ) (resumes : Bool) (reading : Reading) (crc : ℕ) (own : List ℕ) → m.core.announce ≡ Extended stamp resumes reading → crc ≡ crc_by reading file
      → own ≡ take m.core.named m.name → line_of (settings_of m) file ≡ bytes_in (line_form m.core.size crc stamp resumes own)
  unfolding form_of
  line-extended stamp resumes reading crc own e c n = rw (e, c, n)

-- the frames l: none, or one frame
module _ (l : List (List ℕ)) (d : List ℕ) where
  pub put-nothing : l ≡ [] → Laid (joined l) d d 0
  put-nothing e = rw e (refl, sym (over_none d))

  pub put_one : (b e : List ℕ) (r : ℕ) → l ≡ b ∷ [] → Laid b d e r → Laid (joined l) d e r
  put_one b e r q p = let j : joined l ≡ b = ap joined q ∙ append-nil b in rw j p
