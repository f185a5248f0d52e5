-- Only contracts of private functions cite this.
-- The move of `bin` that a step stands for, and what is laid into the reply buffer.
use Rattle.std.specs.Prelude.{ℕ, ◌≡◌, List, [], ◌∷◌, length, drop}
use Rattle.fields.specs.Buffer.{over}
use Rattle.lines.specs.Frame.{stop_frame}
use Rattle.bin.specs.Steps.{cut, line_of, SenderMove, goes}
use Rattle.bin_sender.specs.declared.Sender.{Sender}
use Rattle.bin_sender.specs.declared.step.Out.{Out}
use Rattle.bin_sender.specs.declared.step.Out.TheVariants.{Nothing, Line, Data, Stop}
use Rattle.bin_sender.specs.declared.step.Step.{Step}
use Rattle.bin_sender.specs.Sender.{settings_of}

-- the frames that are sent
abbrev pub frames_by : Sender → List ℕ → Out → List (List ℕ)
frames_by m file Nothing = []
frames_by m file Line = line_of (settings_of m) file ∷ []
frames_by m file (Data n) = cut (settings_of m).block (drop n file) ∷ []
frames_by m file Stop = stop_frame ∷ []

abbrev pub move_by : Sender → List ℕ → Step → SenderMove
move_by m file s = goes s.state (frames_by m file s.out)

-- b at the front of the reply buffer d, which is then e; r is how many bytes that are
abbrev pub Laid : List ℕ → List ℕ → List ℕ → ℕ → Type 0
Laid b d e r = (r ≡ length b) × (e ≡ over 0 b d)
