-- Only contracts of private functions cite this.
-- The move of `yapp` that a step of the code stands for.
use Rattle.std.specs.Prelude.{ℕ, true, List, [], ◌∷◌, take, drop}
use Rattle.packets.specs.Content.{Content, hd, dt, content_of}
use Rattle.yapp.specs.Steps.{SenderSettings, SenderMove, sends}
use Rattle.yapp_sender.specs.declared.step.Out.{Out}
use Rattle.yapp_sender.specs.declared.step.Out.TheVariants.{Nothing, HD, DT, Of}
use Rattle.yapp_sender.specs.declared.step.Step.{Step}

-- the packets that are sent
abbrev pub contents_of : SenderSettings → List ℕ → Out → List Content
contents_of s file Nothing = []
contents_of s file HD = hd s.name s.size s.stamp ∷ []
contents_of s file (DT n) = dt (take s.block (drop n file)) true ∷ []
contents_of s file (Of packet) = content_of [] packet ∷ []

abbrev pub move_of : SenderSettings → List ℕ → Step → SenderMove
move_of s file t = sends t.state t.checked (contents_of s file t.out)
