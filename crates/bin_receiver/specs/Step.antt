-- Only contracts of private functions cite this.
-- What a step of the code is in the definitions of `bin`: a move of the receiver, its record as the struct holds it, what it says by its kind
-- and a new name by its place in the frame.
use Rattle.std.specs.Prelude.{ℕ, List, [], ◌∷◌, None, Option, Some}
use Rattle.fields.specs.Lists.{bytes_at}
use Rattle.fields.specs.declared.Place.{Place}
use Rattle.lines.specs.Frame.{stop_frame}
use Rattle.lines.specs.Element.{ok, ok_name, ok_kept, no}
use Rattle.calls.specs.Saving.{saved_by}
use Rattle.bin.specs.Steps.{ReceiverMove, answers, says, format_text, room_text, have_text, differs_text}
use Rattle.bin_receiver.specs.declared.Receiver.{Receiver}
use Rattle.bin_receiver.specs.declared.step.Step.{Step}
use Rattle.bin_receiver.specs.declared.step.Out.{Out}
use Rattle.bin_receiver.specs.declared.step.Out.TheVariants.{Silent, Format, Room, Have, Differs, FirstOk, SecondOk, ThirdOk, Stop}

-- the frames that are said, with a name
abbrev pub frames_of : List ℕ → Out → List (List ℕ)
frames_of name Silent = []
frames_of name Format = says (no format_text)
frames_of name Room = says (no room_text)
frames_of name Have = says (no have_text)
frames_of name Differs = says (no differs_text)
frames_of name FirstOk = says ok
frames_of name SecondOk = says (ok_name name)
frames_of name (ThirdOk kept crc) = says (ok_kept name kept crc)
frames_of name Stop = stop_frame ∷ []

-- where the record's name stands at the front: a new one in the frame f, else the receiver's array
abbrev pub named_in : Receiver → List ℕ → Option Place → List ℕ
named_in m f None = m.name
named_in m f (Some p) = bytes_at f p

-- the move that a step is, with the frame f and the area a
abbrev pub move_by : Receiver → List ℕ → List ℕ → Step → ReceiverMove
move_by m f a s =
    answers s.state (saved_by s.keeping (named_in m f s.renamed)) a (frames_of (named_in m f s.renamed) s.out) s.stored

-- the same where there is a step, else the move of a frame of the file
abbrev pub move_or : Receiver → List ℕ → List ℕ → ReceiverMove → Option Step → ReceiverMove
move_or m f a file None = file
move_or m f a file (Some s) = move_by m f a s
