-- What a frame does, by the state: an empty one is none of those that are heard. Assumes nothing.
use mathlib.Core.Path.{◌≡◌, refl, sym, ap, ◌∙◌}
use mathlib.Core.List.{List, [], ◌∷◌}
use mathlib.Core.Logic.{◌⊎◌, inl, inr}
use Prim.Native.Nat.{ℕ}
use Rattle.fields.specs.Lists.{same}
use Rattle.lines.specs.Frame.{frame_of, starts}
use Rattle.lines.specs.Element.{content_of}
use Rattle.calls.specs.declared.Outcome.{Outcome}
use Rattle.bin.specs.declared.SenderState.{SenderState}
use Rattle.bin.specs.declared.SenderState.TheVariants.{Start, Wait, Send, Ended}
use Rattle.bin.specs.Steps.{SenderSettings, SenderMove, goes, heard, sender_hears, sender_sends, sender_takes}

module _ (s : SenderSettings) (file f : List ℕ) where
  abbrev pub by_state : SenderState → SenderMove
  by_state Start = goes Start []
  by_state Wait = sender_hears s file (heard f)
  by_state (Send n) = sender_sends n f
  by_state (Ended o) = goes (Ended o) []

pub takes : (s : SenderSettings) (file f : List ℕ) (st : SenderState) → sender_takes s file st f ≡ by_state s file f st
unfolding sender_takes sender_sends sender_hears heard content_of frame_of starts same
takes s file [] Start = refl
takes s file [] Wait = refl
takes s file [] (Send n) = refl
takes s file [] (Ended o) = refl
takes s file (x ∷ f) Start = refl
takes s file (x ∷ f) Wait = refl
takes s file (x ∷ f) (Send n) = refl
takes s file (x ∷ f) (Ended o) = refl

-- a move that the state st makes, once that is known to be t
pub taken : (s : SenderSettings) (file f : List ℕ) (st t : SenderState) (a : SenderMove) → st ≡ t → a ≡ by_state s file f t → a ≡ sender_takes s file st f
taken s file f st t a e q = q ∙ sym (takes s file f st ∙ ap (by_state s file f) e)

-- before the line is sent, and at the end, a frame changes nothing
pub idle : (s : SenderSettings) (file f : List ℕ) (st : SenderState) → (st ≡ Start) ⊎ ((o : Outcome) × (st ≡ Ended o)) → goes st [] ≡ sender_takes s file st f
idle s file f st (inl e) = taken s file f st Start (goes st []) e (rw e)
idle s file f st (inr (o, e)) = taken s file f st (Ended o) (goes st []) e (rw e)
