-- A malformed line and a malformed OK end the session with their own number and place; what is sent is what it was before.
-- (Change request 2026-02.) Assumes nothing.
use Rattle.std.specs.Prelude.{Option}
use mathlib.Core.Path.{◌≡◌, refl}
use mathlib.Core.List.{List, [], ◌∷◌}
use Prim.Native.Nat.{ℕ}
use Rattle.fields.specs.declared.Fault.{Fault}
use Rattle.lines.specs.declared.Frame.TheVariants.{MalformedLine, MalformedOK}
use Rattle.lines.specs.Frame.{frame_of}
use Rattle.lines.specs.Element.{no, content_of, no_bytes, no_form, form_of}
use Rattle.records.specs.Saved.{Saved}
use Rattle.calls.specs.declared.Outcome.TheVariants.{Malformed}
use Rattle.bin.specs.declared.SenderState.TheVariants.{Wait}
use Rattle.bin.specs.declared.ReceiverState.TheVariants.{Waiting}
use Rattle.bin.specs.Steps.{SenderSettings, ReceiverSettings, heard, stops, sender_hears, sender_takes, refuses, receiver_hears, receiver_takes, says, format_text}

-- THE LAW: a receiver that waits ends with what the line carries; record and area stand
pub carried-line : (t : ReceiverSettings) (v : Option Saved) (a : List ℕ) (x : ℕ) (b : List ℕ) (f : Fault) → frame_of (x ∷ b) ≡ MalformedLine f
    → receiver_takes t Waiting v a (x ∷ b) ≡ refuses v a (Malformed f) format_text
unfolding receiver_takes receiver_hears heard content_of
carried-line t v a x b f e = rw e

-- it says `#NO#format\r`
pub said-line : says (no format_text) ≡ (35 ∷ 78 ∷ 79 ∷ 35 ∷ 102 ∷ 111 ∷ 114 ∷ 109 ∷ 97 ∷ 116 ∷ 13 ∷ []) ∷ []
unfolding form_of no_form no_bytes
said-line = refl

-- THE LAW: a sender that waits sends the stop frame and ends with what the OK carries
pub carried-ok : (s : SenderSettings) (file : List ℕ) (x : ℕ) (b : List ℕ) (f : Fault) → frame_of (x ∷ b) ≡ MalformedOK f
    → sender_takes s file Wait (x ∷ b) ≡ stops (Malformed f)
unfolding sender_takes sender_hears heard content_of
carried-ok s file x b f e = rw e
