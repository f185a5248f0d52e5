-- What a call that is taken knows; the beginnings. Assumes nothing.
use mathlib.Core.Path.{◌≡◌, refl, sym}
use mathlib.Core.Bool.{true, false}
use mathlib.Core.List.{List, []}
use Prim.Native.Nat.{ℕ, ◌≤◌}
use native.Mathlib.Omega.{arith}
use lib.ListN.{length, replicate}
use Rattle.fields.specs.Buffer.{appended, over}
use Rattle.fields.proofs.Lists.{never}
use Rattle.calls.specs.declared.Outcome.{Outcome}
use Rattle.calls.specs.Checks.{is_taken}
use Rattle.calls.proofs.Laws.{taken-room}
use Rattle.bin.specs.declared.SenderState.{SenderState}
use Rattle.bin.specs.declared.SenderState.TheVariants.{Start, Wait, Send, Ended}
use Rattle.bin.specs.Steps.{stops, sender_fails, sender_ended}
use Rattle.bin_sender.specs.declared.Sender.{Sender}
use Rattle.bin_sender.specs.Sender.{status_of}

-- an end that has not ended fails by the stop frame
pub fails-stops : (o : Outcome) (st : SenderState) → sender_ended st ≡ false → sender_fails o st ≡ stops o
unfolding sender_fails
fails-stops o Start h = refl
fails-stops o Wait h = refl
fails-stops o (Send n) h = refl
fails-stops o (Ended x) h = never (sym h)

-- its file is as long as was said
pub file-fits : (m : Sender) (frame : ℕ) (file reply : List ℕ) → is_taken (status_of m frame file reply) ≡ true → m.core.size ≤ 4294967295 → length file ≤ 4294967295
file-fits m frame file reply h g = let e = (taken-room _ (length reply) frame (length file) m.core.size h).2 in omega arith

-- a basic transfer has no name
pub no_name : appended 0 [] (replicate 64 0) ≡ replicate 64 0
unfolding appended over
no_name = refl
