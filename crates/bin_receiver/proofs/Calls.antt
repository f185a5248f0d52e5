-- An end that has not ended fails. Assumes nothing.
use Rattle.std.specs.Prelude.{Option}
use mathlib.Core.Path.{◌≡◌, refl, sym}
use mathlib.Core.Bool.{false}
use mathlib.Core.List.{List, [], ◌∷◌}
use Prim.Native.Nat.{ℕ}
use Rattle.fields.proofs.Lists.{never}
use Rattle.lines.specs.Frame.{stop_frame}
use Rattle.records.specs.Saved.{Saved}
use Rattle.calls.specs.declared.Outcome.{Outcome}
use Rattle.bin.specs.declared.ReceiverState.{ReceiverState}
use Rattle.bin.specs.declared.ReceiverState.TheVariants.{Waiting, Basic, Extended, Ended}
use Rattle.bin.specs.Steps.{answers, receiver_fails, receiver_ended}

pub fails-open : (o : Outcome) (st : ReceiverState) (v : Option Saved) (a : List ℕ) → receiver_ended st ≡ false
    → receiver_fails o st v a ≡ answers (Ended o) v a (stop_frame ∷ []) 0
unfolding receiver_fails
fails-open o Waiting v a e = refl
fails-open o (Basic size kept) v a e = refl
fails-open o (Extended crc) v a e = refl
fails-open o (Ended x) v a e = never (sym e)
