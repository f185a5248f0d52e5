-- The timer and the operator's stop, by the variants that are left. Assumes nothing.
use mathlib.Core.Path.{◌≡◌, refl}
use mathlib.Core.Bool.{Bool}
use mathlib.Core.List.{List, []}
use mathlib.Core.Logic.{◌⊎◌, inl, inr}
use Prim.Native.Nat.{ℕ}
use Rattle.calls.specs.declared.Outcome.{Outcome}
use Rattle.calls.specs.declared.Outcome.TheVariants.{TimedOut, Stopped}
use Rattle.yapp.specs.declared.ReceiverState.{ReceiverState}
use Rattle.yapp.specs.declared.ReceiverState.TheVariants.{R, RH, RD, CW, Ended}
use Rattle.yapp.specs.Steps.{ReceiverNow, goes, fails, receiver_times_out, receiver_cancels}

module _ (n : ReceiverNow) (a : List ℕ) (x : ReceiverState) where
  pub times_out : (x ≡ R) ⊎ ((w : Bool) × (x ≡ RH w)) ⊎ (x ≡ RD) → receiver_times_out n a x ≡ fails n a TimedOut
  unfolding receiver_times_out
  times_out (inl e) = rw e refl
  times_out (inr (inl (w, e))) = rw e refl
  times_out (inr (inr e)) = rw e refl

  pub times_end : (o : Outcome) → (x ≡ CW o) ⊎ (x ≡ Ended o) → receiver_times_out n a x ≡ goes n a (Ended o) []
  unfolding receiver_times_out
  times_end o (inl e) = rw e refl
  times_end o (inr e) = rw e refl

  pub stops : (x ≡ R) ⊎ ((w : Bool) × (x ≡ RH w)) ⊎ (x ≡ RD) → receiver_cancels n a x ≡ fails n a Stopped
  unfolding receiver_cancels
  stops (inl e) = rw e refl
  stops (inr (inl (w, e))) = rw e refl
  stops (inr (inr e)) = rw e refl

  pub stops_none : ((o : Outcome) × (x ≡ CW o)) ⊎ ((o : Outcome) × (x ≡ Ended o)) → receiver_cancels n a x ≡ goes n a x []
  unfolding receiver_cancels
  stops_none (inl (o, e)) = rw e refl
  stops_none (inr (o, e)) = rw e refl
