-- The states in which an event does the same, by the variants that are left; where a block ends. Assumes nothing.
use mathlib.Core.Path.{◌≡◌, refl}
use mathlib.Core.Bool.{Bool}
use mathlib.Core.List.{List, []}
use mathlib.Core.Logic.{◌⊎◌, inl, inr}
use Prim.Native.Nat.{ℕ, ◌+◌, ◌-◌, ◌≤◌, ◌<◌}
use native.Mathlib.Omega.{arith}
use lib.ListN.{length, take, drop, length-take, length-drop}
use Rattle.calls.specs.declared.Outcome.{Outcome}
use Rattle.calls.specs.declared.Outcome.TheVariants.{TimedOut, Stopped}
use Rattle.yapp.specs.declared.SenderState.{SenderState}
use Rattle.yapp.specs.declared.SenderState.TheVariants.{S, SH, SD, SE, ST, CW, Ended}
use Rattle.yapp.specs.Steps.{SenderSettings, sends, aborts, sender_transmits, sender_times_out, sender_cancels}

-- the next block ends within the file
pub block-ends : (n block : ℕ) (file next : List ℕ) → next ≡ take block (drop n file) → n < length file → length file ≤ 4294967295
    → n + length next ≤ 4294967295
block-ends n block file next e h g =
    let l : length next ≤ length file - n = rw e (simp (length-take, length-drop) (omega arith)) in
    omega arith

-- the states in which an event does the same
module _ (s : SenderSettings) (file : List ℕ) (c : Bool) where
  pub transmit-none : (x : SenderState)
      → (x ≡ SH) ⊎ (x ≡ SE) ⊎ (x ≡ ST) ⊎ ((o : Outcome) × (x ≡ CW o)) ⊎ ((o : Outcome) × (x ≡ Ended o))
      → sends x c [] ≡ sender_transmits s file x c
  unfolding sender_transmits
  transmit-none x (inl e) = rw e refl
  transmit-none x (inr (inl e)) = rw e refl
  transmit-none x (inr (inr (inl e))) = rw e refl
  transmit-none x (inr (inr (inr (inl (o, e))))) = rw e refl
  transmit-none x (inr (inr (inr (inr (o, e))))) = rw e refl

module _ (c : Bool) where
  pub timeout-abort : (x : SenderState) → (x ≡ SH) ⊎ (x ≡ SE) → aborts TimedOut c ≡ sender_times_out x c
  unfolding sender_times_out
  timeout-abort x (inl e) = rw e refl
  timeout-abort x (inr e) = rw e refl

  pub timeout-none : (x : SenderState) → ((n : ℕ) × (x ≡ SD n)) ⊎ ((o : Outcome) × (x ≡ Ended o)) → sends x c [] ≡ sender_times_out x c
  unfolding sender_times_out
  timeout-none x (inl (n, e)) = rw e refl
  timeout-none x (inr (o, e)) = rw e refl

  pub cancel-none : (x : SenderState) → ((o : Outcome) × (x ≡ CW o)) ⊎ ((o : Outcome) × (x ≡ Ended o)) → sends x c [] ≡ sender_cancels x c
  unfolding sender_cancels
  cancel-none x (inl (o, e)) = rw e refl
  cancel-none x (inr (o, e)) = rw e refl

  pub cancel-abort : (x : SenderState)
      → ((b : Bool) × (n : ℕ) × (x ≡ S b n)) ⊎ (x ≡ SH) ⊎ ((n : ℕ) × (x ≡ SD n)) ⊎ (x ≡ SE) ⊎ (x ≡ ST)
      → aborts Stopped c ≡ sender_cancels x c
  unfolding sender_cancels
  cancel-abort x (inl (b, n, e)) = rw e refl
  cancel-abort x (inr (inl e)) = rw e refl
  cancel-abort x (inr (inr (inl (n, e)))) = rw e refl
  cancel-abort x (inr (inr (inr (inl e)))) = rw e refl
  cancel-abort x (inr (inr (inr (inr e)))) = rw e refl
