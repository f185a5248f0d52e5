-- What a frame that has come does, by the state. Assumes nothing.
use Rattle.std.specs.Prelude.{Option}
use mathlib.Core.Path.{◌≡◌, refl}
use mathlib.Core.List.{List, [], ◌∷◌}
use Prim.Native.Nat.{ℕ, ◌<◌}
use native.Mathlib.Omega.{arith}
use lib.ListN.{length}
use Rattle.records.specs.Saved.{Saved}
use Rattle.bin.specs.declared.ReceiverState.{ReceiverState}
use Rattle.bin.specs.declared.ReceiverState.TheVariants.{Waiting, Basic, Extended, Ended}
use Rattle.bin.specs.Steps.{ReceiverSettings, ReceiverMove, answers, heard, receiver_hears, sorted, takes_frame, takes_basic_frame, receiver_takes}

module _ (t : ReceiverSettings) (v : Option Saved) (a f : List ℕ) where
  -- of a frame that is not empty, in the state st, of the kind of s
  abbrev pub by_state : ReceiverState → ReceiverState → ReceiverMove
  by_state st Waiting = receiver_hears t v a (heard f)
  by_state st (Basic size kept) = sorted st v a f (takes_basic_frame size kept v a f)
  by_state st (Extended crc) = sorted st v a f (takes_frame t.reading crc v a f)
  by_state st (Ended o) = answers st v a [] 0

pub takes_some : (t : ReceiverSettings) (v : Option Saved) (a f : List ℕ) (st : ReceiverState) → 0 < length f
    → receiver_takes t st v a f ≡ by_state t v a f st st
unfolding receiver_takes
takes_some t v a [] st l = absurd (omega arith)
takes_some t v a (x ∷ f) Waiting l = refl
takes_some t v a (x ∷ f) (Basic size kept) l = refl
takes_some t v a (x ∷ f) (Extended crc) l = refl
takes_some t v a (x ∷ f) (Ended o) l = refl

pub takes_none : (t : ReceiverSettings) (v : Option Saved) (a f : List ℕ) (st : ReceiverState) → length f ≡ 0
    → receiver_takes t st v a f ≡ answers st v a [] 0
unfolding receiver_takes
takes_none t v a [] st e = refl
takes_none t v a (x ∷ f) st e = absurd (omega (arith, e))
