-- A session by its turns: what its loop keeps, and what follows where it stops. Assumes nothing.
use Prim.Native.Nat.{ℕ, suc, ◌+◌, ◌<◌}
use mathlib.Core.Path.{◌≡◌, refl, sym, ap, ◌∙◌}
use mathlib.Core.Bool.{Bool, false}
use mathlib.Core.List.{List}
use mathlib.Core.Logic.{⊎_elim}
use native.Mathlib.Numerals.{add-one}
use native.Mathlib.Omega.{arith}
use Rattle.std.specs.Prelude.{Result, Ok, Err, IfOk, IsErr}
use Rattle.std.proofs.lemmas.Result.{MatchResult-from_err}
use Rattle.fields.proofs.Lists.{eq-or-not}
use Rattle.transfer.specs.Session.{Standing, turns, most_turns, Why, Reached, Answered}
use Rattle.transfer.specs.declared.link.Saved.{Saved}

module _ {A : Type 0} (turn : A → A) (is_over : A → Bool) (start : A) where
  pub starts : Reached turn is_over start 0 start
  unfolding turns
  starts = record { bounded = omega arith; reached = refl; going = λ k h. absurd (omega arith) }

  -- one turn more, where it is not over
  pub goes : (a b : A) (count : ℕ) (over : Bool) → Reached turn is_over start count a → count < most_turns → over ≡ is_over a → over ≡ false → turn a ≡ b
      → Reached turn is_over start (count + 1) b
  unfolding turns
  goes a b count over g m i o t =
      rw add-one (record {
        bounded = omega arith;
        reached = ap turn g.reached ∙ t;
        going = λ (k : ℕ) (h : k < suc count).
            ⊎_elim
            (λ (e : k ≡ count). rw e (ap is_over g.reached ∙ sym i ∙ o))
            (λ (n : k ≡ count → ⊥). g.going k (omega (arith, n)))
            (eq-or-not k count);
      })

module _ {E F : Type 0} (turn : Standing E → Standing E) (is_over : Standing E → Bool) (saved_at : Standing E → Saved) where
  -- where a write failed
  pub breaks : (start last : Standing E) (count : ℕ) (result : Result Saved F) (kept : List ℕ) → IsErr result
      → Reached turn is_over start count last → kept ≡ last.area → Answered turn is_over saved_at start result kept
  breaks start last count result kept f g k =
      MatchResult-from_err result _ _ f (λ why. record { count = count; last = last; after = g; keeps = k })

  -- where the loop is left, and both ends are stopped
  pub ends : (start last : Standing E) (count : ℕ) (result : Result Saved F) (kept : List ℕ) → Reached turn is_over start count last
      → kept ≡ last.area → Why (is_over last) count → IfOk result (λ s. s ≡ saved_at last) → Answered turn is_over saved_at start result kept
  ends start last count (Ok s) kept g k w l =
      record { last = last; stopped = record { count = count; after = g; why = w }; saves = l; keeps = k }
  ends start last count (Err why) kept g k w l = breaks start last count (Err why) kept refl g k
