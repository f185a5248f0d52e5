-- One turn of the table, and a run over the bytes of one part. Assumes nothing.
use Rattle.std.specs.Prelude.{Err, None, Ok, Option, Some}
use mathlib.Core.Path.{◌≡◌, refl, sym, ap, subst, ◌∙◌}
use mathlib.Core.Bool.{Bool, true}
use mathlib.Core.List.{List, [], ◌∷◌, ◌++◌}
use Prim.Native.Nat.{ℕ, suc, ◌+◌, ◌≤◌, ◌<◌}
use native.Mathlib.Nat.{add-zero}
use native.Mathlib.Omega.{arith}
use lib.ListN.{length, drop, get_or, drop_of_length-le}
use Rattle.fields.specs.Lists.{all}
use Rattle.fields.specs.declared.Flaw.{Flaw}
use Rattle.fields.specs.declared.Fault.{Fault}
use Rattle.fields.proofs.Lists.{both, drop-one}
use Rattle.faults.specs.declared.Stage.{Stage}
use Rattle.faults.specs.declared.Stage.TheVariants.{HeaderOption}
use Rattle.faults.specs.Faults.{step_of, end_of, fault, end_by, check_from}

pub faulty-sound : {A : Type 0} {f : Fault} → Some f ≡ None → A
faulty-sound {A} p = absurd (subst IsFaulty p tt)
  where
    IsFaulty : Option Fault → Type 0
    IsFaulty None = ⊥
    IsFaulty (Some f) = Unit {0}

pub turn-to : (q p : Stage) (i c : ℕ) (s : List ℕ) → step_of q c ≡ Ok p → check_from q i (c ∷ s) ≡ check_from p (i + 1) s
unfolding check_from
turn-to q p i c s h = rw h refl

pub turn-wrong : (q : Stage) (w : Flaw) (i c : ℕ) (s : List ℕ) → step_of q c ≡ Err w → check_from q i (c ∷ s) ≡ fault w i
unfolding check_from
turn-wrong q w i c s h = rw h refl

-- the bytes end
pub turn_end : (q : Stage) (w : Flaw) (i : ℕ) → end_of q ≡ Some w → check_from q i [] ≡ fault w i
unfolding check_from
turn_end q w i h = rw h refl

pub turn-whole : (q : Stage) (i : ℕ) → end_of q ≡ None → check_from q i [] ≡ None
unfolding check_from
turn-whole q i h = rw h refl

-- every option is sound
pub option-sound : (i : ℕ) (s : List ℕ) → check_from HeaderOption i s ≡ None
unfolding step_of end_of
option-sound i [] = turn-whole HeaderOption i refl
option-sound i (c ∷ s) = turn-to HeaderOption HeaderOption i c s refl ∙ option-sound (i + 1) s

-- over bytes that all belong to a part which counts them
pub run : (part : ℕ → Stage) (f : ℕ → Bool) (most : ℕ) → ((k c : ℕ) → f c ≡ true → k < most → step_of (part k) c ≡ Ok (part (k + 1)))
    → (n s : List ℕ) (k i : ℕ) → all f n ≡ true → k + length n ≤ most
    → check_from (part k) i (n ++ s) ≡ check_from (part (k + length n)) (i + length n) s
unfolding all
run part f most step [] s k i a h =
    ap (λ (x : ℕ). check_from (part x) i s) (sym (add-zero k)) ∙ ap (λ (x : ℕ). check_from (part (k + 0)) x s) (sym (add-zero i))
run part f most step (c ∷ n) s k i a h =
    let e : k + 1 + length n ≡ k + suc (length n) = omega arith in
    let g : i + 1 + length n ≡ i + suc (length n) = omega arith in
    let b = both _ _ a in
    turn-to (part k) (part (k + 1)) i c (n ++ s) (step k c b.0 (omega arith)) ∙ run part f most step n s (k + 1) (i + 1) b.1 (omega arith)
    ∙ ap (λ (x : ℕ). check_from (part x) (i + 1 + length n) s) e ∙ ap (λ (x : ℕ). check_from (part (k + suc (length n))) x s) g

-- the same on what is left of s at the place i
module _ (q : Stage) (i : ℕ) (s : List ℕ) where
  pub go_on : (p : Stage) → i < length s → step_of q (get_or s i 0) ≡ Ok p → check_from q i (drop i s) ≡ check_from p (i + 1) (drop (i + 1) s)
  go_on p l h = ap (check_from q i) (drop-one s i l) ∙ turn-to q p i (get_or s i 0) (drop (i + 1) s) h

  pub go-wrong : (w : Flaw) → i < length s → step_of q (get_or s i 0) ≡ Err w → check_from q i (drop i s) ≡ fault w i
  go-wrong w l h = ap (check_from q i) (drop-one s i l) ∙ turn-wrong q w i (get_or s i 0) (drop (i + 1) s) h

  pub go-end : length s ≤ i → check_from q i (drop i s) ≡ end_by (end_of q) i
  unfolding check_from
  go-end l = ap (check_from q i) (drop_of_length-le s l)
