-- What holds of every move that a part of the table can make; and in an OK every fault is 7. Assumes nothing.
use Rattle.std.specs.Prelude.{Err, None, Ok, Option, Result, Some}
use mathlib.Core.Path.{◌≡◌, refl, sym, ap, subst, ◌∙◌}
use mathlib.Core.List.{List, [], ◌∷◌}
use mathlib.Core.Bool.{true}
use Prim.Native.Nat.{ℕ, ◌+◌, ◌≤◌, ◌<◌}
use native.Mathlib.Omega.{arith}
use lib.Dec.{leb, eqb}
use lib.ListN.{drop}
use borrow.Author.Tests.{leb-true, leb-false, eqb-true, eqb-false}
use Rattle.fields.specs.Name.{is_name_byte}
use Rattle.fields.specs.declared.Flaw.{Flaw}
use Rattle.fields.specs.declared.Flaw.TheVariants.{NameLength, NameByte, NoDigits, ManyDigits, Other}
use Rattle.fields.specs.declared.Fault.{Fault}
use Rattle.fields.proofs.Lists.{either}
use Rattle.numbers.specs.Reading.{is_digit}
use Rattle.faults.specs.declared.Stage.{Stage}
use Rattle.faults.specs.declared.Stage.TheVariants.{OkName, OkDollar, OkKept, OkCrc, End}
use Rattle.faults.specs.Faults.{name_part, size_part, crc_part, crc_with, in_part, in_crc, only, in_ok, step_of, end_of, check_from, check_ok, fault_in}
use Rattle.faults.proofs.Turns.{turn-to, turn-wrong, turn_end, turn-whole, faulty-sound}

-- ---- What a byte is within a part, case by case: P holds of the move that it makes

module _ (P : Result Stage Flaw → Type 0) (wrong : (f : Flaw) → P (Err f)) (k c : ℕ) where
  pub of-name : (z : ℕ) (on : ℕ → Stage) (behind : Result Stage Flaw) → (is_name_byte c ≡ true → k < 64 → P (Ok (on (k + 1)))) → (c ≡ z → 1 ≤ k → P behind)
      → P (in_part (name_part z k c) on behind)
  unfolding name_part
  of-name z on behind more b =
      either Q (eqb c z) _ _
      (λ e. either Q (eqb k 0) _ _ (λ _. wrong NameLength) (λ n. b (eqb-true c z e) (omega (arith, eqb-false k 0 n))))
      (λ _. either Q (leb 64 k) _ _ (λ _. wrong NameLength)
      (λ l. either Q (is_name_byte c) _ _ (λ e. more e (leb-false 64 k l)) (λ _. wrong NameByte)))
    where
      Q : Result (Option ℕ) Flaw → Type 0
      Q p = P (in_part p on behind)

  pub of_size : (on : ℕ → Stage) (behind : Result Stage Flaw) → (is_digit c ≡ true → k < 8 → P (Ok (on (k + 1)))) → (1 ≤ k → P behind)
      → P (in_part (size_part k c) on behind)
  unfolding size_part
  of_size on behind more b =
      either Q (is_digit c) _ _
      (λ d. either Q (leb 8 k) _ _ (λ _. wrong ManyDigits) (λ l. more d (leb-false 8 k l)))
      (λ _. either Q (eqb k 0) _ _ (λ _. wrong NoDigits) (λ n. b (omega (arith, eqb-false k 0 n))))
    where
      Q : Result (Option ℕ) Flaw → Type 0
      Q p = P (in_part p on behind)

pub of-crc : (P : Result Stage Flaw → Type 0) → P (Err Other) → (k c v : ℕ) (on : ℕ → ℕ → Stage) (behind : Result Stage Flaw)
    → (is_digit c ≡ true → k < 5 → crc_with k v c ≤ 65535 → P (Ok (on (k + 1) (crc_with k v c)))) → (1 ≤ k → P behind)
    → P (in_crc (crc_part k v c) on behind)
unfolding crc_part
of-crc P wrong k c v on behind more b =
    either Q (is_digit c) _ _
    (λ d. either Q (leb 5 k) _ _ (λ _. wrong)
    (λ l. either Q (leb (crc_with k v c) 65535) _ _ (λ m. more d (leb-false 5 k l) (leb-true (crc_with k v c) 65535 m)) (λ _. wrong)))
    (λ _. either Q (eqb k 0) _ _ (λ _. wrong) (λ n. b (omega (arith, eqb-false k 0 n))))
  where
    Q : Result (Option (ℕ × ℕ)) Flaw → Type 0
    Q p = P (in_crc p on behind)

pub of-only : (P : Result Stage Flaw → Type 0) (x c : ℕ) (q : Stage) (f : Flaw) → P (Err f) → (c ≡ x → P (Ok q)) → P (only x c q f)
of-only P x c q f wrong on = either P (eqb c x) (Ok q) (Err f) (λ e. on (eqb-true c x e)) (λ _. wrong)

-- ---- What holds of a fault

-- at the end of the bytes, at a byte that offends, and wherever it holds from the next stage on
pub along : (f : Fault) (P : Stage → ℕ → List ℕ → Type 0)
    → ((q : Stage) (i : ℕ) (w : Flaw) → end_of q ≡ Some w → record { flaw = w; offset = i } ≡ f → P q i [])
    → ((q : Stage) (i c : ℕ) (s : List ℕ) (w : Flaw) → step_of q c ≡ Err w → record { flaw = w; offset = i } ≡ f → P q i (c ∷ s))
    → ((q p : Stage) (i c : ℕ) (s : List ℕ) → step_of q c ≡ Ok p → check_from p (i + 1) s ≡ Some f → P p (i + 1) s → P q i (c ∷ s))
    → (q : Stage) (i : ℕ) (s : List ℕ) → check_from q i s ≡ Some f → P q i s
along f P ended wrong on q i [] e = go (end_of q) refl
  where
    go : (m : Option Flaw) → end_of q ≡ m → P q i []
    go None h = faulty-sound (sym e ∙ turn-whole q i h)
    go (Some w) h = ended q i w h (ap fault_in (sym (turn_end q w i h) ∙ e))
along f P ended wrong on q i (c ∷ s) e = go (λ p g. along f P ended wrong on p (i + 1) s g) (step_of q c) refl
  where
    go : ((p : Stage) → check_from p (i + 1) s ≡ Some f → P p (i + 1) s) → (m : Result Stage Flaw) → step_of q c ≡ m → P q i (c ∷ s)
    go next (Ok p) h = let g = sym (turn-to q p i c s h) ∙ e in on q p i c s h g (next p g)
    go next (Err w) h = wrong q i c s w h (ap fault_in (sym (turn-wrong q w i c s h) ∙ e))

-- ---- In an OK every fault is 7

data InOk : Stage → Type 0 where
  at_name : (k : ℕ) → InOk (OkName k)
  at_dollar : InOk OkDollar
  at_kept : (k : ℕ) → InOk (OkKept k)
  at_crc : (k v : ℕ) → InOk (OkCrc k v)
  at_end : InOk End

abbrev Stays : Result Stage Flaw → Type 0
Stays (Ok q) = InOk q
Stays (Err f) = f ≡ Other

ok_step : (q : Stage) (c : ℕ) → InOk q → Stays (step_of q c)
unfolding step_of
ok_step _ c (at_name k) =
    either Stays (eqb c 13) _ _ (λ _. at_end)
    (λ _. of-name (λ (m : Result Stage Flaw). Stays (in_ok m)) (λ _. refl) k c 35 OkName (Ok OkDollar) (λ _ _. at_name (k + 1)) (λ _ _. at_dollar))
ok_step _ c at_dollar = of-only Stays 36 c (OkKept 0) Other refl (λ _. at_kept 0)
ok_step _ c (at_kept k) =
    let P : Result Stage Flaw → Type 0 = λ (m : Result Stage Flaw). Stays (in_ok m) in
    of_size P (λ _. refl) k c OkKept (only 35 c (OkCrc 0 0) Other) (λ _ _. at_kept (k + 1))
    (λ _. of-only P 35 c (OkCrc 0 0) Other refl (λ _. at_crc 0 0))
ok_step _ c (at_crc k v) =
    of-crc Stays refl k c v OkCrc (only 13 c End Other) (λ _ _ _. at_crc (k + 1) (crc_with k v c)) (λ _. of-only Stays 13 c End Other refl (λ _. at_end))
ok_step _ c at_end = refl

abbrev Unended : Option Flaw → Type 0
Unended None = Unit {0}
Unended (Some f) = f ≡ Other

ok_end : (q : Stage) → InOk q → Unended (end_of q)
unfolding end_of
ok_end _ (at_name k) = refl
ok_end _ at_dollar = refl
ok_end _ (at_kept k) = refl
ok_end _ (at_crc k v) = refl
ok_end _ at_end = tt

pub ok-other : (b : List ℕ) (f : Fault) → check_ok b ≡ Some f → f.flaw ≡ Other
unfolding check_ok
ok-other b f e =
    along f (λ (q : Stage) (i : ℕ) (s : List ℕ). InOk q → f.flaw ≡ Other)
    (λ q i w h g a. sym (ap (λ (x : Fault). x.flaw) g) ∙ subst Unended h (ok_end q a))
    (λ q i c s w h g a. sym (ap (λ (x : Fault). x.flaw) g) ∙ subst Stays h (ok_step q c a))
    (λ q p i c s h g next a. next (subst Stays h (ok_step q c a)))
    (OkName 0) 4 (drop 4 b) e (at_name 0)
