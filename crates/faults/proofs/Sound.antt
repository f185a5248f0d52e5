-- Bytes that are right from a stage on: one byte forward and back, and a part whose bytes are counted. Assumes nothing.
use Rattle.std.specs.Prelude.{Err, None, Ok, Option, Result, Some}
use mathlib.Core.Path.{◌≡◌, refl, sym, ap, subst, ◌∙◌}
use mathlib.Core.Bool.{Bool, true}
use mathlib.Core.List.{List, [], ◌∷◌, ◌++◌}
use mathlib.Core.Logic.{⊎_elim}
use Prim.Native.Nat.{ℕ, ◌+◌, ◌≤◌, ◌<◌}
use native.Mathlib.Omega.{arith}
use lib.ListN.{length, take, drop, take-append-drop}
use lib.Seq.{length-take-le}
use Rattle.fields.specs.Lists.{all}
use Rattle.fields.specs.declared.Flaw.{Flaw}
use Rattle.fields.proofs.Lists.{le-or-lt}
use Rattle.faults.specs.declared.Stage.{Stage}
use Rattle.faults.specs.declared.Stage.TheVariants.{End}
use Rattle.faults.specs.Faults.{only, step_of, end_of, end_by, go_by, stage_in, check_from}
use Rattle.faults.specs.Search.{front}
use Rattle.faults.proofs.Turns.{faulty-sound, turn-to, turn_end, turn-whole, run}
use Rattle.faults.proofs.Moves.{of-only}
use Rattle.faults.proofs.Earliest.{front-le, front-all, Stops, front-stops, over, over-most}

-- ---- Right from a stage on

-- the bytes s are right from the stage q on, wherever they stand
abbrev pub SoundFrom : Stage → List ℕ → Type 0
SoundFrom q s = check_from q 0 s ≡ None

pub moved : (q : Stage) (s : List ℕ) (i j : ℕ) → check_from q i s ≡ None → check_from q j s ≡ None
unfolding check_from
moved q [] i j h = go (end_of q) h
  where
    go : (e : Option Flaw) → end_by e i ≡ None → end_by e j ≡ None
    go None e = refl
    go (Some f) e = faulty-sound e
moved q (c ∷ s) i j h = go (step_of q c) (λ (p : Stage) (e : check_from p (i + 1) s ≡ None). moved p s (i + 1) (j + 1) e) h
  where
    go : (m : Result Stage Flaw) → ((p : Stage) → check_from p (i + 1) s ≡ None → check_from p (j + 1) s ≡ None)
        → go_by m i (check_from (stage_in m) (i + 1) s) ≡ None → go_by m j (check_from (stage_in m) (j + 1) s) ≡ None
    go (Ok p) on e = on p e
    go (Err f) on e = faulty-sound e

-- G follows from the bytes s behind the move m
abbrev pub After : Type 0 → List ℕ → Result Stage Flaw → Type 0
After G s (Ok p) = SoundFrom p s → G
After G s (Err f) = Unit {0}

pub after : {G : Type 0} (q : Stage) (c : ℕ) (s : List ℕ) → After G s (step_of q c) → SoundFrom q (c ∷ s) → G
unfolding check_from
after {G} q c s l h = go (step_of q c) l h
  where
    go : (m : Result Stage Flaw) → After G s m → go_by m 0 (check_from (stage_in m) (0 + 1) s) ≡ None → G
    go (Ok p) on e = on (moved p s (0 + 1) 0 e)
    go (Err f) on e = faulty-sound e

-- one byte forward
pub forward : (q p : Stage) (c : ℕ) (s : List ℕ) → step_of q c ≡ Ok p → SoundFrom p s → SoundFrom q (c ∷ s)
forward q p c s e h = turn-to q p 0 c s e ∙ moved p s 0 (0 + 1) h

-- the bytes end too early
pub open-end : {A : Type 0} (q : Stage) (w : Flaw) → end_of q ≡ Some w → SoundFrom q [] → A
open-end q w e h = faulty-sound (sym (turn_end q w 0 e) ∙ h)

-- ---- One byte that is awaited, and the end

-- x stands first, and what is behind it is right from q on
pub record First (x : ℕ) (q : Stage) (s : List ℕ) : Type 0 where
  pub rest : List ℕ
  pub is : s ≡ x ∷ rest
  pub on : SoundFrom q rest

pub first-is : {c x : ℕ} {q : Stage} {s : List ℕ} → c ≡ x → SoundFrom q s → First x q (c ∷ s)
first-is {c} {x} {q} {s} e g = record { rest = s; is = ap (λ (y : ℕ). y ∷ s) e; on = g }

pub first : (q p : Stage) (x : ℕ) (w : Flaw) → ((c : ℕ) → step_of q c ≡ only x c p w) → end_of q ≡ Some w
    → (s : List ℕ) → SoundFrom q s → First x p s
first q p x w step end [] h = open-end q w end h
first q p x w step end (c ∷ s) h = after q c s (rw (step c) (of-only (After (First x p (c ∷ s)) s) x c p w tt first-is)) h

pub end-sound : SoundFrom End []
unfolding end_of
end-sound = turn-whole End 0 refl

nothing-more : (s : List ℕ) → SoundFrom End s → s ≡ []
unfolding step_of
nothing-more [] h = refl
nothing-more (c ∷ s) h = after End c s tt h

pub last : {x : ℕ} {s : List ℕ} → First x End s → s ≡ x ∷ []
last {x} f = f.is ∙ ap (λ (l : List ℕ). x ∷ l) (nothing-more f.rest f.on)

-- ---- A part whose bytes are counted

-- the bytes of a part, and what stands behind as many of them
pub record Field (f : ℕ → Bool) (most : ℕ) (Out : ℕ → List ℕ → Type 0) (s : List ℕ) : Type 0 where
  pub bytes : List ℕ
  pub rest : List ℕ
  pub is : s ≡ bytes ++ rest
  pub each : all f bytes ≡ true
  pub few : length bytes ≤ most
  pub out : Out (length bytes) rest

module _ (part : ℕ → Stage) (f : ℕ → Bool) (most : ℕ) (more : (k c : ℕ) → f c ≡ true → k < most → step_of (part k) c ≡ Ok (part (k + 1))) where
  -- forward over all its bytes
  pub part_sound : (n s : List ℕ) → all f n ≡ true → length n ≤ most → SoundFrom (part (length n)) s → SoundFrom (part 0) (n ++ s)
  part_sound n s a h g =
      let e : length n ≡ 0 + length n = omega arith in
      run part f most more n s 0 0 a (omega arith)
      ∙ moved (part (0 + length n)) s 0 (0 + length n) (subst (λ (x : ℕ). SoundFrom (part x) s) e g)

  -- and back
  pub field_of : (Out : ℕ → List ℕ → Type 0) (w : Flaw) → ((c : ℕ) → f c ≡ true → step_of (part most) c ≡ Err w)
      → ((k : ℕ) (s : List ℕ) → Stops f s → SoundFrom (part k) s → Out k s) → (s : List ℕ) → SoundFrom (part 0) s → Field f most Out s
  field_of Out w many out s h =
      let n = length (front f s) in
      let e = length-take-le n s (front-le f s) in
      ⊎_elim
      (λ (l : n ≤ most). record {
        bytes = take n s;
        rest = drop n s;
        is = sym (take-append-drop n s);
        each = front-all f s n (omega arith);
        few = omega (arith, e, l);
        out = subst (λ (x : ℕ). Out x (drop n s)) (sym e)
            (out n (drop n s) (front-stops f s) (moved (part n) (drop n s) (0 + n) 0 (sym (over part f most more s 0 n (omega arith) l) ∙ h)));
      })
      (λ (l : most < n). faulty-sound (sym (over-most part f most more s 0 w many l) ∙ h))
      (le-or-lt n most)
