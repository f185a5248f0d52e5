-- A name that stands at the front of an array, kept there. Assumes nothing.
use Rattle.calls.specs.declared.Entry.{Entry}
use Rattle.std.specs.Prelude.{None, Option, Some}
use mathlib.Core.Path.{◌≡◌, refl, sym, ap}
use mathlib.Core.List.{List, [], ◌∷◌, ◌++◌}
use Prim.Native.Nat.{ℕ, zero, suc, ◌+◌}
use native.Mathlib.Nat.{zero-add}
use lib.ListN.{length, take, drop}
use lib.Dec.{leb}
use Rattle.fields.specs.Buffer.{over, appended}
use Rattle.fields.proofs.Lists.{either}
use Rattle.fields.proofs.Buffer.{append-none}
use Rattle.calls.specs.Saving.{saved_by, keeping_of, name_of}

front : (n : ℕ) (s : List ℕ) → take n s ++ drop (length (take n s)) s ≡ s
front zero s = refl
front (suc n) [] = refl
front (suc n) (x ∷ s) = ap (λ (l : List ℕ). x ∷ l) (front n s)

pub take_count : (n : ℕ) (s : List ℕ) → take (length (take n s)) s ≡ take n s
take_count zero s = refl
take_count (suc n) [] = refl
take_count (suc n) (x ∷ s) = ap (λ (l : List ℕ). x ∷ l) (take_count n s)

pub keep-front : (n : ℕ) (s : List ℕ) → appended 0 (take n s) s ≡ s
unfolding appended over
keep-front n s = either (λ (l : List ℕ). l ≡ s) (leb (0 + length (take n s)) (length s)) (over 0 (take n s) s) s (λ h. rw (zero-add (length (take n s))) (front n s)) (λ h. refl)

pub keep-none : (s : List ℕ) → appended 0 [] s ≡ s
keep-none s = sym (append-none 0 s).1

-- the record's own name, laid over the array where it stands
pub keep-own : (k : Option Entry) (name : List ℕ) → appended 0 (name_of (saved_by k name)) name ≡ name
keep-own None name = keep-none name
keep-own (Some e) name = keep-front e.named name

pub held-saved : (k : Option Entry) (name : List ℕ) → saved_by (keeping_of (saved_by k name)) name ≡ saved_by k name
held-saved None name = refl
held-saved (Some e) name = rw (take_count e.named name)

pub held-held : (k : Option Entry) (name : List ℕ) → keeping_of (saved_by (keeping_of (saved_by k name)) name) ≡ keeping_of (saved_by k name)
held-held k name = ap keeping_of (held-saved k name)
