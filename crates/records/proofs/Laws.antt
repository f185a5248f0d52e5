-- The laws of a record, test by test, as the code's returns cite them. Assumes nothing.
use Rattle.std.specs.Prelude.{None, Option, Some, ℕ}
use mathlib.Core.Path.{◌≡◌, refl, sym, ap, ◌∙◌}
use mathlib.Core.Bool.{true}
use mathlib.Core.List.{List, []}
use Prim.Native.Nat.{ℕ, ◌+◌, ◌≤◌}
use native.Mathlib.Omega.{arith}
use lib.ListN.{length, length-append, length-take}
use borrow.Author.Tests.{le-leb, eq-eqb, ne_eqb}
use Rattle.std.specs.Option.{unwrap_or}
use Rattle.fields.specs.Lists.{part}
use Rattle.fields.specs.Name.{is_name}
use Rattle.numbers.specs.Reading.{read_little}
use Rattle.numbers.specs.Writing.{little}
use Rattle.fields.specs.Buffer.{bytes}
use Rattle.numbers.proofs.Reading.{read_little-is, little-form}
use Rattle.numbers.proofs.numerals.Writing.{little-length}
use Rattle.records.specs.Record.{number_at, named_at, kind_read, record_of}
use Rattle.records.specs.Saved.{Saved, saved, kind_of, stamp_bytes, record_data, record_bytes, stamp_fits, is_saved, record_form}

-- a number of at most four bytes
module _ (i w : ℕ) (b : List ℕ) where
  pub number_is : (v : ℕ) → read_little (part i w b) ≡ Some v → v ≡ number_at i w b
  number_is v e = sym (little-form v (part i w b) e).1

  pub number-some : w ≤ 4 → read_little (part i w b) ≡ None → ⊥
  number-some h e =
      let p = read_little-is (part i w b) (rw length-take (omega arith)) in
      let z : ◌≡◌ {A = ℕ} 0 1 = cc in omega arith

  pub number-read : (r : Option ℕ) (v : ℕ) → w ≤ 4 → r ≡ read_little (part i w b) → v ≡ unwrap_or r 0 → v ≡ number_at i w b
  number-read r v h e q = q ∙ ap (λ (o : Option ℕ). unwrap_or o 0) (e ∙ sym (read_little-is (part i w b) (rw length-take (omega arith))))

-- name length and name from index i on, where every test holds
module _
    (i : ℕ) (stamp : Option ℕ) (b : List ℕ) (n : ℕ) (counted : n ≡ number_at i 1 b) (ends : i + 1 + n ≡ length b)
    (named : is_name (part (i + 1) n b) ≡ true) (size : ℕ) (sized : size ≡ number_at 4 4 b)
  where
    pub named-good : size ≤ 99999999 → (kept : ℕ) → kept ≡ number_at 8 4 b
        → Some (record { size = size; kept = kept; stamp = stamp; name = record { start = i + 1; len = n } }) ≡ named_at i stamp b
    unfolding named_at
    named-good h kept held = rw (sym counted, eq-eqb (i + 1 + n) (length b) ends, named, sym sized, le-leb size 99999999 h, held)

-- the kinds
module _ (kind : ℕ) (b : List ℕ) where
  pub kind-one : kind ≡ 1 → kind_read kind b ≡ named_at 12 None b
  unfolding kind_read
  kind-one h = rw (eq-eqb kind 1 h)

  pub kind-two : kind ≡ 2 → kind_read kind b ≡ named_at 16 (Some (number_at 12 4 b)) b
  unfolding kind_read
  kind-two h = rw (ne_eqb kind 1 (omega arith), eq-eqb kind 2 h)

-- the length
module _ (b : List ℕ) where
  pub length-right : 2 + number_at 0 2 b ≡ length b → record_of b ≡ kind_read (number_at 2 2 b) b
  unfolding record_of
  length-right h = rw (eq-eqb (2 + number_at 0 2 b) (length b) h)

-- the kind of a stamp
pub kind-present : (v : ℕ) → kind_of (Some v) ≡ 2
unfolding kind_of
kind-present v = refl

pub kind-absent : kind_of None ≡ 1
unfolding kind_of
kind-absent = refl

-- the bytes of a stamp
pub stamp-bytes : (v : ℕ) → stamp_bytes (Some v) ≡ little 4 v
unfolding stamp_bytes
stamp-bytes v = refl

pub stamp-none : stamp_bytes None ≡ []
unfolding stamp_bytes
stamp-none = refl

pub stamp-present : (stamp : Option ℕ) (v : ℕ) → stamp ≡ Some v → length (stamp_bytes stamp) ≡ 4
stamp-present stamp v e = ap (λ (s : Option ℕ). length (stamp_bytes s)) e ∙ ap length (stamp-bytes v) ∙ little-length 4 v

pub stamp-absent : (stamp : Option ℕ) → stamp ≡ None → length (stamp_bytes stamp) ≡ 0
stamp-absent stamp e = ap (λ (s : Option ℕ). length (stamp_bytes s)) e ∙ ap length stamp-none

pub stamp-length : (stamp : Option ℕ) → length (stamp_bytes stamp) ≤ 4
stamp-length (Some v) = omega (arith, stamp-present (Some v) v refl)
stamp-length None = omega (arith, stamp-absent None refl)

pub stamp_in_range : (stamp : Option ℕ) (v : ℕ) → stamp ≡ Some v → v ≤ 0xFFFFFFFF → stamp_fits stamp ≡ true
stamp_in_range stamp v e h = rw (e, le-leb v 0xFFFFFFFF h)

-- what follows the length
pub data-length : (s : Saved) → length (record_data s) ≡ 11 + length (stamp_bytes s.stamp) + length s.name
unfolding record_data
data-length s = simp (length-append, little-length) (omega arith)

-- a record that has a form
module _ (name : List ℕ) (size kept : ℕ) (stamp : Option ℕ) where
  pub form-good : is_name name ≡ true → size ≤ 99999999 → kept ≤ 0xFFFFFFFF → stamp_fits stamp ≡ true
      → record_form (saved name size kept stamp) ≡ bytes (record_bytes (saved name size kept stamp))
  unfolding record_form is_saved
  form-good h g k f = rw (h, le-leb size 99999999 g, le-leb kept 0xFFFFFFFF k, f)
