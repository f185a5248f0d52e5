-- The laws of writing a record, field by field. Assumes nothing.
use Rattle.std.specs.Prelude.{Option, ℕ}
use mathlib.Core.Path.{◌≡◌, sym, ◌∙◌}
use mathlib.Core.List.{List, append_assoc}
use Prim.Native.Nat.{ℕ, ◌+◌, ◌≤◌}
use native.Mathlib.Omega.{arith}
use lib.ListN.{length}
use Rattle.numbers.specs.Writing.{little}
use Rattle.fields.specs.Buffer.{over}
use Rattle.fields.proofs.Buffer.{Laid, begin, lay, grown-is}
use Rattle.numbers.proofs.numerals.Writing.{little-length}
use Rattle.records.specs.Saved.{saved, kind_of, stamp_bytes, record_data, record_bytes}
use Rattle.records.proofs.Laws.{stamp-length, data-length}

-- the fields one after the other, each writer lent what the one before it left
pub put_all : (name : List ℕ) (size kept : ℕ) (stamp : Option ℕ) (n k : ℕ) → n ≡ 11 + length (stamp_bytes stamp) + length name → k ≡ kind_of stamp
    → (d : List ℕ) → length name ≤ 64 → 81 ≤ length d
    → (e₁ e₂ e₃ e₄ e₅ e₆ e₇ : List ℕ) (r₁ r₂ r₃ r₄ r₅ r₆ r₇ : ℕ)
    → Laid 0 (little 2 n) d r₁ e₁ → Laid r₁ (little 2 k) e₁ r₂ e₂ → Laid r₂ (little 4 size) e₂ r₃ e₃ → Laid r₃ (little 4 kept) e₃ r₄ e₄
    → Laid r₄ (stamp_bytes stamp) e₄ r₅ e₅ → Laid r₅ (little 1 (length name)) e₅ r₆ e₆ → Laid r₆ name e₆ r₇ e₇
    → (r₇ ≡ length (record_bytes (saved name size kept stamp))) × (e₇ ≡ over 0 (record_bytes (saved name size kept stamp)) d)
unfolding record_bytes record_data
put_all name size kept stamp n k c q d h l e₁ e₂ e₃ e₄ e₅ e₆ e₇ r₁ r₂ r₃ r₄ r₅ r₆ r₇ s₁ s₂ s₃ s₄ s₅ s₆ s₇ =
    let g₁ = lay (begin d) 2 (little 2 n) e₁ r₁ (omega (arith, little-length 2 n)) (omega arith) s₁ in
    let g₂ = lay g₁ 2 (little 2 k) e₂ r₂ (omega (arith, little-length 2 k)) (omega arith) s₂ in
    let g₃ = lay g₂ 4 (little 4 size) e₃ r₃ (omega (arith, little-length 4 size)) (omega arith) s₃ in
    let g₄ = lay g₃ 4 (little 4 kept) e₄ r₄ (omega (arith, little-length 4 kept)) (omega arith) s₄ in
    let g₅ = lay g₄ 4 (stamp_bytes stamp) e₅ r₅ (stamp-length stamp) (omega arith) s₅ in
    let g₆ = lay g₅ 1 (little 1 (length name)) e₆ r₆ (omega (arith, little-length 1 (length name))) (omega arith) s₆ in
    let g₇ = lay g₆ 64 name e₇ r₇ h (omega arith) s₇ in
    let t : n ≡ length (record_data (saved name size kept stamp)) = c ∙ sym (data-length (saved name size kept stamp)) in
    grown-is (record_bytes (saved name size kept stamp)) g₇.far (rw (t, q) (simp append_assoc))
