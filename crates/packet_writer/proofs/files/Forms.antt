-- The laws of the forms of HD and RE: for each the ways that it is refused, and its bytes; and how their data are laid into the
-- buffer. Assumes nothing.
use Rattle.std.specs.Prelude.{None, Option, Some, ℕ}
use mathlib.Core.Path.{◌≡◌, sym, ap}
use mathlib.Core.Bool.{Bool, true, false}
use mathlib.Core.List.{List, [], ◌∷◌, ◌++◌, append_assoc, append-nil}
use Prim.Native.Nat.{ℕ, ◌+◌, ◌≤◌, ◌<◌}
use native.Mathlib.Omega.{arith}
use lib.ListN.{length, length-append}
use borrow.Author.Tests.{le-leb}
use Rattle.fields.specs.Name.{is_name}
use Rattle.numbers.specs.Writing.{decimal, hex}
use Rattle.fields.specs.Buffer.{over, appended, appended_end, bytes}
use Rattle.numbers.proofs.RoundTrip.{decimal-length}
use Rattle.fields.proofs.Buffer.{Grown, grown-none, grown}
use Rattle.packet_writer.specs.Front.{front}
use Rattle.packets.specs.Content.{stamp_data, stamp_fits, header_data, header_form, resume_data, resume_form}

pub laid-grown : {a d e : List ℕ} {n : ℕ} → (n ≡ length a) × (e ≡ over 0 a d) → Grown a d e n
laid-grown q = record { bytes = q.1; count = q.0 }

-- bs and 00 behind the bytes that are laid down
pub closed : {a d e : List ℕ} {n : ℕ} → Grown a d e n → (bs e₁ e₂ : List ℕ) (r₁ r₂ : ℕ) → length a + length bs < length d
    → (r₁ ≡ appended_end n bs e) × (e₁ ≡ appended n bs e)
    → (r₂ ≡ appended_end r₁ (0 ∷ []) e₁) × (e₂ ≡ appended r₁ (0 ∷ []) e₁)
    → Grown (a ++ (bs ++ (0 ∷ []))) d e₂ r₂
closed {a} g bs e₁ e₂ r₁ r₂ h p q =
    let x = grown g bs e₁ r₁ (omega (arith, g.count)) p in
    let l = length-append a bs in
    rw append_assoc at (grown x (0 ∷ []) e₂ r₂ (omega (arith, x.count)) q)

pub front_short : (a : List ℕ) (n : ℕ) → n ≤ 99999999 → length (front a n) ≤ length a + 10
front_short a n h = let l = decimal-length 7 n (omega arith) (omega arith) in simp length-append (omega arith)

module _ (a : List ℕ) (n : ℕ) (d e₁ e₂ e₃ : List ℕ) (r₁ r₂ r₃ : ℕ) where
  pub fronted : length a ≤ 64 → n ≤ 99999999 → 83 ≤ length d
      → (r₁ ≡ appended_end 0 a d) × (e₁ ≡ appended 0 a d)
      → (r₂ ≡ appended_end r₁ (0 ∷ []) e₁) × (e₂ ≡ appended r₁ (0 ∷ []) e₁)
      → (r₃ ≡ appended_end r₂ (decimal n ++ (0 ∷ [])) e₂) × (e₃ ≡ appended r₂ (decimal n ++ (0 ∷ [])) e₂)
      → Grown (front a n) d e₃ r₃
  fronted h g k p₁ p₂ p₃ =
      let l = decimal-length 7 n (omega arith) (omega arith) in
      let m = length-append a (0 ∷ []) in
      let s : length (decimal n ++ (0 ∷ [])) ≤ 9 = simp length-append (omega arith) in
      let x = closed (grown-none d) a e₁ e₂ r₁ r₂ (omega arith) p₁ p₂ in
      grown x (decimal n ++ (0 ∷ [])) e₃ r₃ (omega (arith, x.count)) p₃

-- ---- HD

module _ (name : List ℕ) (size : ℕ) (stamp : Option ℕ) where
  pub header_is : is_name name ≡ true → size ≤ 99999999 → stamp_fits stamp ≡ true
      → header_form name size stamp ≡ bytes (1 ∷ length (header_data name size stamp) ∷ header_data name size stamp)
  unfolding header_form
  header_is h g f = rw (h, le-leb size 99999999 g, f)

  header-front : header_data name size stamp ≡ front name size ++ stamp_data stamp
  unfolding header_data
  header-front = ap (λ (l : List ℕ). l ++ stamp_data stamp) (append_assoc (name ++ (0 ∷ [])) (decimal size) (0 ∷ []))

  pub header-stamp : (v : ℕ) → stamp ≡ Some v → front name size ++ (hex 8 v ++ (0 ∷ [])) ≡ header_data name size stamp
  unfolding stamp_data
  header-stamp v e = rw (header-front, e)

  pub header-plain : stamp ≡ None → front name size ≡ header_data name size stamp
  unfolding stamp_data
  header-plain e = rw (header-front, e) (sym (append-nil (front name size)))

-- ---- RE

module _ (n : ℕ) (checked : Bool) where
  pub resume-is : n ≤ 99999999 → resume_form n checked ≡ bytes (0x15 ∷ length (resume_data n checked) ∷ resume_data n checked)
  unfolding resume_form
  resume-is h = rw (le-leb n 99999999 h)

  pub resume-checked : checked ≡ true → front (82 ∷ []) n ++ ((67 ∷ []) ++ (0 ∷ [])) ≡ resume_data n checked
  unfolding resume_data
  resume-checked e = simp (e, append_assoc)

  pub resume-plain : checked ≡ false → front (82 ∷ []) n ≡ resume_data n checked
  unfolding resume_data
  resume-plain e = rw e
