-- What is known of a header, a stamp and a resume that were read.
-- Assumes nothing.
use Rattle.std.specs.Prelude.{None, Option, Some, ℕ}
use mathlib.Core.Path.{◌≡◌, refl, sym, ap, ◌∙◌}
use mathlib.Core.Bool.{Bool, true, false}
use mathlib.Core.List.{List, [], ◌∷◌}
use Prim.Native.Nat.{ℕ, suc, ◌<◌}
use native.Mathlib.Omega.{arith}
use lib.Dec.{ltb, eqb}
use lib.ListN.{length, take, drop, get_or}
use borrow.Author.Tests.{le-ltb, le-leb, ne_eqb, eqb-true, ltb-true}
use Rattle.fields.specs.Pick.{pick}
use Rattle.fields.specs.Lists.{up_to}
use Rattle.fields.specs.Name.{is_name}
use Rattle.numbers.specs.Reading.{read_size, read_hex}
use Rattle.numbers.proofs.Reading.{hex-below}
use Rattle.packets.specs.declared.Header.{Header}
use Rattle.packets.specs.declared.Resume.{Resume}
use Rattle.packets.specs.Packet.{stamp_of, header_size, header_read, resume_mode, resume_digits, resume_read, stamp_by, sized_by, resume_by}
use Rattle.packets.specs.Content.{stamp_fits}
use Rattle.packets.specs.Canonical.{behind}

-- ---- HD

-- the data d of a header that is read as h: the name 00 the size 00 the option
pub record HeaderParts (d : List ℕ) (h : Header) : Type 0 where
  pub named : length (up_to 0 d) < length d
  pub name : is_name (up_to 0 d) ≡ true
  pub place : h.name ≡ record { start = 2; len = length (up_to 0 d) }
  pub sized : length (up_to 0 (behind d)) < length (behind d)
  pub size : read_size (up_to 0 (behind d)) ≡ Some h.size
  pub stamp : h.stamp ≡ stamp_of (behind (behind d))

bad-not : {A : Type 0} {h : Header} → None ≡ Some h → A
bad-not e = let z : ◌≡◌ {A = ℕ} 0 1 = cc in absurd (omega arith)

pub header-parts : (d : List ℕ) (h : Header) → header_read d ≡ Some h → HeaderParts d h
unfolding header_read header_size
header-parts d h e = inside (ltb (length (up_to 0 d)) (length d)) refl (is_name (up_to 0 d)) refl (ltb (length (up_to 0 (behind d))) (length (behind d))) refl (read_size (up_to 0 (behind d))) refl e
  where
    inside : (t : Bool) → ltb (length (up_to 0 d)) (length d) ≡ t
        → (u : Bool) → is_name (up_to 0 d) ≡ u
        → (v : Bool) → ltb (length (up_to 0 (behind d))) (length (behind d)) ≡ v
        → (n : Option ℕ) → read_size (up_to 0 (behind d)) ≡ n
        → pick t (pick u (pick v (sized_by (length (up_to 0 d)) n (behind (behind d))) None) None) None ≡ Some h → HeaderParts d h
    inside true p true q true r (Some v) s e =
        let g : record { name = record { start = 2; len = length (up_to 0 d) }; size = v; stamp = stamp_of (behind (behind d)) } ≡ h = cc in
        rw (← g) (record { named = ltb-true _ _ p; name = q; place = refl; sized = ltb-true _ _ r; size = s; stamp = refl })
    inside true p true q true r None s e = bad-not e
    inside true p true q false r n s e = bad-not e
    inside true p false q v r n s e = bad-not e
    inside false p u q v r n s e = bad-not e

-- an option o that is read as the stamp v: eight hex digits and 00
pub record StampParts (o : List ℕ) (v : ℕ) : Type 0 where
  pub nine : length o ≡ 9
  pub last : get_or o 8 0 ≡ 0
  pub digits : read_hex (take 8 o) ≡ Some v

pub stamp-parts : (o : List ℕ) (v : ℕ) → stamp_of o ≡ Some v → StampParts o v
unfolding stamp_of
stamp-parts o v e = go (eqb (length o) 9) refl (eqb (get_or o 8 0) 0) refl (read_hex (take 8 o)) refl e
  where
    absent-not : None ≡ Some v → StampParts o v
    absent-not e = let z : ◌≡◌ {A = ℕ} 0 1 = cc in absurd (omega arith)

    go : (t : Bool) → eqb (length o) 9 ≡ t → (u : Bool) → eqb (get_or o 8 0) 0 ≡ u → (n : Option ℕ) → read_hex (take 8 o) ≡ n
        → pick t (pick u (stamp_by n) None) None ≡ Some v → StampParts o v
    go true p true q (Some w) r e = let g : w ≡ v = cc in record { nine = eqb-true _ _ p; last = eqb-true _ _ q; digits = r ∙ ap Some g }
    go true p true q None r e = absent-not e
    go true p false q n r e = absent-not e
    go false p u q n r e = absent-not e

-- a stamp that was read fits 32 bits
pub stamp_in_range : (o : List ℕ) → stamp_fits (stamp_of o) ≡ true
stamp_in_range o = go (stamp_of o) refl
  where
    go : (s : Option ℕ) → stamp_of o ≡ s → stamp_fits s ≡ true
    go (Some v) e = le-leb v 0xFFFFFFFF (omega (arith, hex-below v (take 8 o) (stamp-parts o v e).digits))
    go None e = refl

-- ---- RE

-- the data d of a NAK that is read as the resume r: `R` 00 the digits 00, and `C` 00 where it asks for checksums
pub record ResumeParts (d : List ℕ) (r : Resume) : Type 0 where
  pub asks : d ≡ 82 ∷ 0 ∷ drop 2 d
  pub ended : length (up_to 0 (drop 2 d)) < length (drop 2 d)
  pub position : read_size (up_to 0 (drop 2 d)) ≡ Some r.position
  pub mode : behind (drop 2 d) ≡ pick r.checked (67 ∷ 0 ∷ []) []

nothing-not : {A : Type 0} {r : Resume} → None ≡ Some r → A
nothing-not e = let z : ◌≡◌ {A = ℕ} 0 1 = cc in absurd (omega arith)

mode-parts : (v : ℕ) (t : List ℕ) (r : Resume) → resume_mode v t ≡ Some r → (r.position ≡ v) × (t ≡ pick r.checked (67 ∷ 0 ∷ []) [])
unfolding resume_mode
mode-parts v [] r e = let g : record { position = v; checked = false } ≡ r = cc in rw (← g) (refl, refl)
mode-parts v (a ∷ []) r e = nothing-not e
mode-parts v (a ∷ b ∷ []) r e = go (eqb a 67) refl (eqb b 0) refl e
  where
    go : (t : Bool) → eqb a 67 ≡ t → (u : Bool) → eqb b 0 ≡ u → pick t (pick u (Some (record { position = v; checked = true })) None) None ≡ Some r
        → (r.position ≡ v) × (a ∷ b ∷ [] ≡ pick r.checked (67 ∷ 0 ∷ []) [])
    go true p true q e =
        let g : record { position = v; checked = true } ≡ r = cc in
        rw (← g, eqb-true a 67 p, eqb-true b 0 q) (refl, refl)
    go true p false q e = nothing-not e
    go false p u q e = nothing-not e
mode-parts v (a ∷ b ∷ c ∷ t) r e = nothing-not (rw (ne_eqb (suc (suc (suc (length t)))) 0 (omega arith), ne_eqb (suc (suc (suc (length t)))) 2 (omega arith)) at e)

digits-parts : (t : List ℕ) (r : Resume) → resume_digits t ≡ Some r
    → (length (up_to 0 t) < length t) × (read_size (up_to 0 t) ≡ Some r.position) × (behind t ≡ pick r.checked (67 ∷ 0 ∷ []) [])
unfolding resume_digits
digits-parts t r e = go (ltb (length (up_to 0 t)) (length t)) refl (read_size (up_to 0 t)) refl e
  where
    go : (x : Bool) → ltb (length (up_to 0 t)) (length t) ≡ x → (n : Option ℕ) → read_size (up_to 0 t) ≡ n → pick x (resume_by n (behind t)) None ≡ Some r
        → (length (up_to 0 t) < length t) × (read_size (up_to 0 t) ≡ Some r.position) × (behind t ≡ pick r.checked (67 ∷ 0 ∷ []) [])
    go true p (Some v) q e = let m = mode-parts v (behind t) r e in (ltb-true _ _ p, q ∙ ap Some (sym m.0), m.1)
    go true p None q e = nothing-not e
    go false p n q e = nothing-not e

pub resume-parts : (d : List ℕ) (r : Resume) → resume_read d ≡ Some r → ResumeParts d r
unfolding resume_read
resume-parts [] r e = nothing-not e
resume-parts (a ∷ []) r e = nothing-not e
resume-parts (a ∷ b ∷ t) r e = go (eqb a 82) refl (eqb b 0) refl (rw (le-ltb (suc (suc (length t))) 2 (omega arith)) at e)
  where
    go : (x : Bool) → eqb a 82 ≡ x → (y : Bool) → eqb b 0 ≡ y → pick x (pick y (resume_digits t) None) None ≡ Some r → ResumeParts (a ∷ b ∷ t) r
    go true p true q e =
        let g = digits-parts t r e in
        rw (eqb-true a 82 p, eqb-true b 0 q) (record { asks = refl; ended = g.0; position = g.1; mode = g.2 })
    go true p false q e = nothing-not e
    go false p y q e = nothing-not e
