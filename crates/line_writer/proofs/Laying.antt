-- Each element, from what the calls that lay its parts gave. Assumes nothing.
use mathlib.Core.Path.{◌≡◌, refl, sym, ap}
use mathlib.Core.Bool.{Bool, true, false}
use mathlib.Core.List.{List, [], ◌∷◌, ◌++◌, append_assoc}
use Prim.Native.Nat.{ℕ, ◌+◌, ◌≤◌}
use native.Mathlib.Omega.{arith}
use lib.ListN.{length, length-append}
use Rattle.fields.specs.Buffer.{over, appended, appended_end}
use Rattle.fields.specs.Name.{is_name}
use Rattle.fields.specs.Pick.{pick}
use Rattle.fields.specs.declared.WriteError.TheVariants.{Small, Formless}
use Rattle.std.specs.Prelude.{Ok, Err, is_ok}
use lib.Dec.{ltb}
use borrow.Author.Tests.{ltb-false}
use Rattle.fields.proofs.Lists.{never, name-length}
use Rattle.fields.proofs.Buffer.{Laid, So, begin, lay, grown-is, count_fits, placed-fits, append-none}
use Rattle.numbers.specs.Writing.{decimal, hex}
use Rattle.numbers.proofs.RoundTrip.{decimal-length}
use Rattle.numbers.proofs.numerals.Writing.{hex-length}
use Rattle.lines.specs.Frame.{line_mark, ok_mark}
use Rattle.lines.specs.Element.{resume_mark, line_bytes, kept_bytes}
use Rattle.lines.proofs.Limits.{mark-short}
use Rattle.line_writer.specs.Starts.{line_size}

-- what fits is laid down
pub whole_count : (bs d : List ℕ) → length bs ≤ length d → appended_end 0 bs d ≡ length bs
whole_count bs d h = count_fits bs d h

pub whole_bytes : (bs d : List ℕ) → length bs ≤ length d → appended 0 bs d ≡ over 0 bs d
whole_bytes bs d h = placed-fits bs d h

-- nothing laid down
pub none_end : (at : ℕ) (d : List ℕ) → appended_end at [] d ≡ at
none_end at d = sym (append-none at d).0

pub none_bytes : (at : ℕ) (d : List ℕ) → appended at [] d ≡ d
none_bytes at d = sym (append-none at d).1

pub name_fits : (name : List ℕ) → is_name name ≡ true → length name ≤ 64
name_fits name h = (name-length name h).1

-- what `check_room` lets pass
pub has_room : (d : List ℕ) {u : Unit {0}} → pick (ltb (length d) 259) (Err Small) (Ok tt) ≡ Ok u → 259 ≤ length d
has_room d {u} e = go (ltb (length d) 259) refl e
  where
    go : (t : Bool) → ltb (length d) 259 ≡ t → pick t (Err Small) (Ok tt) ≡ Ok u → 259 ≤ length d
    go true p e = never (ap is_ok e)
    go false p e = ltb-false _ _ p

-- what `check_form` lets pass
pub has_form : (b : Bool) {u : Unit {0}} → pick b (Ok tt) (Err Formless) ≡ Ok u → b ≡ true
has_form true e = refl
has_form false e = never (ap is_ok e)

-- a number and the byte behind it
size-short : (n x : ℕ) → n ≤ 99999999 → length (decimal n ++ (x ∷ [])) ≤ 9
size-short n x h = simp length-append (omega (arith, decimal-length 7 n (omega arith) (omega arith)))

crc-short : (n x : ℕ) → n ≤ 65535 → length (decimal n ++ (x ∷ [])) ≤ 6
crc-short n x h = simp length-append (omega (arith, decimal-length 4 n (omega arith) (omega arith)))

join : (size crc stamp mark name : List ℕ)
    → ((((((((size ++ (35 ∷ [])) ++ (124 ∷ [])) ++ (crc ++ (35 ∷ []))) ++ (36 ∷ [])) ++ stamp) ++ mark) ++ (35 ∷ [])) ++ name) ++ (13 ∷ [])
    ≡ size ++ (35 ∷ 124 ∷ (crc ++ (35 ∷ 36 ∷ (stamp ++ (mark ++ (35 ∷ (name ++ (13 ∷ []))))))))
join size crc stamp mark name = simp append_assoc

module _ (d : List ℕ) (room : 259 ≤ length d) where
  pub put-size : (size end : ℕ) {a r : ℕ} {e f : List ℕ} → size ≤ 99999999 → Laid 0 line_mark d a e → Laid a (decimal size ++ (end ∷ [])) e r f
      → (r ≡ length (line_size (decimal size) end)) × (f ≡ over 0 (line_size (decimal size) end) d)
  put-size size end {a} {r} {e} {f} h l1 l2 =
      let s1 = lay (begin d) 5 line_mark e a (omega arith) (omega arith) l1 in
      let s2 = lay s1 9 (decimal size ++ (end ∷ [])) f r (size-short size end h) (omega arith) l2 in
      grown-is (line_size (decimal size) end) s2.far refl

  pub put-line : (size crc stamp : ℕ) (resumable : Bool) (name : List ℕ) {r₁ r₂ r₃ r₄ r₅ r₆ r₇ r₈ r₉ : ℕ} {e₁ e₂ e₃ e₄ e₅ e₆ e₇ e₈ e₉ : List ℕ}
      → size ≤ 99999999 → crc ≤ 65535 → length name ≤ 64
      → (r₁ ≡ length (line_size (decimal size) 35)) × (e₁ ≡ over 0 (line_size (decimal size) 35) d) → Laid r₁ (124 ∷ []) e₁ r₂ e₂
      → Laid r₂ (decimal crc ++ (35 ∷ [])) e₂ r₃ e₃ → Laid r₃ (36 ∷ []) e₃ r₄ e₄ → Laid r₄ (hex 8 stamp) e₄ r₅ e₅
      → Laid r₅ (resume_mark resumable) e₅ r₆ e₆ → Laid r₆ (35 ∷ []) e₆ r₇ e₇ → Laid r₇ name e₇ r₈ e₈ → Laid r₈ (13 ∷ []) e₈ r₉ e₉
      → (r₉ ≡ length (line_bytes (decimal size) (decimal crc) (hex 8 stamp) resumable name))
      × (e₉ ≡ over 0 (line_bytes (decimal size) (decimal crc) (hex 8 stamp) resumable name) d)
  unfolding line_bytes
  put-line size crc stamp resumable name {r₁} {r₂} {r₃} {r₄} {r₅} {r₆} {r₇} {r₈} {r₉} {e₁} {e₂} {e₃} {e₄} {e₅} {e₆} {e₇} {e₈} {e₉} h k n l1 l2 l3 l4 l5 l6 l7 l8 l9 =
      let s1 : So 14 (line_size (decimal size) 35) d e₁ r₁ =
      record { far = record { bytes = l1.1; count = l1.0 }; most = omega (arith, size-short size 35 h) } in
      let s2 = lay s1 1 (124 ∷ []) e₂ r₂ (omega arith) (omega arith) l2 in
      let s3 = lay s2 6 (decimal crc ++ (35 ∷ [])) e₃ r₃ (crc-short crc 35 k) (omega arith) l3 in
      let s4 = lay s3 1 (36 ∷ []) e₄ r₄ (omega arith) (omega arith) l4 in
      let s5 = lay s4 8 (hex 8 stamp) e₅ r₅ (omega (arith, hex-length 8 stamp)) (omega arith) l5 in
      let s6 = lay s5 1 (resume_mark resumable) e₆ r₆ (mark-short resumable) (omega arith) l6 in
      let s7 = lay s6 1 (35 ∷ []) e₇ r₇ (omega arith) (omega arith) l7 in
      let s8 = lay s7 64 name e₈ r₈ n (omega arith) l8 in
      let s9 = lay s8 1 (13 ∷ []) e₉ r₉ (omega arith) (omega arith) l9 in
      grown-is (line_bytes (decimal size) (decimal crc) (hex 8 stamp) resumable name) s9.far
      (ap (λ (l : List ℕ). line_mark ++ l) (join (decimal size) (decimal crc) (hex 8 stamp) (resume_mark resumable) name))

  pub put_text : (mark text end : List ℕ) {a b r : ℕ} {e f g : List ℕ} → length mark + (length text + length end) ≤ 259
      → Laid 0 mark d a e → Laid a text e b f → Laid b end f r g → (r ≡ length (mark ++ (text ++ end))) × (g ≡ over 0 (mark ++ (text ++ end)) d)
  put_text mark text end {a} {b} {r} {e} {f} {g} h l1 l2 l3 =
      let s1 = lay (begin d) (length mark) mark e a (omega arith) (omega arith) l1 in
      let s2 = lay s1 (length text) text f b (omega arith) (omega arith) l2 in
      let s3 = lay s2 (length end) end g r (omega arith) (omega arith) l3 in
      grown-is (mark ++ (text ++ end)) s3.far (append_assoc mark text end)

  pub put-kept : (name : List ℕ) (kept crc : ℕ) {a b r : ℕ} {e f g : List ℕ} → length name ≤ 64 → kept ≤ 99999999 → crc ≤ 65535
      → (a ≡ length (ok_mark ++ (name ++ (35 ∷ 36 ∷ [])))) × (e ≡ over 0 (ok_mark ++ (name ++ (35 ∷ 36 ∷ []))) d)
      → Laid a (decimal kept ++ (35 ∷ [])) e b f → Laid b (decimal crc ++ (13 ∷ [])) f r g
      → (r ≡ length (kept_bytes name (decimal kept) (decimal crc))) × (g ≡ over 0 (kept_bytes name (decimal kept) (decimal crc)) d)
  unfolding kept_bytes
  put-kept name kept crc {a} {b} {r} {e} {f} {g} n h q l1 l2 l3 =
      let s1 : So 70 (ok_mark ++ (name ++ (35 ∷ 36 ∷ []))) d e a = record { far = record { bytes = l1.1; count = l1.0 }; most = simp length-append (omega arith) } in
      let s2 = lay s1 9 (decimal kept ++ (35 ∷ [])) f b (size-short kept 35 h) (omega arith) l2 in
      let s3 = lay s2 6 (decimal crc ++ (13 ∷ [])) g r (crc-short crc 13 q) (omega arith) l3 in
      grown-is (kept_bytes name (decimal kept) (decimal crc)) s3.far (simp append_assoc)
