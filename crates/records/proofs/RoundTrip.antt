-- What is written reads back as the same record, and what can be read is in the form that we write. Assumes nothing.
use Rattle.std.specs.Prelude.{None, Option, Some, ℕ}
use mathlib.Core.Path.{◌≡◌, refl, sym, ap, ◌∙◌}
use mathlib.Core.Bool.{Bool, true, false}
use mathlib.Core.List.{List, [], ◌∷◌, ◌++◌, append_assoc}
use Prim.Native.Nat.{ℕ, ◌+◌, ◌^◌, ◌≤◌, ◌<◌}
use native.Mathlib.Omega.{arith}
use lib.Dec.{leb, eqb}
use lib.ListN.{length, take, drop, length-append, length-take, length-drop, take-append-drop}
use lib.Seq.{take_all, take-length, take_at, drop_at, drop-drop}
use borrow.Author.Tests.{leb-true, eqb-true, lt-ltb}
use Rattle.fields.specs.Lists.{part, all}
use Rattle.fields.specs.Name.{is_name_byte, is_name}
use Rattle.numbers.specs.Canonical.{is_byte}
use Rattle.numbers.specs.Writing.{little}
use Rattle.fields.specs.Buffer.{bytes}
use Rattle.fields.proofs.Lists.{both, all_append, name-length}
use Rattle.fields.proofs.Buffer.{form-is}
use Rattle.numbers.proofs.numerals.Writing.{little-length}
use Rattle.numbers.proofs.RoundTrip.{little-value, little-bytes-back, little-below, little-bytes}
use Rattle.records.specs.declared.Record.{Record}
use Rattle.records.specs.Record.{number_at, named_at, kind_read, record_of}
use Rattle.records.specs.Saved.{Saved, saved_of, saved, kind_of, stamp_bytes, record_data, record_bytes, stamp_fits, is_saved, record_form}
use Rattle.records.proofs.Laws.{named-good, kind-one, kind-two, length-right, stamp-present, stamp-absent, stamp-length, stamp-bytes, stamp-none, stamp_in_range, kind-present, kind-absent, data-length, form-good}

-- ---- What is written

-- what has a form is within the limits, and its form is those bytes
pub record Formed (s : Saved) (bs : List ℕ) : Type 0 where
  pub named : is_name s.name ≡ true
  pub sized : s.size ≤ 99999999
  pub held : s.kept ≤ 0xFFFFFFFF
  pub fits : stamp_fits s.stamp ≡ true
  pub is : record_bytes s ≡ bs

pub formed : (s : Saved) (bs : List ℕ) → record_form s ≡ bytes bs → Formed s bs
unfolding record_form is_saved
formed s bs e =
    let f = form-is (is_saved s) (record_bytes s) bs e in
    let p = both (is_name s.name) _ f.0 in
    let q = both (leb s.size 99999999) _ p.1 in
    let r = both (leb s.kept 0xFFFFFFFF) _ q.1 in
    record { named = p.0; sized = leb-true s.size 99999999 q.0; held = leb-true s.kept 0xFFFFFFFF r.0; fits = r.1; is = f.1 }

-- the fields one after the other
bytes_cut : (name : List ℕ) (size kept : ℕ) (stamp : Option ℕ) → record_bytes (saved name size kept stamp)
    ≡ little 2 (length (record_data (saved name size kept stamp)))
    ++ (little 2 (kind_of stamp) ++ (little 4 size ++ (little 4 kept ++ (stamp_bytes stamp ++ (little 1 (length name) ++ name)))))
unfolding record_bytes record_data
bytes_cut name size kept stamp = simp append_assoc

pub bytes-length : (s : Saved) → length (record_bytes s) ≡ 13 + length (stamp_bytes s.stamp) + length s.name
unfolding record_bytes
bytes-length s = let l = data-length s in simp (length-append, little-length) (omega arith)

-- at least 14 and at most 81 bytes
pub record-length : (s : Saved) (bs : List ℕ) → record_form s ≡ bytes bs → (14 ≤ length bs) × (length bs ≤ 81)
record-length s bs e =
    let f = formed s bs e in
    let l = bytes-length s in
    let n = name-length s.name f.named in
    let k = stamp-length s.stamp in
    rw (← f.is) (omega arith, omega arith)

-- a number that stands behind p
number-there : (p q b : List ℕ) (i w v : ℕ) → b ≡ p ++ (little w v ++ q) → length p ≡ i → v < 256 ^ w → number_at i w b ≡ v
number-there p q b i w v e l h =
    rw (e, drop_at p (little w v ++ q) i l, take_at (little w v) q w (little-length w v)) (little-value w v h)

-- each field of what is written stands in its place
module _ (name : List ℕ) (size kept : ℕ) (stamp : Option ℕ) (bs : List ℕ) (f : Formed (saved name size kept stamp) bs) where
  count : List ℕ
  count = little 2 (length (record_data (saved name size kept stamp)))

  kind : List ℕ
  kind = little 2 (kind_of stamp)

  behind-stamp : List ℕ
  behind-stamp = little 1 (length name) ++ name

  short : (length (stamp_bytes stamp) ≤ 4) × (length name ≤ 64)
  short = (stamp-length stamp, (name-length name f.named).1)

  cut-kind : bs ≡ count ++ (kind ++ (little 4 size ++ (little 4 kept ++ (stamp_bytes stamp ++ behind-stamp))))
  unfolding count kind behind-stamp
  cut-kind = sym f.is ∙ bytes_cut name size kept stamp

  cut-size : bs ≡ (count ++ kind) ++ (little 4 size ++ (little 4 kept ++ (stamp_bytes stamp ++ behind-stamp)))
  cut-size = cut-kind ∙ simp append_assoc

  cut-kept : bs ≡ (count ++ kind ++ little 4 size) ++ (little 4 kept ++ (stamp_bytes stamp ++ behind-stamp))
  cut-kept = cut-kind ∙ simp append_assoc

  cut-stamp : bs ≡ (count ++ kind ++ little 4 size ++ little 4 kept) ++ (stamp_bytes stamp ++ behind-stamp)
  cut-stamp = cut-kind ∙ simp append_assoc

  cut-count : bs ≡ (count ++ kind ++ little 4 size ++ little 4 kept ++ stamp_bytes stamp) ++ (little 1 (length name) ++ name)
  unfolding behind-stamp
  cut-count = cut-kind ∙ simp append_assoc

  cut-name : bs ≡ (count ++ kind ++ little 4 size ++ little 4 kept ++ stamp_bytes stamp ++ little 1 (length name)) ++ name
  cut-name = cut-count ∙ simp append_assoc

  two : (length count ≡ 2) × (length kind ≡ 2)
  unfolding count kind
  two = (little-length 2 _, little-length 2 _)

  length_back : 2 + number_at 0 2 bs ≡ length bs
  unfolding count
  length_back =
      let d = data-length (saved name size kept stamp) in
      let l = ap length f.is in
      let m = bytes-length (saved name size kept stamp) in
      let g = short in
      let e = number-there [] _ bs 0 2 (length (record_data (saved name size kept stamp))) cut-kind refl (omega arith) in
      omega arith

  kind-back : number_at 2 2 bs ≡ kind_of stamp
  unfolding kind kind_of
  kind-back = number-there count _ bs 2 2 (kind_of stamp) cut-kind two.0 (small stamp)
    where
      small : (stamp : Option ℕ) → kind_of stamp < 256 ^ 2
      small (Some v) = omega arith
      small None = omega arith

  size_back : number_at 4 4 bs ≡ size
  size_back =
      let t = two in
      let b = f.sized in
      number-there (count ++ kind) _ bs 4 4 size cut-size (simp length-append (omega arith)) (omega arith)

  kept_back : number_at 8 4 bs ≡ kept
  kept_back =
      let t = two in
      let b = f.held in
      number-there (count ++ kind ++ little 4 size) _ bs 8 4 kept cut-kept (simp (length-append, little-length) (omega arith)) (omega arith)

  stamp-back : (v : ℕ) → stamp ≡ Some v → number_at 12 4 bs ≡ v
  stamp-back v e =
      let t = two in
      let b : stamp_fits (Some v) ≡ true = rw e at f.fits in
      let m = leb-true v 0xFFFFFFFF b in
      let q = ap stamp_bytes e ∙ stamp-bytes v in
      number-there (count ++ kind ++ little 4 size ++ little 4 kept) behind-stamp bs 12 4 v
      (cut-stamp ∙ ap (λ (l : List ℕ). (count ++ kind ++ little 4 size ++ little 4 kept) ++ (l ++ behind-stamp)) q)
      (simp (length-append, little-length) (omega arith)) (omega arith)

  module _ (i : ℕ) (place : i ≡ 12 + length (stamp_bytes stamp)) where
    count-back : number_at i 1 bs ≡ length name
    count-back =
        let t = two in
        let g = short in
        number-there (count ++ kind ++ little 4 size ++ little 4 kept ++ stamp_bytes stamp) name bs i 1 (length name) cut-count
        (simp (length-append, little-length) (omega arith)) (omega arith)

    name_back : part (i + 1) (length name) bs ≡ name
    name_back =
        let t = two in
        let l : length (count ++ kind ++ little 4 size ++ little 4 kept ++ stamp_bytes stamp ++ little 1 (length name)) ≡ i + 1 =
        simp (length-append, little-length) (omega arith) in
        rw (cut-name, drop_at (count ++ kind ++ little 4 size ++ little 4 kept ++ stamp_bytes stamp ++ little 1 (length name)) name (i + 1) l) (take-length name)

    named_back : (t : Option ℕ) → named_at i t bs ≡ Some (record { size = size; kept = kept; stamp = t; name = record { start = i + 1; len = length name } })
    named_back t =
        let l = ap length f.is in
        let m = bytes-length (saved name size kept stamp) in
        sym
        (named-good i t bs (length name) (sym count-back) (omega arith) (ap is_name name_back ∙ f.named) size (sym size_back) f.sized kept
        (sym kept_back))

-- the record whose name stands behind the other fields
record_in : Saved → Record
record_in s =
    record { size = s.size; kept = s.kept; stamp = s.stamp; name = record { start = 12 + length (stamp_bytes s.stamp) + 1; len = length s.name } }

reads : (name : List ℕ) (size kept : ℕ) (stamp : Option ℕ) (bs : List ℕ) → Formed (saved name size kept stamp) bs
    → record_of bs ≡ Some (record_in (saved name size kept stamp))
unfolding record_in kind_of
reads name size kept (Some v) bs f =
    let p = stamp-present (Some v) v refl in
    let k = kind-back name size kept (Some v) bs f in
    let n = named_back name size kept (Some v) bs f 16 (omega arith) (Some v) in
    length-right bs (length_back name size kept (Some v) bs f) ∙ kind-two _ bs k
    ∙ ap (λ (x : ℕ). named_at 16 (Some x) bs) (stamp-back name size kept (Some v) bs f v refl) ∙ rw p n
reads name size kept None bs f =
    let p = stamp-absent None refl in
    let k = kind-back name size kept None bs f in
    let n = named_back name size kept None bs f 12 (omega arith) None in
    length-right bs (length_back name size kept None bs f) ∙ kind-one _ bs k ∙ rw p n

-- what is written reads back as the same record
pub reads-back : (s : Saved) (bs : List ℕ) → record_form s ≡ bytes bs → (r : Record) × (record_of bs ≡ Some r) × (saved_of bs r ≡ s)
unfolding record_in
reads-back s bs e =
    let f = formed s bs e in
    let n = name_back s.name s.size s.kept s.stamp bs f (12 + length (stamp_bytes s.stamp)) refl in
    (record_in s, reads s.name s.size s.kept s.stamp bs f, ap (λ (l : List ℕ). saved l s.size s.kept s.stamp) n)

-- what is written are bytes
name-bytes : (s : List ℕ) → all is_name_byte s ≡ true → all is_byte s ≡ true
unfolding all is_name_byte is_byte
name-bytes [] h = refl
name-bytes (c ∷ s) h =
    let p = both (is_name_byte c) (all is_name_byte s) h in
    let q = both (leb 33 c) _ p.0 in
    let r = leb-true c 126 (both (leb c 126) _ q.1).0 in
    rw (lt-ltb c 256 (omega arith)) (name-bytes s p.1)

stamp-all : (stamp : Option ℕ) → all is_byte (stamp_bytes stamp) ≡ true
unfolding stamp_bytes all
stamp-all (Some v) = little-bytes 4 v
stamp-all None = refl

pub record-bytes : (s : Saved) (bs : List ℕ) → record_form s ≡ bytes bs → all is_byte bs ≡ true
unfolding record_bytes record_data is_name
record-bytes s bs e =
    let f = formed s bs e in
    let n = name-bytes s.name (both (leb (length s.name) 64) _ (both (leb 1 (length s.name)) _ f.named).1).1 in
    rw (← f.is)
    (all_append is_byte _ _ (little-bytes 2 _)
    (all_append is_byte _ _
    (all_append is_byte _ _
    (all_append is_byte _ _
    (all_append is_byte _ _ (all_append is_byte _ _ (little-bytes 2 _) (little-bytes 4 _)) (little-bytes 4 _)) (stamp-all s.stamp))
    (little-bytes 1 _)) n))

-- ---- What can be read

-- the tests that a record passed whose name length stands at index i
pub record Passed (i : ℕ) (stamp : Option ℕ) (b : List ℕ) (r : Record) : Type 0 where
  pub ends : i + 1 + number_at i 1 b ≡ length b
  pub named : is_name (part (i + 1) (number_at i 1 b) b) ≡ true
  pub sized : number_at 4 4 b ≤ 99999999
  pub is : record { size = number_at 4 4 b; kept = number_at 8 4 b; stamp = stamp; name = record { start = i + 1; len = number_at i 1 b } } ≡ r

never : (r : Record) → None ≡ Some r → ⊥
never r e = let z : ◌≡◌ {A = ℕ} 0 1 = cc in omega arith

passed : (i : ℕ) (stamp : Option ℕ) (b : List ℕ) (r : Record) → named_at i stamp b ≡ Some r → Passed i stamp b r
unfolding named_at
passed i stamp b r e = go (eqb (i + 1 + number_at i 1 b) (length b)) refl (is_name (part (i + 1) (number_at i 1 b) b)) refl (leb (number_at 4 4 b) 99999999) refl
  where
    go : (t : Bool) → eqb (i + 1 + number_at i 1 b) (length b) ≡ t → (u : Bool) → is_name (part (i + 1) (number_at i 1 b) b) ≡ u
        → (v : Bool) → leb (number_at 4 4 b) 99999999 ≡ v → Passed i stamp b r
    go true p true q true w =
        let f = rw (p, q, w) at e in
        record { ends = eqb-true _ _ p; named = q; sized = leb-true _ 99999999 w; is = cc }
    go true p true q false w = absurd (never r (rw (p, q, w) at e))
    go true p false q v w = absurd (never r (rw (p, q) at e))
    go false p u q v w = absurd (never r (rw p at e))

-- either kind
pub data Kinds (b : List ℕ) (r : Record) : Type 0 where
  unstamped : number_at 2 2 b ≡ 1 → Passed 12 None b r → Kinds b r
  stamped : number_at 2 2 b ≡ 2 → Passed 16 (Some (number_at 12 4 b)) b r → Kinds b r

kinds : (b : List ℕ) (r : Record) → record_of b ≡ Some r → (2 + number_at 0 2 b ≡ length b) × Kinds b r
unfolding record_of kind_read
kinds b r e = go (eqb (2 + number_at 0 2 b) (length b)) refl (eqb (number_at 2 2 b) 1) refl (eqb (number_at 2 2 b) 2) refl
  where
    go : (t : Bool) → eqb (2 + number_at 0 2 b) (length b) ≡ t → (u : Bool) → eqb (number_at 2 2 b) 1 ≡ u → (v : Bool) → eqb (number_at 2 2 b) 2 ≡ v
        → (2 + number_at 0 2 b ≡ length b) × Kinds b r
    go true p true q v w = (eqb-true _ _ p, unstamped (eqb-true _ 1 q) (passed 12 None b r (rw (p, q) at e)))
    go true p false q true w = (eqb-true _ _ p, stamped (eqb-true _ 2 w) (passed 16 (Some (number_at 12 4 b)) b r (rw (p, q, w) at e)))
    go true p false q false w = absurd (never r (rw (p, q, w) at e))
    go false p u q v w = absurd (never r (rw p at e))

-- the bytes from index i on begin with the number there
all_both : (f : ℕ → Bool) (a b : List ℕ) → all f (a ++ b) ≡ true → (all f a ≡ true) × (all f b ≡ true)
unfolding all
all_both f [] b h = (refl, h)
all_both f (x ∷ a) b h = let p = both (f x) (all f (a ++ b)) h in let q = all_both f a b p.1 in (rw p.0 q.0, q.1)

module _ (b : List ℕ) (h : all is_byte b ≡ true) where
  part_bytes : (i w : ℕ) → all is_byte (part i w b) ≡ true
  part_bytes i w =
      let d = (all_both is_byte (take i b) (drop i b) (rw (take-append-drop i b) h)).1 in
      (all_both is_byte (take w (drop i b)) (drop w (drop i b)) (rw (take-append-drop w (drop i b)) d)).0

  module _ (i w : ℕ) (g : i + w ≤ length b) where
    part_length : length (part i w b) ≡ w
    part_length = simp (length-take, length-drop) (omega arith)

    number-below : number_at i w b < 256 ^ w
    number-below = rw part_length at (little-below (part i w b) (part_bytes i w))

    number_cut : drop i b ≡ little w (number_at i w b) ++ drop (i + w) b
    number_cut =
        let l : little w (number_at i w b) ≡ part i w b = rw part_length at (little-bytes-back (part i w b) (part_bytes i w)) in
        rw l (sym (ap (λ (t : List ℕ). take w (drop i b) ++ t) (sym (drop-drop w i b)) ∙ take-append-drop w (drop i b)))

  -- the whole, for either kind
  module _ (r : Record) (i : ℕ) (stamp : Option ℕ) (counted : 2 + number_at 0 2 b ≡ length b) (kind : number_at 2 2 b ≡ kind_of stamp)
      (place : i ≡ 12 + length (stamp_bytes stamp)) (p : Passed i stamp b r) (cut : drop 12 b ≡ stamp_bytes stamp ++ drop i b) where
    name : List ℕ
    name = part (i + 1) (number_at i 1 b) b

    name-counted : length name ≡ number_at i 1 b
    unfolding name
    name-counted = let e = p.ends in simp (length-take, length-drop) (omega arith)

    name-cut : drop i b ≡ little 1 (length name) ++ name
    unfolding name
    name-cut =
        let e = p.ends in
        let t : part (i + 1) (number_at i 1 b) b ≡ drop (i + 1) b = take_all (number_at i 1 b) (drop (i + 1) b) (simp length-drop (omega arith)) in
        rw (name-counted, t) (number_cut i 1 (omega arith))

    -- b, field by field
    read-cut : b
        ≡ little 2 (number_at 0 2 b)
        ++ (little 2 (number_at 2 2 b) ++ (little 4 (number_at 4 4 b) ++ (little 4 (number_at 8 4 b) ++ (stamp_bytes stamp ++ (little 1 (length name) ++ name)))))
    read-cut =
        let e = p.ends in
        number_cut 0 2 (omega arith)
        ∙ ap (λ (l : List ℕ). little 2 (number_at 0 2 b) ++ l)
        (number_cut 2 2 (omega arith)
        ∙ ap (λ (l : List ℕ). little 2 (number_at 2 2 b) ++ l)
        (number_cut 4 4 (omega arith)
        ∙ ap (λ (l : List ℕ). little 4 (number_at 4 4 b) ++ l)
        (number_cut 8 4 (omega arith)
        ∙ ap (λ (l : List ℕ). little 4 (number_at 8 4 b) ++ l) (cut ∙ ap (λ (l : List ℕ). stamp_bytes stamp ++ l) name-cut))))

    read-bytes : record_bytes (saved name (number_at 4 4 b) (number_at 8 4 b) stamp) ≡ b
    read-bytes =
        let e = p.ends in
        let c = name-counted in
        let d = data-length (saved name (number_at 4 4 b) (number_at 8 4 b) stamp) in
        let n : length (record_data (saved name (number_at 4 4 b) (number_at 8 4 b) stamp)) ≡ number_at 0 2 b = omega arith in
        bytes_cut name (number_at 4 4 b) (number_at 8 4 b) stamp ∙ rw (n, ← kind) (sym read-cut)

    -- the form of what is read
    read-form : stamp_fits stamp ≡ true → record_form (saved_of b r) ≡ bytes b
    unfolding name
    read-form f =
        let e = p.ends in
        let k = number-below 8 4 (omega arith) in
        rw (← p.is) (form-good _ _ _ _ p.named p.sized (omega arith) f ∙ ap bytes read-bytes)

pub writes-back : (b : List ℕ) (r : Record) → all is_byte b ≡ true → record_of b ≡ Some r → record_form (saved_of b r) ≡ bytes b
writes-back b r h e = let k = kinds b r e in go k.0 k.1
  where
    go : 2 + number_at 0 2 b ≡ length b → Kinds b r → record_form (saved_of b r) ≡ bytes b
    go c (unstamped k p) =
        let l = stamp-absent None refl in
        read-form b h r 12 None c (k ∙ sym kind-absent) (omega arith) p (ap (λ (l : List ℕ). l ++ drop 12 b) (sym stamp-none)) refl
    go c (stamped k p) =
        let v = number_at 12 4 b in
        let l = stamp-present (Some v) v refl in
        let e = p.ends in
        let m = number-below b h 12 4 (omega arith) in
        read-form b h r 16 (Some v) c (k ∙ sym (kind-present v)) (omega arith) p
        (number_cut b h 12 4 (omega arith) ∙ ap (λ (l : List ℕ). l ++ drop 16 b) (sym (stamp-bytes v)))
        (stamp_in_range (Some v) v refl (omega arith))

-- a record that is read has a name and a size within the limits
pub read-limits : (b : List ℕ) (r : Record) → record_of b ≡ Some r → (is_name (saved_of b r).name ≡ true) × (r.size ≤ 99999999)
read-limits b r e = go (kinds b r e).1
  where
    go : Kinds b r → (is_name (saved_of b r).name ≡ true) × (r.size ≤ 99999999)
    go (unstamped k p) = rw (← p.is) (p.named, p.sized)
    go (stamped k p) = rw (← p.is) (p.named, p.sized)

-- and of bytes a kept count and a stamp of four bytes
pub read_fits : (b : List ℕ) (r : Record) → all is_byte b ≡ true → record_of b ≡ Some r → (r.kept < 2 ^ 32) × ((v : ℕ) → r.stamp ≡ Some v → v < 2 ^ 32)
read_fits b r h e =
    let f = formed (saved_of b r) b (writes-back b r h e) in
    (omega (arith, f.held), λ v q. let m : stamp_fits (Some v) ≡ true = rw q at f.fits in omega (arith, leb-true v 0xFFFFFFFF m))
