-- One whole packet: what its first bytes say of it.
-- Assumes nothing.
use mathlib.Core.Path.{◌≡◌, refl, sym, ap, ◌∙◌}
use mathlib.Core.Bool.{Bool, true, false, ◌||◌}
use mathlib.Core.List.{List, [], ◌∷◌}
use mathlib.Core.Logic.{⊎_elim}
use Prim.Native.Nat.{ℕ, zero, suc, ◌+◌, ◌-◌, ◌≤◌, ◌<◌}
use native.Mathlib.Omega.{arith}
use lib.Dec.{leb, eqb}
use lib.ListN.{length, take, drop, get_or, take-append-drop}
use lib.Seq.{take_all, take-length, length-take-le}
use borrow.Author.Tests.{leb-true, eqb-true, ltb-true}
use Rattle.numbers.specs.Canonical.{is_byte}
use Rattle.fields.specs.Lists.{all}
use Rattle.fields.proofs.Lists.{both}
use Rattle.packets.specs.declared.spans.Span.{Span}
use Rattle.packets.specs.declared.spans.Span.TheVariants.{Open, Whole, Drop}
use Rattle.packets.specs.Span.{known, paired, counted, total, span, lead, trail, place_at, size_of}
use Rattle.packets.specs.Packet.{data_of, whole_of, packet_of}
use Rattle.packets.proofs.spans.Laws.{at-whole, Case, none, unknown, one, wrong, whole, short, case, at_none, at-unknown, at_one, at-wrong, at-short, grown, size-within}

-- ---- One whole packet

-- the first three bytes of bs say that bs is one whole packet
pub record Framed (k : Bool) (bs : List ℕ) : Type 0 where
  pub two : 1 < length bs
  pub starts : known (get_or bs 0 0) ≡ true
  pub pairs : paired (get_or bs 0 0) (get_or bs 1 0) ≡ true
  pub ends : total k (get_or bs 0 0) (get_or bs 1 0) (get_or bs 2 0) ≡ length bs

pub framed-whole : (k : Bool) (bs : List ℕ) → Framed k bs → span k bs ≡ Whole (length bs)
framed-whole k bs f =
    at-whole k (length bs) (get_or bs 0 0) (get_or bs 1 0) (get_or bs 2 0) f.two f.starts f.pairs (omega (arith, f.ends)) ∙ ap Whole f.ends

pub packet-whole : (k : Bool) (bs : List ℕ) → span k bs ≡ Whole (length bs) → packet_of k bs ≡ whole_of k bs
packet-whole k bs h = rw (h, take-length bs)

-- and the other way round
pub whole-framed : (k : Bool) (b : List ℕ) → span k b ≡ Whole (length b) → Framed k b
whole-framed k b e = go (case k (length b) (get_or b 0 0) (get_or b 1 0) (get_or b 2 0))
  where
    other : (v : Span) → span k b ≡ v → (v ≡ Whole (length b) → ⊥) → Framed k b
    other v p h = absurd (h (sym p ∙ e))

    go : Case k (length b) (get_or b 0 0) (get_or b 1 0) (get_or b 2 0) → Framed k b
    go (none h) = other Open (at_none k _ _ _ _ h) (λ q. let z : ◌≡◌ {A = ℕ} 0 1 = cc in omega arith)
    go (unknown h p) = other (Drop 1) (at-unknown k _ _ _ _ h p) (λ q. let z : ◌≡◌ {A = ℕ} 0 1 = cc in omega arith)
    go (one h p) = other Open (at_one k _ _ _ _ h p) (λ q. let z : ◌≡◌ {A = ℕ} 0 1 = cc in omega arith)
    go (wrong h p q) = other (Drop 2) (at-wrong k _ _ _ _ h p q) (λ q. let z : ◌≡◌ {A = ℕ} 0 1 = cc in omega arith)
    go (short h p q r) = other Open (at-short k _ _ _ _ h p q r) (λ q. let z : ◌≡◌ {A = ℕ} 0 1 = cc in omega arith)
    go (whole h p q r) = record { two = h; starts = p; pairs = q; ends = cc (at-whole k _ _ _ _ h p q r) }

-- the bytes of a whole packet at the front are one whole packet
pub whole-front : (k : Bool) (b : List ℕ) (n : ℕ) → span k b ≡ Whole n → Framed k (take n b)
whole-front k b n e =
    let m : size_of (span k b) ≡ n = ap size_of e in
    let l : length (take n b) ≡ n = length-take-le n b (omega (arith, size-within k b)) in
    ⊎_elim
    (λ g. whole-framed k (take n b) (sym g.0 ∙ ap (span k) (take-append-drop n b) ∙ e ∙ ap Whole (sym l)))
    (λ g. absurd (omega (arith, ap (λ (s : List ℕ). size_of (span k s)) (take-append-drop n b), g.1)))
    (grown k (take n b) (drop n b))

-- ---- lead len data: HD, NR, RE, CN, TX

counted_is : (P : ℕ → Type 0) → P 1 → P 0x10 → P 0x15 → P 0x18 → (a : ℕ) → counted a ≡ true → P a
unfolding counted
counted_is P p q r s a h = go (eqb a 1) refl (eqb a 0x10) refl (eqb a 0x15) refl (eqb a 0x18) refl
  where
    go : (t : Bool) → eqb a 1 ≡ t → (u : Bool) → eqb a 0x10 ≡ u → (v : Bool) → eqb a 0x15 ≡ v → (w : Bool) → eqb a 0x18 ≡ w → P a
    go true e u f v g w i = rw (eqb-true a 1 e) p
    go false e true f v g w i = rw (eqb-true a 0x10 f) q
    go false e false f true g w i = rw (eqb-true a 0x15 g) r
    go false e false f false g true i = rw (eqb-true a 0x18 i) s
    go false e false f false g false i = let z : false ≡ true = simp (e, f, g, i) at h in let y : ◌≡◌ {A = ℕ} 0 1 = cc in absurd (omega arith)

-- what such a first byte says
module _ (a : ℕ) (h : counted a ≡ true) where
  pub counted-starts : known a ≡ true
  unfolding known
  counted-starts = counted_is (λ a. known a ≡ true) refl refl refl refl a h

  pub counted-pairs : (b : ℕ) → paired a b ≡ true
  unfolding paired
  counted-pairs b = counted_is (λ a. paired a b ≡ true) refl refl refl refl a h

  pub counted-ends : (k : Bool) (b d : ℕ) → total k a b d ≡ 2 + b
  unfolding total
  counted-ends k b d = rw h

  pub counted-leads : (b : ℕ) → lead a b ≡ 2
  unfolding lead
  counted-leads b = counted_is (λ a. lead a b ≡ 2) refl refl refl refl a h

  pub counted-trails : (k : Bool) → trail k a ≡ 0
  unfolding trail
  counted-trails k = counted_is (λ a. trail k a ≡ 0) refl refl refl refl a h

-- the data are what follows the two leading bytes
pub data-behind : (k : Bool) (a b : ℕ) (d : List ℕ) → counted a ≡ true → data_of k (a ∷ b ∷ d) ≡ d
unfolding place_at
data-behind k a b d h = rw (counted-leads a h b, counted-trails a h k) (take_all (suc (suc (length d)) - (2 + 0)) d (omega arith))

module _ (k : Bool) (a : ℕ) (d : List ℕ) (h : counted a ≡ true) where
  pub counted-framed : Framed k (a ∷ length d ∷ d)
  counted-framed = record {
    two = omega arith;
    starts = counted-starts a h;
    pairs = counted-pairs a h (length d);
    ends = counted-ends a h k (length d) (get_or d 0 0) ∙ omega arith;
  }

  -- the packet is whole, and its data are d
  pub counted-whole : span k (a ∷ length d ∷ d) ≡ Whole (2 + length d)
  counted-whole = framed-whole k (a ∷ length d ∷ d) counted-framed ∙ ap Whole (omega arith)

  pub counted-data : data_of k (a ∷ length d ∷ d) ≡ d
  counted-data = data-behind k a (length d) d h

-- ---- The first bytes that there are

pub one-to-six : (P : ℕ → Type 0) → P 1 → P 2 → P 3 → P 4 → P 5 → P 6 → (n : ℕ) → 1 ≤ n → n ≤ 6 → P n
one-to-six P a b c d e f zero h g = absurd (omega arith)
one-to-six P a b c d e f (suc zero) h g = a
one-to-six P a b c d e f (suc (suc zero)) h g = b
one-to-six P a b c d e f (suc (suc (suc zero))) h g = c
one-to-six P a b c d e f (suc (suc (suc (suc zero)))) h g = d
one-to-six P a b c d e f (suc (suc (suc (suc (suc zero))))) h g = e
one-to-six P a b c d e f (suc (suc (suc (suc (suc (suc zero)))))) h g = f
one-to-six P a b c d e f (suc (suc (suc (suc (suc (suc (suc n))))))) h g = absurd (omega arith)

-- P of every byte that starts a packet
pub record Known (P : ℕ → Type 0) : Type 0 where
  pub p1 : P 1
  pub p2 : P 2
  pub p3 : P 3
  pub p4 : P 4
  pub p5 : P 5
  pub p6 : P 6
  pub p10 : P 0x10
  pub p15 : P 0x15
  pub p18 : P 0x18

pub known_is : (P : ℕ → Type 0) → Known P → (a : ℕ) → known a ≡ true → P a
unfolding known
known_is P p a h = go (leb 1 a) refl (leb a 6) refl (eqb a 0x10) refl (eqb a 0x15) refl (eqb a 0x18) refl
  where
    rest : (t : Bool) → eqb a 0x10 ≡ t → (u : Bool) → eqb a 0x15 ≡ u → (v : Bool) → eqb a 0x18 ≡ v → t || (u || v) ≡ true → P a
    rest true e u f v g h = rw (eqb-true a 0x10 e) p.p10
    rest false e true f v g h = rw (eqb-true a 0x15 f) p.p15
    rest false e false f true g h = rw (eqb-true a 0x18 g) p.p18
    rest false e false f false g h = let y : ◌≡◌ {A = ℕ} 0 1 = cc in absurd (omega arith)

    go : (x : Bool) → leb 1 a ≡ x → (y : Bool) → leb a 6 ≡ y → (t : Bool) → eqb a 0x10 ≡ t → (u : Bool) → eqb a 0x15 ≡ u → (v : Bool) → eqb a 0x18 ≡ v → P a
    go true l true m t e u f v g = one-to-six P p.p1 p.p2 p.p3 p.p4 p.p5 p.p6 a (leb-true 1 a l) (leb-true a 6 m)
    go true l false m t e u f v g = rest t e u f v g (simp (l, m, e, f, g) at h)
    go false l y m t e u f v g = rest t e u f v g (simp (l, e, f, g) at h)

-- ---- Bytes

pub byte_at : (s : List ℕ) (i : ℕ) → all is_byte s ≡ true → get_or s i 0 < 256
unfolding all is_byte
byte_at [] i h = omega arith
byte_at (c ∷ s) zero h = ltb-true c 256 (both _ _ h).0
byte_at (c ∷ s) (suc i) h = byte_at s i (both (is_byte c) (all is_byte s) h).1

pub all_take : (f : ℕ → Bool) (n : ℕ) (s : List ℕ) → all f s ≡ true → all f (take n s) ≡ true
unfolding all
all_take f zero s h = refl
all_take f (suc n) [] h = refl
all_take f (suc n) (c ∷ s) h = let p = both (f c) (all f s) h in rw p.0 (all_take f n s p.1)
