-- Eight bytes at once, by the rows.
-- Assumes nothing.
use mathlib.Core.Path.{◌≡◌, refl, sym, ap, ap₂, ◌∙◌}
use mathlib.Core.List.{List, [], ◌∷◌, ◌++◌}
use Prim.Native.Nat.{ℕ, zero, suc, ◌≤◌, ◌+◌, ◌-◌, ◌*◌, ◌/◌, ◌%◌, ◌^◌, ◌<◌}
use native.Mathlib.Nat.{zero-add, div-add-mod'}
use native.Mathlib.Numerals.{add-one}
use native.Mathlib.Omega.{arith}
use lib.Dec.{eqb, lit<}
use lib.ListN.{length, get_or, get_or-append, set}
use Rattle.std.proofs.lemmas.List.{get_or-append_right}
use mathlib.Core.Bool.{Bool, true, false}
use borrow.Author.Tests.{eqb-true, eqb-false}
use lib.Seq.{get_or-set_same}
use lib.Bits.{bit_xor, xor_lt, xor_shifted, xor_zero_l, xor_zero_r}
use Rattle.crc.specs.declared.Reading.{Reading}
use Rattle.crc.specs.declared.Reading.TheVariants.{Bare, Augmented}
use Rattle.crc.specs.Crc.{reduced, remainder, entry, listed, byte_step, walk_from}
use Rattle.crc.specs.Rows.{times, rows_at, row_of, AreRows, eight_steps}
use Rattle.crc.proofs.Table.{listed-from}
use Rattle.crc.proofs.Laws.{step-lt}
use Rattle.crc.proofs.Xor.{xor-swap, mix, mix-late}
use Rattle.crc.proofs.Times.{times-lt, times-xor, times-add}

-- two rules whose tables are the same agree
agree : (f g : ℕ → ℕ) (n : ℕ) → listed f 0 n ≡ listed g 0 n → (k : ℕ) → k < n → f k ≡ g k
agree f g n e k h =
    ap f (sym (zero-add k)) ∙ sym (listed-from f 0 n k h) ∙ ap (λ l. get_or l k 0) e ∙ listed-from g 0 n k h ∙ ap g (zero-add k)

-- the remainder of a byte times x^16 is got by sixteen doublings; a byte times x^8 is its own remainder
pub entry-times : (i : ℕ) → i < 256 → entry i ≡ times 16 i
unfolding remainder reduced times
entry-times i h = agree entry (times 16) 256 refl i h

pub byte-times : (i : ℕ) → i < 256 → times 8 i ≡ i * 256
unfolding reduced times
byte-times i h = agree (times 8) (λ (j : ℕ). j * 256) 256 refl i h

-- a remainder times x^k, by its high and its low byte
pub times-parts : (k r : ℕ) → r < 2 ^ 16 → times k r ≡ bit_xor (times (k + 8) (r / 256)) (times k (r % 256))
times-parts k r h =
    ap (times k) (sym (xor_shifted (r / 256) 8 (r % 256) (omega arith) ∙ div-add-mod' r 256))
    ∙ times-xor k (r / 256 * 256) (r % 256) (omega arith) (omega arith)
    ∙ ap (λ (n : ℕ). bit_xor n (times k (r % 256))) (ap (times k) (sym (byte-times (r / 256) (omega arith))) ∙ times-add k 8 (r / 256))

-- a step multiplies by x^8 and adds the byte, as it is or times x^16
pub step-times : (q : Reading) (r c : ℕ) → r < 2 ^ 16 → c < 256 → byte_step q r c ≡ bit_xor (times 8 r) (times (8 * row_of q) c)
unfolding byte_step times
step-times Bare r c h k = rw (times-parts 8 r h, entry-times (r / 256) (omega arith), byte-times (r % 256) (omega arith)) refl
step-times Augmented r c h k =
    let l : bit_xor (r / 256) c < 256 = xor_lt 8 (r / 256) c (omega arith) k in
    rw (entry-times (bit_xor (r / 256) c) l, times-xor 16 (r / 256) c (omega arith) (omega arith), times-parts 8 r h, byte-times (r % 256) (omega arith))
    (xor-swap (times 16 (r / 256)) (times 16 c) (r % 256 * 256))

-- and a step times x^k
pub times-step : (q : Reading) (k r c : ℕ) → r < 2 ^ 16 → c < 256 → times k (byte_step q r c) ≡ bit_xor (times (k + 8) r) (times (k + 8 * row_of q) c)
times-step q k r c h l =
    ap (times k) (step-times q r c h l) ∙ times-xor k (times 8 r) (times (8 * row_of q) c) (times-lt 8 r h) (times-lt (8 * row_of q) c (omega arith))
    ∙ ap₂ bit_xor (times-add k 8 r) (times-add k (8 * row_of q) c)

times_none : (r : ℕ) → times 0 r ≡ r
unfolding times
times_none r = refl

-- the step with 0 multiplies by x^8
pub step-zero : (r : ℕ) → r < 2 ^ 16 → byte_step Bare r 0 ≡ times 8 r
step-zero r h = step-times Bare r 0 h (lit< tt) ∙ ap (bit_xor (times 8 r)) (times_none 0) ∙ xor_zero_r (times 8 r)

-- so it goes from a row to the next
pub rows_next : (i : ℕ) → 256 ≤ i → byte_step Bare (rows_at (i - 256)) 0 ≡ rows_at i
unfolding rows_at
rows_next i h =
    let j = i - 256 in
    let r = times (8 * (j / 256)) (j % 256) in
    let l : r < 2 ^ 16 = times-lt (8 * (j / 256)) (j % 256) (omega arith) in
    let e : 8 + 8 * (j / 256) ≡ 8 * (i / 256) = omega arith in
    let m : j % 256 ≡ i % 256 = omega arith in
    step-zero r l ∙ times-add 8 (8 * (j / 256)) (j % 256) ∙ ap (λ (n : ℕ). times n (j % 256)) e ∙ ap (times (8 * (i / 256))) m

-- the first row has the bytes themselves
pub rows-first : (i : ℕ) → i < 256 → i ≡ rows_at i
unfolding rows_at
rows-first i h =
    let e : 0 ≡ 8 * (i / 256) = omega arith in
    let m : i ≡ i % 256 = omega arith in
    sym (times_none i) ∙ ap (λ (n : ℕ). times n i) e ∙ ap (times (8 * (i / 256))) m

-- an entry of the rows, by where its row starts
pub rows_row : (at k b : ℕ) → at ≡ 32 * k → at % 256 ≡ 0 → b < 256 → rows_at (at + b) ≡ times k b
unfolding rows_at
rows_row at k b s z h =
    let e : 8 * ((at + b) / 256) ≡ k = omega arith in
    let m : (at + b) % 256 ≡ b = omega arith in
    ap (λ (n : ℕ). times n ((at + b) % 256)) e ∙ ap (times k) m

-- eight steps: r and each byte times a power of x of its own
pub eight : (q : Reading) (r a b c d e f g h : ℕ) → r < 2 ^ 16 → a < 256 → b < 256 → c < 256 → d < 256 → e < 256 → f < 256 → g < 256 → h < 256
    → eight_steps q r a b c d e f g h
    ≡ bit_xor (mix (times (56 + 8 * row_of q) a) (times (48 + 8 * row_of q) b ∷ times (40 + 8 * row_of q) c ∷ times (32 + 8 * row_of q) d ∷ times (24 + 8 * row_of q) e ∷ times (16 + 8 * row_of q) f ∷ times (8 + 8 * row_of q) g ∷ times (8 * row_of q) h ∷ []))
    (times 64 r)
eight q r a b c d e f g h hr ha hb hc hd he hf hg hh =
    let r1 = byte_step q r a in
    let r2 = byte_step q r1 b in
    let r3 = byte_step q r2 c in
    let r4 = byte_step q r3 d in
    let r5 = byte_step q r4 e in
    let r6 = byte_step q r5 f in
    let r7 = byte_step q r6 g in
    rw (step-times q r7 h (step-lt q r6 g hg) hh, times-step q 8 r6 g (step-lt q r5 f hf) hg, times-step q 16 r5 f (step-lt q r4 e he) hf, times-step q 24 r4 e (step-lt q r3 d hd) he, times-step q 32 r3 d (step-lt q r2 c hc) hd, times-step q 40 r2 c (step-lt q r1 b hb) hc, times-step q 48 r1 b (step-lt q r a ha) hb, times-step q 56 r a hr ha)
    (mix-late (times 64 r) (times (56 + 8 * row_of q) a) (times (48 + 8 * row_of q) b ∷ times (40 + 8 * row_of q) c ∷ times (32 + 8 * row_of q) d ∷ times (24 + 8 * row_of q) e ∷ times (16 + 8 * row_of q) f ∷ times (8 + 8 * row_of q) g ∷ times (8 * row_of q) h ∷ []))

-- r times x^64 by what was looked up for its two bytes
pub shifted : (r th tl : ℕ) → r < 2 ^ 16 → th ≡ rows_at (2304 + r / 256) → tl ≡ rows_at (2048 + r % 256) → bit_xor th tl ≡ times 64 r
shifted r th tl h eh el =
    rw (eh ∙ rows_row 2304 72 (r / 256) refl refl (omega arith), el ∙ rows_row 2048 64 (r % 256) refl refl (omega arith)) (sym (times-parts 64 r h))

-- what is looked up for the first i bytes, where row j is that of the last of eight
abbrev pub looked_up : ℕ → List ℕ → ℕ → ℕ
looked_up j s zero = 0
looked_up j s (suc i) = bit_xor (looked_up j s i) (rows_at (256 * (j + 7 - i) + get_or s i 0))

pub looked_more : (j : ℕ) (s : List ℕ) (i x y : ℕ) → x ≡ looked_up j s i → y ≡ rows_at (256 * (j + 7 - i) + get_or s i 0) → bit_xor x y ≡ looked_up j s (i + 1)
looked_more j s i x y e f = rw add-one (ap₂ bit_xor e f)

-- eight steps by what was looked up in the rows
pub eight-rows : (q : Reading) (r : ℕ) (s : List ℕ) (j x tr : ℕ) → j ≡ row_of q → r < 2 ^ 16 → ((i : ℕ) → get_or s i 0 < 256) → x ≡ looked_up j s 8 → tr ≡ times 64 r
    → bit_xor x tr ≡ eight_steps q r (get_or s 0 0) (get_or s 1 0) (get_or s 2 0) (get_or s 3 0) (get_or s 4 0) (get_or s 5 0) (get_or s 6 0) (get_or s 7 0)
eight-rows q r s j x tr z hr hs e er =
    let a = get_or s 0 0 in
    let b = get_or s 1 0 in
    let c = get_or s 2 0 in
    let d = get_or s 3 0 in
    let f = get_or s 4 0 in
    let g = get_or s 5 0 in
    let k = get_or s 6 0 in
    let l = get_or s 7 0 in
    rw (e, er, rows_row (256 * (j + 7 - 0)) (56 + 8 * row_of q) a (omega arith) (omega arith) (hs 0), rows_row (256 * (j + 7 - 1)) (48 + 8 * row_of q) b (omega arith) (omega arith) (hs 1), rows_row (256 * (j + 7 - 2)) (40 + 8 * row_of q) c (omega arith) (omega arith) (hs 2), rows_row (256 * (j + 7 - 3)) (32 + 8 * row_of q) d (omega arith) (omega arith) (hs 3), rows_row (256 * (j + 7 - 4)) (24 + 8 * row_of q) f (omega arith) (omega arith) (hs 4), rows_row (256 * (j + 7 - 5)) (16 + 8 * row_of q) g (omega arith) (omega arith) (hs 5), rows_row (256 * (j + 7 - 6)) (8 + 8 * row_of q) k (omega arith) (omega arith) (hs 6), rows_row (256 * (j + 7 - 7)) (8 * row_of q) l (omega arith) (omega arith) (hs 7), xor_zero_l (times (56 + 8 * row_of q) a))
    (sym (eight q r a b c d f g k l hr (hs 0) (hs 1) (hs 2) (hs 3) (hs 4) (hs 5) (hs 6) (hs 7)))

-- and they are the walk over the eight
pub walk-eight : (q : Reading) (r : ℕ) (s : List ℕ) → length s ≡ 8
    → eight_steps q r (get_or s 0 0) (get_or s 1 0) (get_or s 2 0) (get_or s 3 0) (get_or s 4 0) (get_or s 5 0) (get_or s 6 0) (get_or s 7 0) ≡ walk_from q r s
unfolding walk_from
walk-eight q r (a ∷ b ∷ c ∷ d ∷ e ∷ f ∷ g ∷ h ∷ []) l = refl
walk-eight q r (a ∷ b ∷ c ∷ d ∷ e ∷ f ∷ g ∷ h ∷ i ∷ s) l = absurd (omega arith)
walk-eight q r (a ∷ b ∷ c ∷ d ∷ e ∷ f ∷ g ∷ []) l = absurd (omega arith)
walk-eight q r (a ∷ b ∷ c ∷ d ∷ e ∷ f ∷ []) l = absurd (omega arith)
walk-eight q r (a ∷ b ∷ c ∷ d ∷ e ∷ []) l = absurd (omega arith)
walk-eight q r (a ∷ b ∷ c ∷ d ∷ []) l = absurd (omega arith)
walk-eight q r (a ∷ b ∷ c ∷ []) l = absurd (omega arith)
walk-eight q r (a ∷ b ∷ []) l = absurd (omega arith)
walk-eight q r (a ∷ []) l = absurd (omega arith)
walk-eight q r [] l = absurd (omega arith)

-- the rows so far, and one row more, each of whose entries is got by a step with 0
pub rows_first : (rows : List (List ℕ)) (row : List ℕ) → 0 < length rows → ((b : ℕ) → b < 256 → get_or row b 0 ≡ b) → AreRows 1 (set rows 0 row)
rows_first rows row p h zero l b k =
    let e : b ≡ 256 * 0 + b = omega arith in
    rw (get_or-set_same rows 0 row [] p) (h b k ∙ rows-first b k ∙ ap rows_at e)
rows_first rows row p h (suc j) l b k = absurd (omega arith)

pub rows_more : (front back : List (List ℕ)) (j : ℕ) (row : List ℕ) → AreRows j (front ++ back) → 0 < j → length front ≡ j → 0 < length back
    → ((b : ℕ) → b < 256 → get_or row b 0 ≡ byte_step Bare (get_or (get_or front (j - 1) []) b 0) 0) → AreRows (j + 1) (front ++ set back 0 row)
rows_more front back j row h p n l e k hk b hb = go (eqb k j) refl
  where
    before : (i : ℕ) → i < j → get_or (get_or front i []) b 0 ≡ rows_at (256 * i + b)
    before i hi = ap (λ (r : List ℕ). get_or r b 0) (sym (get_or-append front back [] i (omega arith))) ∙ h i hi b hb

    go : (t : Bool) → eqb k j ≡ t → get_or (get_or (front ++ set back 0 row) k []) b 0 ≡ rows_at (256 * k + b)
    go true x =
        let z : k ≡ j = eqb-true k j x in
        let m : 256 * (j - 1) + b ≡ 256 * j + b - 256 = omega arith in
        let o : j - j ≡ 0 = omega arith in
        rw (z, get_or-append_right front (set back 0 row) j j [] n (omega arith), o, get_or-set_same back 0 row [] l)
        (e b hb ∙ ap (λ (n : ℕ). byte_step Bare n 0) (before (j - 1) (omega arith) ∙ ap rows_at m) ∙ rows_next (256 * j + b) (omega arith))
    go false x =
        let z : k ≡ j → ⊥ = eqb-false k j x in
        let y : k < j = omega (arith, z) in
        rw (get_or-append front (set back 0 row) [] k (omega arith)) (before k y)
