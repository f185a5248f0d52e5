-- The place of a fault is the length of the longest front that something well-formed begins with. Assumes nothing.
use Rattle.fields.specs.declared.Flaw.{Flaw}
use Rattle.std.specs.Prelude.{Err, None, Ok, Option, Result, Some}
use mathlib.Core.Path.{◌≡◌, refl, sym, ap, subst, ◌∙◌}
use mathlib.Core.Logic.{◌⊎◌, inl, inr, ⊎_elim}
use mathlib.Core.List.{List, [], ◌∷◌, ◌++◌}
use Prim.Native.Nat.{ℕ, zero, suc, ◌+◌, ◌-◌, ◌≤◌, ◌<◌, zero-le, suc-le-suc}
use native.Mathlib.Nat.{add-zero, add-suc, le_of_suc-le-suc}
use native.Mathlib.Omega.{arith}
use lib.Dec.{leb, eqb}
use lib.ListN.{length, take, drop, length-append, length-drop}
use lib.Seq.{take-add, length-take-le, drop-append-le, drop_at}
use borrow.Author.Tests.{ne_eqb, le-leb, lt-leb, leb-false}
use Rattle.fields.specs.Name.{is_name_byte}
use Rattle.fields.specs.declared.Flaw.TheVariants.{SizeOpen, Other}
use Rattle.fields.specs.declared.Fault.{Fault}
use Rattle.fields.proofs.Lists.{either}
use Rattle.numbers.specs.Reading.{hex_digit}
use Rattle.faults.specs.declared.Stage.{Stage}
use Rattle.faults.specs.declared.Stage.TheVariants.{HeaderName, HeaderSize, HeaderOption, OkName, OkDollar, OkKept, OkCrc, End}
use Rattle.faults.specs.declared.Stage.TheVariants.{LineSize, LineBar, LineCrc, LineDollar, LineStamp, LineMark, LineName}
use Rattle.faults.specs.Faults.{name_part, size_part, crc_part, is_hex, only, in_ok, line_closing}
use Rattle.faults.specs.Faults.{step_of, end_of, check_from, check_header, check_line, check_ok}
use Rattle.faults.proofs.Turns.{faulty-sound, turn-to, turn-wrong, option-sound}
use Rattle.faults.proofs.Moves.{of-name, of_size, of-crc, of-only, along}

-- ---- Every stage can be completed

-- m digits 0 before l
zeros : ℕ → List ℕ → List ℕ
zeros zero l = l
zeros (suc m) l = 48 ∷ zeros m l

-- `#`, the name `a`, `\r`
abbrev named : List ℕ
named = 35 ∷ 97 ∷ 13 ∷ []

-- `#$` and a stamp
abbrev stamped : List ℕ
stamped = 35 ∷ 36 ∷ zeros 8 named

rest : Stage → List ℕ
rest (HeaderName zero) = 97 ∷ 0 ∷ 48 ∷ 0 ∷ []
rest (HeaderName (suc k)) = 0 ∷ 48 ∷ 0 ∷ []
rest (HeaderSize zero) = 48 ∷ 0 ∷ []
rest (HeaderSize (suc k)) = 0 ∷ []
rest HeaderOption = []
rest (LineSize zero) = 48 ∷ 13 ∷ []
rest (LineSize (suc k)) = 13 ∷ []
rest LineBar = 124 ∷ 48 ∷ stamped
rest (LineCrc zero v) = 48 ∷ stamped
rest (LineCrc (suc k) v) = stamped
rest LineDollar = 36 ∷ zeros 8 named
rest (LineStamp k) = zeros (8 - k) named
rest LineMark = named
rest (LineName zero) = 97 ∷ 13 ∷ []
rest (LineName (suc k)) = 13 ∷ []
rest (OkName k) = 13 ∷ []
rest OkDollar = 36 ∷ 48 ∷ 35 ∷ 48 ∷ 13 ∷ []
rest (OkKept zero) = 48 ∷ 35 ∷ 48 ∷ 13 ∷ []
rest (OkKept (suc k)) = 35 ∷ 48 ∷ 13 ∷ []
rest (OkCrc zero v) = 48 ∷ 13 ∷ []
rest (OkCrc (suc k) v) = 13 ∷ []
rest End = []

live-stamp : (m k i : ℕ) → m ≡ 8 - k → check_from (LineStamp k) i (zeros m named) ≡ None
unfolding zeros check_from step_of end_of is_name_byte name_part hex_digit
live-stamp zero k i h = rw (le-leb 8 k (omega arith)) refl
live-stamp (suc m) k i h = rw (lt-leb 8 k (omega arith)) (live-stamp m (k + 1) (i + 1) (omega arith))

zeros-length : (m : ℕ) (l : List ℕ) → length (zeros m l) ≡ m + length l
unfolding zeros
zeros-length zero l = omega arith
zeros-length (suc m) l = let e = zeros-length m l in omega arith

live : (q : Stage) (i : ℕ) → (check_from q i (rest q) ≡ None) × (length (rest q) ≤ 15)
unfolding rest zeros check_from step_of end_of is_name_byte name_part size_part crc_part hex_digit
live (HeaderName zero) i = (refl, omega arith)
live (HeaderName (suc k)) i = (rw (ne_eqb (suc k) 0 (omega arith)) refl, omega arith)
live (HeaderSize zero) i = (refl, omega arith)
live (HeaderSize (suc k)) i = (rw (ne_eqb (suc k) 0 (omega arith)) refl, omega arith)
live HeaderOption i = (refl, omega arith)
live (LineSize zero) i = (refl, omega arith)
live (LineSize (suc k)) i = (rw (ne_eqb (suc k) 0 (omega arith)) refl, omega arith)
live LineBar i = (refl, omega arith)
live (LineCrc zero v) i = (refl, omega arith)
live (LineCrc (suc k) v) i = (rw (ne_eqb (suc k) 0 (omega arith)) refl, omega arith)
live LineDollar i = (refl, omega arith)
live (LineStamp k) i = let e = zeros-length (8 - k) named in (live-stamp (8 - k) k i refl, omega arith)
live LineMark i = (refl, omega arith)
live (LineName zero) i = (refl, omega arith)
live (LineName (suc k)) i = (rw (ne_eqb (suc k) 0 (omega arith)) refl, omega arith)
live (OkName k) i = (refl, omega arith)
live OkDollar i = (refl, omega arith)
live (OkKept zero) i = (refl, omega arith)
live (OkKept (suc k)) i = (rw (ne_eqb (suc k) 0 (omega arith)) refl, omega arith)
live (OkCrc zero v) i = (refl, omega arith)
live (OkCrc (suc k) v) i = (rw (ne_eqb (suc k) 0 (omega arith)) refl, omega arith)
live End i = (refl, omega arith)

-- ---- The place

-- what is asked of the place n of a fault in s, from a stage on
pub record First (q : Stage) (i : ℕ) (s : List ℕ) (n : ℕ) : Type 0 where
  pub count : ℕ
  pub is : n ≡ i + count
  pub within : count ≤ length s
  pub more : List ℕ
  pub short : length more ≤ 15
  pub begins : check_from q i (take count s ++ more) ≡ None
  pub offends : count < length s → (t : List ℕ) → check_from q i (take (suc count) s ++ t) ≡ None → ⊥

-- nothing of s begins anything
at_once : (q : Stage) (i : ℕ) (s : List ℕ) (n : ℕ) → n ≡ i
    → (0 < length s → (t : List ℕ) → check_from q i (take 1 s ++ t) ≡ None → ⊥) → First q i s n
at_once q i s n e o = record {
  count = 0;
  is = e ∙ sym (add-zero i);
  within = zero-le;
  more = rest q;
  short = (live q i).1;
  begins = (live q i).0;
  offends = o;
}

-- THE PLACE: the front before it begins something well-formed, and where there is a byte at it, nothing well-formed begins with the bytes through it
pub place : (q : Stage) (i : ℕ) (s : List ℕ) (f : Fault) → check_from q i s ≡ Some f → First q i s f.offset
place q i s f e =
    along f (λ (q : Stage) (i : ℕ) (s : List ℕ). First q i s f.offset)
    (λ q i w h g. at_once q i [] f.offset (sym (ap (λ (x : Fault). x.offset) g)) (λ k. absurd (omega arith)))
    (λ q i c s w h g. at_once q i (c ∷ s) f.offset (sym (ap (λ (x : Fault). x.offset) g))
    (λ k t z. faulty-sound (sym (turn-wrong q w i c (take 0 s ++ t) h) ∙ z)))
    next q i s e
  where
    next : (q p : Stage) (i c : ℕ) (s : List ℕ) → step_of q c ≡ Ok p → check_from p (i + 1) s ≡ Some f
        → First p (i + 1) s f.offset → First q i (c ∷ s) f.offset
    next q p i c s h _ n = record {
      count = suc n.count;
      is = n.is ∙ (omega arith);
      within = suc-le-suc n.within;
      more = n.more;
      short = n.short;
      begins = turn-to q p i c (take n.count s ++ n.more) h ∙ n.begins;
      offends = λ k t g. n.offends (le_of_suc-le-suc k) t (sym (turn-to q p i c (take (suc n.count) s ++ t) h) ∙ g);
    }

-- ---- The limits

-- how many bytes can still be taken before a fault
pub room : Stage → ℕ
room (HeaderName k) = 64 - k + 9
room (HeaderSize k) = 8 - k
room HeaderOption = 0
room (LineSize k) = 8 - k + 84
room LineBar = 83
room (LineCrc k v) = 5 - k + 77
room LineDollar = 76
room (LineStamp k) = 8 - k + 67
room LineMark = 66
room (LineName k) = 64 - k + 1
room (OkName k) = 64 - k + 17
room OkDollar = 16
room (OkKept k) = 8 - k + 7
room (OkCrc k v) = 5 - k + 1
room End = 0

-- a move leaves less than n, or leads to the option, where nothing is wrong
abbrev Under : ℕ → Result Stage Flaw → Type 0
Under n (Ok q) = (q ≡ HeaderOption) ⊎ (room q < n)
Under n (Err f) = Unit {0}

lowers : (q : Stage) (c : ℕ) → Under (room q) (step_of q c)
unfolding room step_of
lowers (HeaderName k) c =
    of-name (Under (64 - k + 9)) (λ _. tt) k c 0 HeaderName (Ok (HeaderSize 0)) (λ _ (h : k < 64). inr (omega arith)) (λ _ _. inr (omega arith))
lowers (HeaderSize k) c =
    let P : Result Stage Flaw → Type 0 = Under (8 - k) in
    of_size P (λ _. tt) k c HeaderSize (only 0 c HeaderOption SizeOpen) (λ _ (h : k < 8). inr (omega arith))
    (λ _. of-only P 0 c HeaderOption SizeOpen tt (λ _. inl refl))
lowers HeaderOption c = inl refl
lowers (LineSize k) c =
    let P : Result Stage Flaw → Type 0 = Under (8 - k + 84) in
    of_size P (λ _. tt) k c LineSize (line_closing c) (λ _ (h : k < 8). inr (omega arith))
    (λ _. either P (eqb c 13) _ _ (λ _. inr (omega arith)) (λ _. of-only P 35 c LineBar SizeOpen tt (λ _. inr (omega arith))))
lowers LineBar c = of-only (Under 83) 124 c (LineCrc 0 0) SizeOpen tt (λ _. inr (omega arith))
lowers (LineCrc k v) c =
    let P : Result Stage Flaw → Type 0 = Under (5 - k + 77) in
    of-crc P tt k c v LineCrc (only 35 c LineDollar Other) (λ _ (h : k < 5) _. inr (omega arith))
    (λ _. of-only P 35 c LineDollar Other tt (λ _. inr (omega arith)))
lowers LineDollar c = of-only (Under 76) 36 c (LineStamp 0) Other tt (λ _. inr (omega arith))
lowers (LineStamp k) c =
    let P : Result Stage Flaw → Type 0 = Under (8 - k + 67) in
    either P (leb 8 k) _ _
    (λ _. either P (eqb c 63) _ _ (λ _. inr (omega arith)) (λ _. of-only P 35 c (LineName 0) Other tt (λ _. inr (omega arith))))
    (λ h. either P (is_hex c) _ _ (λ _. let g = leb-false 8 k h in inr (omega arith)) (λ _. tt))
lowers LineMark c = of-only (Under 66) 35 c (LineName 0) Other tt (λ _. inr (omega arith))
lowers (LineName k) c =
    of-name (Under (64 - k + 1)) (λ _. tt) k c 13 LineName (Ok End) (λ _ (h : k < 64). inr (omega arith)) (λ _ _. inr (omega arith))
lowers (OkName k) c =
    let P : Result Stage Flaw → Type 0 = Under (64 - k + 17) in
    either P (eqb c 13) _ _ (λ _. inr (omega arith))
    (λ _. of-name (λ (m : Result Stage Flaw). P (in_ok m)) (λ _. tt) k c 35 OkName (Ok OkDollar) (λ _ (h : k < 64). inr (omega arith)) (λ _ _. inr (omega arith)))
lowers OkDollar c = of-only (Under 16) 36 c (OkKept 0) Other tt (λ _. inr (omega arith))
lowers (OkKept k) c =
    let P : Result Stage Flaw → Type 0 = λ (m : Result Stage Flaw). Under (8 - k + 7) (in_ok m) in
    of_size P (λ _. tt) k c OkKept (only 35 c (OkCrc 0 0) Other) (λ _ (h : k < 8). inr (omega arith))
    (λ _. of-only P 35 c (OkCrc 0 0) Other tt (λ _. inr (omega arith)))
lowers (OkCrc k v) c =
    let P : Result Stage Flaw → Type 0 = Under (5 - k + 1) in
    of-crc P tt k c v OkCrc (only 13 c End Other) (λ _ (h : k < 5) _. inr (omega arith)) (λ _. of-only P 13 c End Other tt (λ _. inr (omega arith)))
lowers End c = tt

-- a fault lies within the room of its stage
pub place-room : (q : Stage) (i : ℕ) (s : List ℕ) (f : Fault) → check_from q i s ≡ Some f → f.offset ≤ i + room q
place-room q i s f e =
    along f (λ (q : Stage) (i : ℕ) (s : List ℕ). f.offset ≤ i + room q)
    (λ q i w h g. let o = ap (λ (x : Fault). x.offset) g in omega arith)
    (λ q i c s w h g. let o = ap (λ (x : Fault). x.offset) g in omega arith)
    next q i s e
  where
    next : (q p : Stage) (i c : ℕ) (s : List ℕ) → step_of q c ≡ Ok p → check_from p (i + 1) s ≡ Some f
        → f.offset ≤ i + 1 + room p → f.offset ≤ i + room q
    next q p i c s h e n =
        ⊎_elim (λ o. faulty-sound (sym e ∙ ap (λ (x : Stage). check_from x (i + 1) s) o ∙ option-sound (i + 1) s))
        (λ (l : room p < room q). omega arith)
        (subst (Under (room q)) h (lowers q c))

-- the longest fronts: a header's name, 00 and size
pub short-header : (d : List ℕ) (f : Fault) → check_header d ≡ Some f → f.offset ≤ 73
unfolding check_header room
short-header d f e = place-room (HeaderName 0) 0 d f e

-- a whole line with its `?`
pub short-line : (b : List ℕ) (f : Fault) → check_line b ≡ Some f → f.offset ≤ 97
unfolding check_line room
short-line b f e = place-room (LineSize 0) 5 (drop 5 b) f e

-- a whole OK with size and CRC
pub short_ok : (b : List ℕ) (f : Fault) → check_ok b ≡ Some f → f.offset ≤ 85
unfolding check_ok room
short_ok b f e = place-room (OkName 0) 4 (drop 4 b) f e

-- a place in a frame lies behind the mark that the frame starts with
pub past-line : (b : List ℕ) (f : Fault) → check_line b ≡ Some f → 5 ≤ f.offset
unfolding check_line
past-line b f e = let h = (place (LineSize 0) 5 (drop 5 b) f e).is in omega arith

pub past-ok : (b : List ℕ) (f : Fault) → check_ok b ≡ Some f → 4 ≤ f.offset
unfolding check_ok
past-ok b f e = let h = (place (OkName 0) 4 (drop 4 b) f e).is in omega arith

-- ---- The place, with no stage named

-- what is asked of the place n of a fault in b: the n bytes before it begin something well-formed, no longer than a packet's data or a frame can be;
-- where there is a byte at it, nothing well-formed begins with the bytes through it
pub record Place (check : List ℕ → Option Fault) (b : List ℕ) (n : ℕ) : Type 0 where
  pub within : n ≤ length b
  pub more : List ℕ
  pub begins : check (take n b ++ more) ≡ None
  pub short : n + length more ≤ 255
  pub offends : n < length b → (t : List ℕ) → check (take (suc n) b ++ t) ≡ None → ⊥

-- behind k bytes that a check passes over
passed : (k m : ℕ) (b t : List ℕ) → k ≤ length b → drop k (take (k + m) b ++ t) ≡ take m (drop k b) ++ t
passed k m b t h =
    let e = length-take-le k b h in
    ap (drop k) (ap (λ (l : List ℕ). l ++ t) (take-add k m b)) ∙ drop-append-le k (take k b ++ take m (drop k b)) t (rw length-append (omega arith))
    ∙ ap (λ (l : List ℕ). l ++ t) (drop_at (take k b) (take m (drop k b)) k e)

placed : (q : Stage) (k n : ℕ) (b : List ℕ) → k ≤ length b → n ≤ 97 → First q k (drop k b) n → Place (λ (s : List ℕ). check_from q k (drop k s)) b n
placed q k n b h l p =
    let w = p.within in
    let g : p.count ≤ length b - k = rw length-drop at w in
    let s = p.short in
    let e = p.is in
    subst (Place (λ (s : List ℕ). check_from q k (drop k s)) b) (sym p.is)
    (record {
      within = omega arith;
      more = p.more;
      begins = ap (check_from q k) (passed k p.count b p.more h) ∙ p.begins;
      short = omega arith;
      offends = λ (o : k + p.count < length b) t z. p.offends (rw length-drop (omega arith)) t
          (sym (ap (check_from q k) (ap (λ (x : ℕ). drop k (take x b ++ t)) (sym (add-suc k p.count)) ∙ passed k (suc p.count) b t h)) ∙ z);
    })

-- THE PLACE in the data of a header
pub place-header : (d : List ℕ) (f : Fault) → check_header d ≡ Some f → Place check_header d f.offset
unfolding check_header
place-header d f e = let l = short-header d f e in placed (HeaderName 0) 0 f.offset d zero-le (omega arith) (place (HeaderName 0) 0 d f e)

-- in a frame that starts `#BIN#`
pub place-line : (b : List ℕ) (f : Fault) → 5 ≤ length b → check_line b ≡ Some f → Place check_line b f.offset
unfolding check_line
place-line b f h e = placed (LineSize 0) 5 f.offset b h (short-line b f e) (place (LineSize 0) 5 (drop 5 b) f e)

-- in one that starts `#OK#`
pub place_ok : (b : List ℕ) (f : Fault) → 4 ≤ length b → check_ok b ≡ Some f → Place check_ok b f.offset
unfolding check_ok
place_ok b f h e = let l = short_ok b f e in placed (OkName 0) 4 f.offset b h (omega arith) (place (OkName 0) 4 (drop 4 b) f e)
