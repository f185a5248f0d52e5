-- The faults of a line, part by part and the last part first: the earliest is the one that the table finds. Assumes nothing.
use Rattle.fields.specs.declared.Fault.{Fault}
use Rattle.std.specs.Prelude.{None, Ok, Option}
use mathlib.Core.Path.{◌≡◌, refl, sym, ap, subst, ◌∙◌}
use mathlib.Core.Bool.{Bool, true, false, not, ◌&&◌}
use mathlib.Core.List.{List, [], ◌∷◌}
use mathlib.Core.Logic.{⊎_elim}
use Prim.Native.Nat.{ℕ, suc, ◌+◌, ◌≤◌, ◌<◌}
use native.Mathlib.Omega.{arith}
use lib.Dec.{eqb}
use lib.ListN.{length, drop}
use lib.Seq.{drop-drop}
use borrow.Author.Tests.{lt-leb, lt-ltb, le-ltb, eqb-true, ne_eqb}
use Rattle.fields.specs.Pick.{pick}
use Rattle.fields.specs.Lists.{up_to}
use Rattle.fields.specs.Name.{is_name_byte}
use Rattle.fields.specs.declared.Flaw.TheVariants.{SizeOpen, Other}
use Rattle.fields.proofs.Lists.{le-or-lt}
use Rattle.numbers.specs.Reading.{is_digit}
use Rattle.faults.specs.declared.Stage.{Stage}
use Rattle.faults.specs.declared.Stage.TheVariants.{LineSize, LineBar, LineCrc, LineDollar, LineStamp, LineMark, LineName, End}
use Rattle.faults.specs.Faults.{is_hex, line_closing, step_of, end_of, fault, check_from, check_line}
use Rattle.faults.specs.Search.{when, earlier, earliest, front, digits, past_digits, begins, begins_both, occurs}
use Rattle.faults.specs.Search.{name_faults, crc_faults, stamp_faults, end_faults}
use Rattle.faults.specs.Search.{line_size_faults, line_name_faults, line_stamp_faults, line_dollar_faults, line_crc_faults, line_faults}
use Rattle.faults.proofs.Turns.{turn-to, turn-wrong, turn_end, turn-whole}
use Rattle.faults.proofs.Earliest.{From, from-pick, from-when, from-check, earlier-none, leads, one, Stops, front-stops, over}
use Rattle.faults.proofs.NameLeast.{name-least}
use Rattle.faults.proofs.CrcLeast.{crc-least}
use Rattle.faults.proofs.SizeLeast.{size-behind, size-least}

-- what a part finds lies behind its place, where the table finds it
from-part : (q : Stage) (part : ℕ → List ℕ → Option Fault) → ((i : ℕ) (s : List ℕ) → check_from q i s ≡ part i s) → (o i : ℕ) (s : List ℕ) → o ≤ i
    → From o (part i s)
from-part q part is o i s h = subst (From o) (is i s) (from-check q o i s h)

-- ---- Nothing more

line-end : (i : ℕ) (s : List ℕ) → check_from End i s ≡ end_faults i s
unfolding step_of end_of end_faults
line-end i [] = turn-whole End i refl
line-end i (c ∷ s) = turn-wrong End Other i c s refl ∙ sym (rw (lt-ltb 0 (suc (length s)) (omega arith)) refl)

-- ---- The name

line-name : (i : ℕ) (s : List ℕ) → check_from (LineName 0) i s ≡ line_name_faults i s
unfolding step_of end_of is_name_byte line_name_faults
line-name i s =
    let n = length (up_to 13 s) in
    name-least 13 LineName End refl (λ k c. refl) (λ k. refl) i s
    ∙ ap (λ (x : Option Fault). earlier (name_faults 13 i s) (pick (occurs 13 s) x None)) (line-end (i + n + 1) (drop (n + 1) s))

-- ---- The stamp

pub stamp-more : (k c : ℕ) → is_hex c ≡ true → k < 8 → step_of (LineStamp k) c ≡ Ok (LineStamp (k + 1))
unfolding step_of
stamp-more k c h g = rw (lt-leb 8 k g, h) refl

stamp-short : (i k : ℕ) (s : List ℕ) → k < 8 → Stops is_hex s → check_from (LineStamp k) i s ≡ fault Other i
unfolding step_of end_of
stamp-short i k [] h t = turn_end (LineStamp k) Other i refl
stamp-short i k (c ∷ s) h t = turn-wrong (LineStamp k) Other i c s (rw (lt-leb 8 k h, t) refl)

-- behind eight digits
stamp-behind : (i : ℕ) (s : List ℕ) → check_from (LineStamp 8) i s
    ≡ earlier
    (earlier (when (not (begins 63 s) && not (begins 35 s)) Other i) (earlier (when (begins 63 s && not (begins 35 (drop 1 s))) Other (i + 1)) None))
    (pick (begins 35 s) (check_from (LineName 0) (i + 1) (drop 1 s)) (pick (begins_both 63 35 s) (check_from (LineName 0) (i + 1 + 1) (drop 2 s)) None))
unfolding step_of end_of begins
stamp-behind i [] = turn_end (LineStamp 8) Other i refl
stamp-behind i (c ∷ s) = go (eqb c 63) refl (eqb c 35) refl
  where
    go : (a : Bool) → eqb c 63 ≡ a → (b : Bool) → eqb c 35 ≡ b → check_from (LineStamp 8) i (c ∷ s)
        ≡ earlier (earlier (when (not a && not b) Other i) (earlier (when (a && not (begins 35 s)) Other (i + 1)) None))
        (pick b (check_from (LineName 0) (i + 1) s) (pick (a && begins 35 s) (check_from (LineName 0) (i + 1 + 1) (drop 1 s)) None))
    go true e true g = absurd (omega (arith, eqb-true c 63 e, eqb-true c 35 g))
    go true e false g =
        turn-to (LineStamp 8) LineMark i c s (rw e refl) ∙ one LineMark (LineName 0) 35 Other (i + 1) s (λ d t z. refl) refl
        ∙ sym (rw (earlier-none (when (not (begins 35 s)) Other (i + 1))) refl)
    go false e true g = turn-to (LineStamp 8) (LineName 0) i c s (rw (e, g) refl)
    go false e false g = turn-wrong (LineStamp 8) Other i c s (rw (e, g) refl)

module _ (i : ℕ) (s : List ℕ) where
  abbrev hexes : ℕ
  hexes = length (front is_hex s)

  -- what is found behind the stamp
  abbrev beyond-stamp : Option Fault
  beyond-stamp =
      pick (begins 35 (drop 8 s)) (line_name_faults (i + 9) (drop 9 s)) (pick (begins_both 63 35 (drop 8 s)) (line_name_faults (i + 10) (drop 10 s)) None)

  from-stamp : (o : ℕ) → o ≤ i + 8 → From o beyond-stamp
  from-stamp o h =
      let x = line_name_faults (i + 9) (drop 9 s) in
      let y = line_name_faults (i + 10) (drop 10 s) in
      let from = from-part (LineName 0) line_name_faults line-name o in
      from-pick o (begins 35 (drop 8 s)) x (pick (begins_both 63 35 (drop 8 s)) y None) (from (i + 9) (drop 9 s) (omega arith))
      (from-pick o (begins_both 63 35 (drop 8 s)) y None (from (i + 10) (drop 10 s) (omega arith)) tt)

  stamp-few : hexes < 8 → check_from (LineStamp 0) i s ≡ line_stamp_faults i s
  unfolding line_stamp_faults stamp_faults earliest
  stamp-few h =
      let k = hexes in
      rw (lt-ltb k 8 h)
      (over LineStamp is_hex 8 stamp-more s i k (omega arith) (omega arith) ∙ stamp-short (i + k) k (drop k s) h (front-stops is_hex s)
      ∙ sym (leads (i + k) beyond-stamp (from-stamp (i + k) (omega arith)) false (not (begins 63 (drop 8 s)) && not (begins 35 (drop 8 s)))
      (begins 63 (drop 8 s) && not (begins 35 (drop 9 s))) (i + 8) (i + 8) (i + 9) (omega arith) (omega arith) (omega arith)))

  stamp-eight : 8 ≤ hexes → check_from (LineStamp 0) i s ≡ line_stamp_faults i s
  unfolding line_stamp_faults stamp_faults earliest
  stamp-eight h =
      let t = drop 8 s in
      let e : i + 8 + 1 ≡ i + 9 = omega arith in
      let g : i + 9 + 1 ≡ i + 10 = omega arith in
      rw (le-ltb hexes 8 h, ← drop-drop 1 8 s, ← drop-drop 2 8 s, ← line-name (i + 9) (drop 1 t), ← line-name (i + 10) (drop 2 t))
      (over LineStamp is_hex 8 stamp-more s i 8 h (omega arith) ∙ (rw (e, g) at (stamp-behind (i + 8) t)))

  line-stamp : check_from (LineStamp 0) i s ≡ line_stamp_faults i s
  line-stamp = ⊎_elim (λ (h : 8 ≤ hexes). stamp-eight h) (λ (h : hexes < 8). stamp-few h) (le-or-lt 8 hexes)

-- ---- The `$`

line-dollar : (i : ℕ) (s : List ℕ) → check_from LineDollar i s ≡ line_dollar_faults i s
unfolding step_of end_of line_dollar_faults
line-dollar i s =
    one LineDollar (LineStamp 0) 36 Other i s (λ c t e. refl) refl
    ∙ ap (λ (x : Option Fault). earlier (when (not (begins 36 s)) Other i) (pick (begins 36 s) x None)) (line-stamp (i + 1) (drop 1 s))

-- ---- The CRC

line-crc : (i : ℕ) (s : List ℕ) → check_from (LineCrc 0 0) i s ≡ line_crc_faults i s
unfolding step_of end_of line_crc_faults
line-crc i s =
    let t = past_digits s in
    crc-least LineCrc 35 LineDollar (λ k v c. refl) (λ k v. refl) i s
    ∙ ap (λ (x : Option Fault). earlier (crc_faults 35 i s) (pick (begins 35 t) x None)) (line-dollar (i + digits s + 1) (drop 1 t))

-- ---- The size

-- what is found of the closing bytes, and behind them
abbrev closing : ℕ → List ℕ → Option Fault
closing i s = pick (begins 13 s) None (pick (begins 35 s) (when (not (begins 124 (drop 1 s))) SizeOpen (i + 1)) (fault SizeOpen i))

abbrev beyond : ℕ → List ℕ → Option Fault
beyond i s = pick (begins 13 s) (end_faults (i + 1) (drop 1 s)) (pick (begins_both 35 124 s) (line_crc_faults (i + 2) (drop 2 s)) None)

from-closing : (i : ℕ) (s : List ℕ) → From i (closing i s)
from-closing i s =
    let b = not (begins 124 (drop 1 s)) in
    let x = when b SizeOpen (i + 1) in
    from-pick i (begins 13 s) None (pick (begins 35 s) x (fault SizeOpen i)) tt
    (from-pick i (begins 35 s) x (fault SizeOpen i) (from-when i b SizeOpen (i + 1) (omega arith)) (omega arith))

from-beyond : (i : ℕ) (s : List ℕ) → From i (beyond i s)
from-beyond i s =
    let x = end_faults (i + 1) (drop 1 s) in
    let y = line_crc_faults (i + 2) (drop 2 s) in
    from-pick i (begins 13 s) x (pick (begins_both 35 124 s) y None) (from-part End end_faults line-end i (i + 1) (drop 1 s) (omega arith))
    (from-pick i (begins_both 35 124 s) y None (from-part (LineCrc 0 0) line_crc_faults line-crc i (i + 2) (drop 2 s) (omega arith)) tt)

-- behind 1 to 8 digits
size-closed : (i k : ℕ) (s : List ℕ) → 1 ≤ k → Stops is_digit s → check_from (LineSize k) i s ≡ earlier (closing i s) (beyond i s)
unfolding step_of end_of begins
size-closed i k [] h t = turn_end (LineSize k) SizeOpen i (rw (ne_eqb k 0 (omega arith)) refl)
size-closed i k (c ∷ s) h t = go (eqb c 13) refl (eqb c 35) refl
  where
    to : step_of (LineSize k) c ≡ line_closing c
    to = size-behind LineSize line_closing (λ k c. refl) k c h t

    go : (a : Bool) → eqb c 13 ≡ a → (b : Bool) → eqb c 35 ≡ b → check_from (LineSize k) i (c ∷ s)
        ≡ earlier (pick a None (pick b (when (not (begins 124 s)) SizeOpen (i + 1)) (fault SizeOpen i)))
        (pick a (end_faults (i + 1) s) (pick (b && begins 124 s) (line_crc_faults (i + 2) (drop 1 s)) None))
    go true e b g = turn-to (LineSize k) End i c s (to ∙ rw e refl) ∙ line-end (i + 1) s
    go false e true g =
        let n : i + 1 + 1 ≡ i + 2 = omega arith in
        turn-to (LineSize k) LineBar i c s (to ∙ rw (e, g) refl) ∙ one LineBar (LineCrc 0 0) 124 SizeOpen (i + 1) s (λ d u q. refl) refl
        ∙ rw (n, line-crc (i + 2) (drop 1 s)) refl
    go false e false g = turn-wrong (LineSize k) SizeOpen i c s (to ∙ rw (e, g) refl)

line-size : (i : ℕ) (s : List ℕ) → check_from (LineSize 0) i s ≡ line_faults i s
unfolding step_of end_of line_faults line_size_faults
line-size i s =
    let j = i + digits s in
    let t = past_digits s in
    size-least LineSize line_closing (λ k c. refl) refl i s (closing j t) (beyond j t) (from-closing j t) (from-beyond j t)
    (λ h g. size-closed j (digits s) t h (front-stops is_digit s))

-- THE LINE: of all faults the one that the table finds is the earliest
pub least-line : (b : List ℕ) → check_line b ≡ line_faults 5 (drop 5 b)
unfolding check_line
least-line b = line-size 5 (drop 5 b)
