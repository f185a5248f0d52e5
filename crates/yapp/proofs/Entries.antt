-- The two tables are the rows: what stands at a state's row and a kind's column is the number of what the row gives for the kind, and a number
-- that is no kind is answered as unreadable bytes are.
-- Assumes nothing.
use mathlib.Core.Path.{◌≡◌, refl, ap, sym, ◌∙◌}
use mathlib.Core.Bool.{true, false}
use mathlib.Core.List.{List, [], ◌∷◌}
use mathlib.Core.Logic.{⊎_elim}
use Prim.Native.Nat.{ℕ, zero, suc, ◌+◌, ◌≤◌, ◌<◌}
use native.Mathlib.Nat.{add-zero, zero-add, add-suc, suc-add, le_of_suc-le-suc, not-suc-le-zero}
use native.Mathlib.Omega.{arith}
use lib.Dec.{ltb, eqb}
use lib.ListN.{get_or}
use borrow.Author.Tests.{ne_eqb, ltb-true, lt-ltb, le-ltb}
use Rattle.fields.proofs.Lists.{le-or-lt}
use Rattle.packets.specs.Kind.{RR, RF, AF, CA, RT, SI, RI, HD, DT, EF, ET, NR, RE, CN, TX, BadHD, Unreadable, Unfinished, look}
use Rattle.yapp.specs.declared.SenderState.{SenderState}
use Rattle.yapp.specs.declared.SenderState.TheVariants.{S, SH, SD, SE, ST, CW, Ended}
use Rattle.yapp.specs.declared.ReceiverState.{ReceiverState}
use Rattle.yapp.specs.declared.ReceiverState.TheVariants.{R, RH, RD, CW as RCW, Ended as REnded}
use Rattle.yapp.specs.Rows.{Action, nothing, row_s, row_sh, row_sd, row_se, row_st, row_cw, row_r, row_rh, row_second, row_rd, sender_row, receiver_row}
use Rattle.yapp.specs.Table.{action_number}
use Rattle.yapp.specs.Cells.{kinds, column_of, sender_number, receiver_number}

-- what a row has for the n kinds from k on
unfoldable pub numbers_from : (ℕ → Action) → ℕ → ℕ → List ℕ
numbers_from f k zero = []
numbers_from f k (suc n) = action_number (f k) ∷ numbers_from f (suc k) n

-- rows, each over all kinds
unfoldable pub table : List (ℕ → Action) → List (List ℕ)
table [] = []
table (f ∷ l) = numbers_from f 0 kinds ∷ table l

-- an end that has ended does nothing
abbrev row_ended : ℕ → Action
row_ended k = nothing

-- S, SH, SD, SE, ST, CW, ended
unfoldable pub send_table : List (List ℕ)
send_table = table (row_s ∷ row_sh ∷ row_sd ∷ row_se ∷ row_st ∷ row_cw ∷ row_ended ∷ [])

-- R, RH without a file, RH with a file, RD, CW, ended
unfoldable pub receive_table : List (List ℕ)
receive_table = table (row_r ∷ row_rh ∷ row_second ∷ row_rd ∷ row_cw ∷ row_ended ∷ [])

-- what stands at k in a row
numbers-at : (f : ℕ → Action) (i n k : ℕ) → k < n → get_or (numbers_from f i n) k 0 ≡ action_number (f (i + k))
unfolding numbers_from
numbers-at f i zero k h = absurd (not-suc-le-zero h)
numbers-at f i (suc n) zero h = ap (λ (m : ℕ). action_number (f m)) (sym (add-zero i))
numbers-at f i (suc n) (suc k) h =
    numbers-at f (suc i) n k (le_of_suc-le-suc h) ∙ ap (λ (m : ℕ). action_number (f m)) (suc-add i k ∙ sym (add-suc i k))

-- what a row has for the number k
row_at : (f : ℕ → Action) (k : ℕ) → (kinds ≤ k → f Unreadable ≡ f k) → get_or (numbers_from f 0 kinds) (column_of k) 0 ≡ action_number (f k)
row_at f k other =
    ⊎_elim
    (λ (h : kinds ≤ k). rw (le-ltb k kinds h) (column Unreadable (omega arith) ∙ ap action_number (other h)))
    (λ (h : k < kinds). rw (lt-ltb k kinds h) (column k h))
    (le-or-lt kinds k)
  where
    column : (j : ℕ) → j < kinds → get_or (numbers_from f 0 kinds) j 0 ≡ action_number (f j)
    column j h = numbers-at f 0 kinds j h ∙ ap (λ (m : ℕ). action_number (f m)) (zero-add j)

-- a state's row of each table
send-row : (s : SenderState) → get_or send_table (sender_number s) [] ≡ numbers_from (sender_row s) 0 kinds
unfolding send_table table numbers_from sender_number sender_row
send-row (S begun timeouts) = refl
send-row SH = refl
send-row (SD n) = refl
send-row SE = refl
send-row ST = refl
send-row (CW o) = refl
send-row (Ended o) = refl

receive-row : (s : ReceiverState) → get_or receive_table (receiver_number s) [] ≡ numbers_from (receiver_row s) 0 kinds
unfolding receive_table table numbers_from receiver_number receiver_row
receive-row R = refl
receive-row (RH false) = refl
receive-row (RH true) = refl
receive-row RD = refl
receive-row (RCW o) = refl
receive-row (REnded o) = refl

-- a number that is no kind is in no row
module _ (k : ℕ) (h : kinds ≤ k) where
  no : (j : ℕ) → ltb j kinds ≡ true → eqb k j ≡ false
  no j t = ne_eqb k j (omega (arith, ltb-true))

  sender-other : (s : SenderState) → sender_row s Unreadable ≡ sender_row s k
  unfolding look sender_row row_s row_sh row_sd row_se row_st row_cw
  sender-other (S begun timeouts) = simp (no Unfinished refl, no CN refl, no RR refl, no RF refl, no NR refl, no RI refl)
  sender-other SH = simp (no Unfinished refl, no CN refl, no RF refl, no RT refl, no RE refl, no NR refl)
  sender-other (SD n) = simp (no Unfinished refl, no CN refl, no TX refl)
  sender-other SE = simp (no Unfinished refl, no CN refl, no AF refl)
  sender-other ST = simp (no Unfinished refl, no CN refl)
  sender-other (CW o) = simp (no CA refl, no CN refl)
  sender-other (Ended o) = refl

  receiver-other : (s : ReceiverState) → receiver_row s Unreadable ≡ receiver_row s k
  unfolding look receiver_row row_r row_rh row_second row_rd row_cw
  receiver-other R = simp (no Unfinished refl, no CN refl, no SI refl, no NR refl)
  receiver-other (RH false) = simp (no Unfinished refl, no CN refl, no SI refl, no ET refl, no HD refl, no BadHD refl)
  receiver-other (RH true) = simp (no Unfinished refl, no CN refl, no SI refl, no ET refl, no HD refl, no BadHD refl)
  receiver-other RD = simp (no Unfinished refl, no CN refl, no DT refl, no EF refl)
  receiver-other (RCW o) = simp (no CA refl, no CN refl)
  receiver-other (REnded o) = refl

-- the entries are what the rows give, for every number
pub send_at : (s : SenderState) (k n c : ℕ) → n ≡ sender_number s → c ≡ column_of k
    → get_or (get_or send_table n []) c 0 ≡ action_number (sender_row s k)
send_at s k n c en ec = rw (en, ec, send-row s) (row_at (sender_row s) k (λ h. sender-other k h s))

pub receive-at : (s : ReceiverState) (k n c : ℕ) → n ≡ receiver_number s → c ≡ column_of k
    → get_or (get_or receive_table n []) c 0 ≡ action_number (receiver_row s k)
receive-at s k n c en ec = rw (en, ec, receive-row s) (row_at (receiver_row s) k (λ h. receiver-other k h s))
