-- The checks of a call. (Document 01: "Calls are checked 18, 20, 19, 40".)
use Rattle.calls.specs.declared.Refusal.TheVariants.{LongFrame, Over, SmallReply, WrongLength}
use Rattle.calls.specs.declared.Refusal.{Refusal}
use Rattle.std.specs.Prelude.{ℕ, Bool, true, false, ltb, eqb, Err, Ok, Result}
use Rattle.fields.specs.Pick.{pick}

-- whether the end has ended, the length of the reply buffer, the length of the frame, the lengths of what is lent and of what was given
-- at the start
unfoldable pub check_of : Bool → ℕ → ℕ → ℕ → ℕ → Result (Unit {0}) Refusal
check_of ended reply frame lent given =
    pick ended (Err Over)
    (pick (ltb reply 259) (Err SmallReply)
    (pick (ltb 256 frame) (Err LongFrame)
    (pick (eqb lent given) (Ok tt) (Err WrongLength))))

-- the same in document 01's numbers; 0 where the call is taken
unfoldable pub check_number : Bool → ℕ → ℕ → ℕ → ℕ → ℕ
check_number ended reply frame lent given =
    pick ended 18
    (pick (ltb reply 259) 20
    (pick (ltb 256 frame) 19
    (pick (eqb lent given) 0 40)))

-- whether the call is taken
abbrev pub is_taken : Result (Unit {0}) Refusal → Bool
is_taken (Ok tt) = true
is_taken (Err Over) = false
is_taken (Err LongFrame) = false
is_taken (Err SmallReply) = false
is_taken (Err WrongLength) = false

-- what a call leaves: one that is taken what it does, any other what its refusal leaves
abbrev pub unless : {A : Type 0} → Result (Unit {0}) Refusal → (Result (Unit {0}) Refusal → A) → A → A
unless (Ok tt) refused does = does
unless (Err Over) refused does = refused (Err Over)
unless (Err LongFrame) refused does = refused (Err LongFrame)
unless (Err SmallReply) refused does = refused (Err SmallReply)
unless (Err WrongLength) refused does = refused (Err WrongLength)
