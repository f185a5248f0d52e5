-- Facts about a call that both protocols use. Assumes nothing.
use Rattle.calls.specs.declared.Refusal.TheVariants.{LongFrame, Over, SmallReply, WrongLength}
use Rattle.calls.specs.declared.Refusal.{Refusal}
use Rattle.std.specs.Prelude.{Err, Ok, Result, None, Option, Some}
use Prim.Native.Nat.{ℕ, zero, suc, ◌+◌}
use mathlib.Core.Path.{◌≡◌, refl, ap}
use mathlib.Core.Bool.{false}
use mathlib.Core.List.{List, [], ◌∷◌}
use lib.ListN.{length, take, drop}
use lib.Seq.{take-append_seam}
use Rattle.fields.specs.Buffer.{over}
use Rattle.calls.specs.Checks.{is_taken}
use Rattle.transfers.specs.World.{lent_or, ours, Fair, own, refused}

-- what is sent stands at the front of the reply buffer
pub sent_is : (bs d : List ℕ) → take (length bs) (over 0 bs d) ≡ bs
unfolding over
sent_is bs d = take-append_seam bs (drop (0 + length bs) d)

-- a block is as many bytes as it has
pub take-of-take : (n : ℕ) (l : List ℕ) → take n l ≡ take (length (take n l)) l
take-of-take zero l = refl
take-of-take (suc n) [] = refl
take-of-take (suc n) (x ∷ l) = ap (λ (r : List ℕ). x ∷ r) (take-of-take n l)

-- an area that comes back as it was lent leaves ours as it was
pub lent_back : (area : List ℕ) (lent : Option (List ℕ)) → ours area (lent_or area lent) lent ≡ area
lent_back area None = refl
lent_back area (Some l) = refl

-- a call is refused or taken
pub by-check : {P : Type 0} (x : Result (Unit {0}) Refusal) → (is_taken x ≡ false → P) → (x ≡ (Ok tt) → P) → P
by-check (Ok tt) r h = h refl
by-check (Err Over) r h = r refl
by-check (Err LongFrame) r h = r refl
by-check (Err SmallReply) r h = r refl
by-check (Err WrongLength) r h = r refl

-- a call that is fairly made is refused, or gets its own file or area and what is on the way
pub by-fair : (P : Option (List ℕ) → Option (List ℕ) → Type 0) {lent handed : Option (List ℕ)} {x : Result (Unit {0}) Refusal} → Fair lent handed x
    → (is_taken x ≡ false → P lent handed) → P None None → P lent handed
by-fair P own r h = h
by-fair P (refused e) r h = r e
