-- What a call that is taken may rely on, and what a writer has then laid into the reply buffer. Assumes nothing.
use Rattle.fields.specs.declared.WriteError.{WriteError}
use Rattle.calls.specs.declared.Refusal.{Refusal}
use Rattle.calls.specs.declared.Refusal.TheVariants.{LongFrame, Over, SmallReply, WrongLength}
use Rattle.std.specs.Prelude.{Err, Ok, Result, ℕ}
use mathlib.Core.Path.{◌≡◌, refl, ap, sym, ◌∙◌}
use mathlib.Core.Bool.{Bool, true, false}
use mathlib.Core.List.{List}
use Prim.Native.Nat.{ℕ, ◌≤◌}
use lib.ListN.{length}
use lib.Dec.{ltb, eqb}
use borrow.Author.Tests.{ltb-false, eqb-true, le-ltb, eq-eqb}
use Rattle.fields.specs.Pick.{pick}
use Rattle.fields.specs.Buffer.{Form, formless, bytes, bytes_in, over, written_of, left_of}
use Rattle.fields.proofs.Lists.{never}
use Rattle.fields.proofs.Buffer.{over_none}
use Rattle.calls.specs.Numbers.{status_number}
use Rattle.calls.specs.Checks.{check_of, check_number, is_taken, unless}
use Rattle.calls.specs.Count.{count_of}

-- the status of a call has the number that the checks give
pub check-number : (ended : Bool) (reply frame lent given : ℕ)
    → status_number (check_of ended reply frame lent given) ≡ check_number ended reply frame lent given
unfolding check_of check_number status_number
check-number ended reply frame lent given = go ended (ltb reply 259) (ltb 256 frame) (eqb lent given)
  where
    go : (e r f l : Bool)
        → status_number (pick e (Err Over) (pick r (Err SmallReply) (pick f (Err LongFrame) (pick l (Ok tt) (Err WrongLength))))) ≡ pick e 18 (pick r 20 (pick f 19 (pick l 0 40)))
    go true r f l = refl
    go false true f l = refl
    go false false true l = refl
    go false false false true = refl
    go false false false false = refl

-- so an answer that is that status has it
pub numbered : (ended : Bool) (reply frame lent given : ℕ) (s : Result (Unit {0}) Refusal) → s ≡ check_of ended reply frame lent given
    → (s ≡ check_of ended reply frame lent given) × (status_number s ≡ check_number ended reply frame lent given)
numbered ended reply frame lent given s p = (p, ap status_number p ∙ check-number ended reply frame lent given)

-- a call that is taken has room for a reply, a frame of at most 256 bytes, and the right file or area
pub taken-room : (ended : Bool) (reply frame lent given : ℕ) → is_taken (check_of ended reply frame lent given) ≡ true
    → (259 ≤ reply) × (frame ≤ 256) × (lent ≡ given)
unfolding check_of
taken-room ended reply frame lent given h = go ended refl (ltb reply 259) refl (ltb 256 frame) refl (eqb lent given) refl
  where
    go : (e : Bool) → ended ≡ e → (r : Bool) → ltb reply 259 ≡ r → (f : Bool) → ltb 256 frame ≡ f → (l : Bool) → eqb lent given ≡ l
        → (259 ≤ reply) × (frame ≤ 256) × (lent ≡ given)
    go true p r q f s l t = never (rw p at h)
    go false p true q f s l t = never (rw (p, q) at h)
    go false p false q true s l t = never (rw (p, q, s) at h)
    go false p false q false s false t = never (rw (p, q, s, t) at h)
    go false p false q false s true t = (ltb-false reply 259 q, ltb-false 256 frame s, eqb-true lent given t)

-- it is at an end that has not ended
pub taken-open : (ended : Bool) (reply frame lent given : ℕ) → is_taken (check_of ended reply frame lent given) ≡ true → ended ≡ false
unfolding check_of
taken-open true reply frame lent given h = sym h
taken-open false reply frame lent given h = refl

-- and a call with all of this is taken
pub check-taken : {ended : Bool} (reply frame lent given : ℕ) → ended ≡ false → 259 ≤ reply → frame ≤ 256 → lent ≡ given
    → check_of ended reply frame lent given ≡ (Ok tt)
unfolding check_of
check-taken reply frame lent given e r f l = rw (e, le-ltb reply 259 r, le-ltb 256 frame f, eq-eqb lent given l)

-- what a call knows that asked for its status and whether it is taken
pub taken-by : {s t : Result (Unit {0}) Refusal} {b x : Bool} → s ≡ t → b ≡ is_taken s → b ≡ x → is_taken t ≡ x
taken-by p q r = ap is_taken (sym p) ∙ sym q ∙ r

module _ {A : Type 0} (refused : Result (Unit {0}) Refusal → A) (does : A) where
  pub unless-taken : (s : Result (Unit {0}) Refusal) → is_taken s ≡ true → unless s refused does ≡ does
  unless-taken (Ok tt) h = refl
  unless-taken (Err Over) h = never h
  unless-taken (Err LongFrame) h = never h
  unless-taken (Err SmallReply) h = never h
  unless-taken (Err WrongLength) h = never h

  pub unless-refused : (s : Result (Unit {0}) Refusal) → is_taken s ≡ false → unless s refused does ≡ refused s
  unless-refused (Ok tt) h = never (sym h)
  unless-refused (Err Over) h = refl
  unless-refused (Err LongFrame) h = refl
  unless-refused (Err SmallReply) h = refl
  unless-refused (Err WrongLength) h = refl

-- a call that leaves what another leaves, put another way
pub unless-ap : {A B : Type 0} (f : A → B) (refused : Result (Unit {0}) Refusal → A) (does : A) (s : Result (Unit {0}) Refusal)
    → f (unless s refused does) ≡ unless s (λ (t : Result (Unit {0}) Refusal). f (refused t)) (f does)
unless-ap f refused does (Ok tt) = refl
unless-ap f refused does (Err Over) = refl
unless-ap f refused does (Err LongFrame) = refl
unless-ap f refused does (Err SmallReply) = refl
unless-ap f refused does (Err WrongLength) = refl

-- a writer lent a reply buffer that is long enough has laid down what its form has; what has no form is nothing
pub wrote : (f : Form) (d e : List ℕ) (w : Result ℕ WriteError) → 259 ≤ length d → (w ≡ written_of 259 f d) × (e ≡ left_of 259 f d)
    → (count_of w ≡ length (bytes_in f)) × (e ≡ over 0 (bytes_in f) d)
unfolding written_of left_of
wrote formless d e w h p = let z = le-ltb (length d) 259 h in (rw (p.0, z), p.1 ∙ rw z (sym (over_none d)))
wrote (bytes bs) d e w h p = let z = le-ltb (length d) 259 h in (rw (p.0, z), rw (p.1, z))
