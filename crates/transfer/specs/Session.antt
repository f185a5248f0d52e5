-- A session is a number of turns of the program's link. Where every write of its transcript succeeds, that number is settled: it is the first
-- at which the session is over, or the most. Where one fails, the session ends there, behind a number of turns that is left open.
use Rattle.std.specs.Prelude.{ℕ, zero, suc, ◌≤◌, ◌<◌, ◌≡◌, Bool, true, false, ◌⊎◌, ◌||◌, List, take, Result, MatchResult}
use Rattle.transfer.specs.Link.{after, with_answer, passed}
use Rattle.transfer.specs.declared.link.Link.{Link}
use Rattle.transfer.specs.declared.link.Saved.{Saved}

-- ---- a turn

-- what a call of a sender leaves: both ends, and what it sent, the first `count` bytes
pub record Sent (E : Type 0) : Type 0 where
  pub ends : E
  pub count : ℕ
  pub bytes : List ℕ

-- the same of a receiver, and every byte of the area
pub record Taken (E : Type 0) : Type 0 where
  pub ends : E
  pub count : ℕ
  pub bytes : List ℕ
  pub area : List ℕ

-- what a protocol's sender does that was answered so many bytes, of which some came, and has this file
abbrev pub Sends : Type 0 → Type 0
Sends E = E → ℕ → List ℕ → List ℕ → Sent E

-- what its receiver does with what came, and with this area
abbrev pub Takes : Type 0 → Type 0
Takes E = E → List ℕ → List ℕ → Taken E

-- what is saved of its ends, with this area
abbrev pub Saves : Type 0 → Type 0
Saves E = E → List ℕ → Saved

-- what stands between two turns: both ends, the link, and every byte of the area
pub record Standing (E : Type 0) : Type 0 where
  pub ends : E
  pub link : Link
  pub area : List ℕ

-- behind what the receiver did, over a link that so many bytes were sent over
abbrev pub standing : {E : Type 0} → Link → Taken E → Standing E
standing l t = record { ends = t.ends; link = with_answer l t.count t.bytes; area = t.area }

-- what the sender sent goes over the link to the receiver
unfoldable pub carried : {E : Type 0} → Takes E → Link → List ℕ → Sent E → Standing E
carried takes l area s = standing (after l s.count) (takes s.ends (passed l (take s.count s.bytes)) area)

-- the receiver's last answer goes over the link to the sender, and what that sends to the receiver
unfoldable pub turn : {E : Type 0} → Sends E → Takes E → List ℕ → Standing E → Standing E
turn sends takes file st =
    carried takes (after st.link st.link.answered) st.area
    (sends st.ends st.link.answered (passed st.link (take st.link.answered st.link.back)) file)

-- the link is broken, or both ends have ended
abbrev pub is_over : {E : Type 0} → (E → Bool) → Standing E → Bool
is_over ended st = st.link.broken || ended st.ends

abbrev pub saved_at : {E : Type 0} → Saves E → Standing E → Saved
saved_at saves st = saves st.ends st.area

-- ---- a session

-- what stands after so many turns
unfoldable pub turns : {A : Type 0} → (A → A) → ℕ → A → A
turns turn zero start = start
turns turn (suc n) start = turn (turns turn n start)

-- how many turns a session has at the most
abbrev pub most_turns : ℕ
most_turns = 200_000_000

-- why a session has stopped: it is over, or it had all its turns
abbrev pub Why : Bool → ℕ → Type 0
Why over count = (over ≡ true) ⊎ (count ≡ most_turns)

-- the session from start stands at `last` after so many turns, and was not over before any of them
pub record Reached {A : Type 0} (turn : A → A) (is_over : A → Bool) (start : A) (count : ℕ) (last : A) : Type 0 where
  pub bounded : count ≤ most_turns
  pub reached : turns turn count start ≡ last
  pub going : (k : ℕ) → k < count → is_over (turns turn k start) ≡ false

-- the session from start has stopped where `last` says
pub record Stopped {A : Type 0} (turn : A → A) (is_over : A → Bool) (start : A) (last : A) : Type 0 where
  pub count : ℕ
  pub after : Reached turn is_over start count last
  pub why : Why (is_over last) count

-- every write succeeded: what is saved and the area are those of where the session stopped
pub record Ended {E : Type 0} (turn : Standing E → Standing E) (is_over : Standing E → Bool) (saved_at : Standing E → Saved) (start : Standing E)
    (saved : Saved) (kept : List ℕ) : Type 0 where
  pub last : Standing E
  pub stopped : Stopped turn is_over start last
  pub saves : saved ≡ saved_at last
  pub keeps : kept ≡ last.area

-- a write failed: the area is what stands after some number of turns
pub record CutOff {E : Type 0} (turn : Standing E → Standing E) (is_over : Standing E → Bool) (start : Standing E) (kept : List ℕ) : Type 0 where
  pub count : ℕ
  pub last : Standing E
  pub after : Reached turn is_over start count last
  pub keeps : kept ≡ last.area

-- what a session promises of its answer and of what it leaves in the area
abbrev pub Answered : {E F : Type 0} → (Standing E → Standing E) → (Standing E → Bool) → (Standing E → Saved) → Standing E → Result Saved F → List ℕ → Type 0
Answered turn is_over saved_at start result kept =
    MatchResult result (λ saved. Ended turn is_over saved_at start saved kept) (λ e. CutOff turn is_over start kept)
