-- A malformed header leads to CW with its own number and place, and CW is left with nothing else; what is sent is what it was before.
-- (Change request 2026-02.) Assumes nothing.
use mathlib.Core.Path.{◌≡◌, refl, ap, ◌∙◌}
use mathlib.Core.Bool.{Bool, true, false}
use mathlib.Core.Logic.{◌⊎◌, inl, inr, ⊎_elim}
use mathlib.Core.List.{List, [], ◌∷◌}
use Prim.Native.Nat.{ℕ}
use lib.Dec.{eqb}
use Rattle.fields.specs.Pick.{pick}
use Rattle.fields.specs.declared.Fault.{Fault}
use Rattle.packets.specs.declared.Packet.TheVariants.{Malformed as MalformedHeader}
use Rattle.packets.specs.Packet.{packet_of}
use Rattle.packets.specs.Content.{Content, cn, content_of, form_of}
use Rattle.packets.specs.Kind.{CA, CN, kind_of, look}
use Rattle.packets.specs.Data.{on_header, fault_of}
use Rattle.calls.specs.declared.Outcome.{Outcome}
use Rattle.calls.specs.declared.Outcome.TheVariants.{Malformed}
use Rattle.yapp.specs.declared.ReceiverState.{ReceiverState}
use Rattle.yapp.specs.declared.ReceiverState.TheVariants.{RH, CW, Ended}
use Rattle.yapp.specs.Rows.{Action, nothing, end_cw, answers, receiver_row, row_rh, row_cw}
use Rattle.yapp.specs.Steps.{ReceiverSettings, ReceiverNow, ReceiverMove, fails, receiver_after_cw, receiver_does, receiver_takes, receiver_times_out, receiver_cancels, writes}

-- THE LAW: where a header is awaited, a malformed one leads to CW with what it carries; record and area stand
pub carried : (t : ReceiverSettings) (r : ReceiverNow) (a : List ℕ) (checked : Bool) (b : List ℕ) (f : Fault) → r.state ≡ RH false
    → packet_of checked b ≡ MalformedHeader f → receiver_takes t r a (content_of b (packet_of checked b)) ≡ fails r a (Malformed f)
unfolding receiver_takes receiver_does receiver_row row_rh look kind_of content_of on_header fault_of
carried t r a checked b f h e = rw (e, h)

-- it sends a CN without reason: 18 00
pub said : (k : Bool) → writes k (cn [] ∷ []) ≡ 0x18 ∷ 0 ∷ []
unfolding writes form_of
said k = refl

-- what a receiver in CW does with a packet of the kind k
in-cw : (k : ℕ) → (row_cw k ≡ end_cw) ⊎ ((row_cw k ≡ answers) ⊎ (row_cw k ≡ nothing))
unfolding row_cw look
in-cw k = go (eqb k CA) (eqb k CN)
  where
    go : (p q : Bool)
        → (pick p end_cw (pick q answers nothing) ≡ end_cw)
        ⊎ ((pick p end_cw (pick q answers nothing) ≡ answers) ⊎ (pick p end_cw (pick q answers nothing) ≡ nothing))
    go true q = inl refl
    go false true = inr (inl refl)
    go false false = inr (inr refl)

module _ (t : ReceiverSettings) (r : ReceiverNow) (a : List ℕ) (o : Outcome) (h : r.state ≡ CW o) where
  does : (c : Content) (x : Action) → row_cw (kind_of c) ≡ x → receiver_takes t r a c ≡ receiver_does t r a x c
  unfolding receiver_takes receiver_row
  does c x e = ap (λ (y : Action). receiver_does t r a y c) (ap (λ (st : ReceiverState). receiver_row st (kind_of c)) h ∙ e)

  -- THE LAW: a packet changes nothing of what CW was entered with: it stays, or is how the receiver ends
  pub stays : (c : Content) → ((receiver_takes t r a c).state ≡ CW o) ⊎ ((receiver_takes t r a c).state ≡ Ended o)
  unfolding receiver_does
  stays c =
      ⊎_elim (λ (e : row_cw (kind_of c) ≡ end_cw). inr (state (does c end_cw e) ∙ ap receiver_after_cw h))
      (λ (f : (row_cw (kind_of c) ≡ answers) ⊎ (row_cw (kind_of c) ≡ nothing)).
      ⊎_elim (λ (e : row_cw (kind_of c) ≡ answers). inl (state (does c answers e) ∙ h))
      (λ (e : row_cw (kind_of c) ≡ nothing). inl (state (does c nothing e) ∙ h)) f)
      (in-cw (kind_of c))
    where
      state : {m n : ReceiverMove} → m ≡ n → m.state ≡ n.state
      state e = ap (λ (m : ReceiverMove). m.state) e

  -- the timer ends it with that, the operator's stop changes nothing
  pub stays-timer : (receiver_times_out r a r.state).state ≡ Ended o
  unfolding receiver_times_out
  stays-timer = rw h

  pub stays-stop : (receiver_cancels r a r.state).state ≡ CW o
  unfolding receiver_cancels
  stays-stop = rw h
