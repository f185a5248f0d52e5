-- What a packet does by the number of its action in the table. Assumes nothing.
use mathlib.Core.Path.{◌≡◌, refl, sym, ap, ◌∙◌}
use mathlib.Core.Bool.{Bool}
use mathlib.Core.List.{List, []}
use Prim.Native.Nat.{ℕ}
use Rattle.packets.specs.Content.{content_of}
use Rattle.packets.specs.Kind.{kind_of}
use Rattle.packets.specs.declared.Packet.{Packet}
use Rattle.packets.proofs.KindLaws.{kind-same}
use Rattle.yapp.specs.declared.SenderState.{SenderState}
use Rattle.yapp.specs.Rows.{Action, nothing, abort, refused, cancelled, success, end_cw, answers, send_header, start, start_checked, resume, send_trailer, ready, trailer, judge, second, store, eof, sender_row}
use Rattle.yapp.specs.Table.{action_number}
use Rattle.yapp.specs.Steps.{SenderSettings, sends, sender_does, sender_takes}
use Rattle.yapp.proofs.Actions.{action-same}

-- n is the number that the table has for the packet, which is of the kind
module _ (st : SenderState) (kind n : ℕ) (packet : Packet) (is : kind ≡ kind_of (content_of [] packet)) (told : n ≡ action_number (sender_row st kind)) (s : SenderSettings) (k : Bool) (bytes : List ℕ) where
  same_row : sender_row st kind ≡ sender_row st (kind_of (content_of bytes packet))
  same_row = ap (sender_row st) (is ∙ sym (kind-same bytes packet))

  pub takes-by : (a : Action) → n ≡ action_number a → sender_does s st k a (content_of bytes packet) ≡ sender_takes s st k (content_of bytes packet)
  unfolding sender_takes
  takes-by a e =
      ap (λ (x : Action). sender_does s st k x (content_of bytes packet)) (action-same a (sender_row st kind) (sym e ∙ told) ∙ same_row)

  -- the actions of a receiver, and nothing
  idle : (a : Action) → (action_number a ≡ 1 → ⊥) → (action_number a ≡ 2 → ⊥) → (action_number a ≡ 3 → ⊥) → (action_number a ≡ 4 → ⊥)
      → (action_number a ≡ 5 → ⊥) → (action_number a ≡ 6 → ⊥) → (action_number a ≡ 7 → ⊥) → (action_number a ≡ 8 → ⊥) → (action_number a ≡ 9 → ⊥)
      → (action_number a ≡ 10 → ⊥) → (action_number a ≡ 11 → ⊥)
      → sends st k [] ≡ sender_does s st k a (content_of bytes packet)
  unfolding sender_does action_number
  idle nothing h1 h2 h3 h4 h5 h6 h7 h8 h9 h10 h11 = refl
  idle abort h1 h2 h3 h4 h5 h6 h7 h8 h9 h10 h11 = absurd (h1 refl)
  idle refused h1 h2 h3 h4 h5 h6 h7 h8 h9 h10 h11 = absurd (h2 refl)
  idle cancelled h1 h2 h3 h4 h5 h6 h7 h8 h9 h10 h11 = absurd (h3 refl)
  idle success h1 h2 h3 h4 h5 h6 h7 h8 h9 h10 h11 = absurd (h4 refl)
  idle end_cw h1 h2 h3 h4 h5 h6 h7 h8 h9 h10 h11 = absurd (h5 refl)
  idle answers h1 h2 h3 h4 h5 h6 h7 h8 h9 h10 h11 = absurd (h6 refl)
  idle send_header h1 h2 h3 h4 h5 h6 h7 h8 h9 h10 h11 = absurd (h7 refl)
  idle start h1 h2 h3 h4 h5 h6 h7 h8 h9 h10 h11 = absurd (h8 refl)
  idle start_checked h1 h2 h3 h4 h5 h6 h7 h8 h9 h10 h11 = absurd (h9 refl)
  idle resume h1 h2 h3 h4 h5 h6 h7 h8 h9 h10 h11 = absurd (h10 refl)
  idle send_trailer h1 h2 h3 h4 h5 h6 h7 h8 h9 h10 h11 = absurd (h11 refl)
  idle ready h1 h2 h3 h4 h5 h6 h7 h8 h9 h10 h11 = refl
  idle trailer h1 h2 h3 h4 h5 h6 h7 h8 h9 h10 h11 = refl
  idle judge h1 h2 h3 h4 h5 h6 h7 h8 h9 h10 h11 = refl
  idle second h1 h2 h3 h4 h5 h6 h7 h8 h9 h10 h11 = refl
  idle store h1 h2 h3 h4 h5 h6 h7 h8 h9 h10 h11 = refl
  idle eof h1 h2 h3 h4 h5 h6 h7 h8 h9 h10 h11 = refl

  pub takes_none : (n ≡ 1 → ⊥) → (n ≡ 2 → ⊥) → (n ≡ 3 → ⊥) → (n ≡ 4 → ⊥) → (n ≡ 5 → ⊥) → (n ≡ 6 → ⊥) → (n ≡ 7 → ⊥) → (n ≡ 8 → ⊥) → (n ≡ 9 → ⊥) → (n ≡ 10 → ⊥) → (n ≡ 11 → ⊥)
      → sends st k [] ≡ sender_takes s st k (content_of bytes packet)
  takes_none h1 h2 h3 h4 h5 h6 h7 h8 h9 h10 h11 =
      idle (sender_row st kind) (λ e. h1 (told ∙ e)) (λ e. h2 (told ∙ e)) (λ e. h3 (told ∙ e)) (λ e. h4 (told ∙ e)) (λ e. h5 (told ∙ e)) (λ e. h6 (told ∙ e)) (λ e. h7 (told ∙ e)) (λ e. h8 (told ∙ e)) (λ e. h9 (told ∙ e)) (λ e. h10 (told ∙ e)) (λ e. h11 (told ∙ e))
      ∙ takes-by (sender_row st kind) told
