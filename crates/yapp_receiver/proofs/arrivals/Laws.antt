-- What a packet does by the number of its action in the table. Assumes nothing.
use mathlib.Core.Path.{◌≡◌, refl, ap, sym, ◌∙◌}
use mathlib.Core.List.{List, []}
use Prim.Native.Nat.{ℕ}
use Rattle.packets.specs.Content.{content_of}
use Rattle.packets.specs.Kind.{kind_of}
use Rattle.packets.specs.declared.Packet.{Packet}
use Rattle.packets.proofs.KindLaws.{kind-same}
use Rattle.yapp.specs.Rows.{Action, nothing, abort, refused, cancelled, success, end_cw, answers, send_header, start, start_checked, resume, send_trailer, ready, trailer, judge, second, store, eof, receiver_row}
use Rattle.yapp.specs.Table.{action_number}
use Rattle.yapp.specs.Steps.{goes, receiver_does, receiver_takes}
use Rattle.yapp.proofs.Actions.{action-same}
use Rattle.yapp_receiver.specs.declared.Receiver.{Receiver}
use Rattle.yapp_receiver.specs.Receiver.{settings_of, now_of}

-- number is what the table has for the packet, which is of the kind
module _ (m : Receiver) (a s : List ℕ) (p : Packet) (kind : ℕ) (k : kind ≡ kind_of (content_of [] p))
    (number : ℕ) (e : number ≡ action_number (receiver_row m.core.state kind)) where
  same_row : receiver_row m.core.state (kind_of (content_of s p)) ≡ receiver_row m.core.state kind
  same_row = ap (receiver_row m.core.state) (kind-same s p ∙ sym k)

  pub takes-by : (x : Action) → number ≡ action_number x
      → receiver_takes (settings_of m) (now_of m) a (content_of s p) ≡ receiver_does (settings_of m) (now_of m) a x (content_of s p)
  unfolding receiver_takes
  takes-by x g =
      ap (λ (y : Action). receiver_does (settings_of m) (now_of m) a y (content_of s p))
      (same_row ∙ action-same (receiver_row m.core.state kind) x (sym e ∙ g))

  -- the actions of a sender, and nothing
  idle : (x : Action) → (action_number x ≡ 1 → ⊥) → (action_number x ≡ 2 → ⊥) → (action_number x ≡ 3 → ⊥) → (action_number x ≡ 5 → ⊥) → (action_number x ≡ 6 → ⊥) → (action_number x ≡ 12 → ⊥)
      → (action_number x ≡ 13 → ⊥) → (action_number x ≡ 14 → ⊥) → (action_number x ≡ 15 → ⊥) → (action_number x ≡ 16 → ⊥) → (action_number x ≡ 17 → ⊥)
      → receiver_does (settings_of m) (now_of m) a x (content_of s p) ≡ goes (now_of m) a m.core.state []
  unfolding receiver_does action_number
  idle nothing h1 h2 h3 h5 h6 h12 h13 h14 h15 h16 h17 = refl
  idle abort h1 h2 h3 h5 h6 h12 h13 h14 h15 h16 h17 = absurd (h1 refl)
  idle refused h1 h2 h3 h5 h6 h12 h13 h14 h15 h16 h17 = absurd (h2 refl)
  idle cancelled h1 h2 h3 h5 h6 h12 h13 h14 h15 h16 h17 = absurd (h3 refl)
  idle success h1 h2 h3 h5 h6 h12 h13 h14 h15 h16 h17 = refl
  idle end_cw h1 h2 h3 h5 h6 h12 h13 h14 h15 h16 h17 = absurd (h5 refl)
  idle answers h1 h2 h3 h5 h6 h12 h13 h14 h15 h16 h17 = absurd (h6 refl)
  idle send_header h1 h2 h3 h5 h6 h12 h13 h14 h15 h16 h17 = refl
  idle start h1 h2 h3 h5 h6 h12 h13 h14 h15 h16 h17 = refl
  idle start_checked h1 h2 h3 h5 h6 h12 h13 h14 h15 h16 h17 = refl
  idle resume h1 h2 h3 h5 h6 h12 h13 h14 h15 h16 h17 = refl
  idle send_trailer h1 h2 h3 h5 h6 h12 h13 h14 h15 h16 h17 = refl
  idle ready h1 h2 h3 h5 h6 h12 h13 h14 h15 h16 h17 = absurd (h12 refl)
  idle trailer h1 h2 h3 h5 h6 h12 h13 h14 h15 h16 h17 = absurd (h13 refl)
  idle judge h1 h2 h3 h5 h6 h12 h13 h14 h15 h16 h17 = absurd (h14 refl)
  idle second h1 h2 h3 h5 h6 h12 h13 h14 h15 h16 h17 = absurd (h15 refl)
  idle store h1 h2 h3 h5 h6 h12 h13 h14 h15 h16 h17 = absurd (h16 refl)
  idle eof h1 h2 h3 h5 h6 h12 h13 h14 h15 h16 h17 = absurd (h17 refl)

  pub takes_none : (number ≡ 1 → ⊥) → (number ≡ 2 → ⊥) → (number ≡ 3 → ⊥) → (number ≡ 5 → ⊥) → (number ≡ 6 → ⊥) → (number ≡ 12 → ⊥)
      → (number ≡ 13 → ⊥) → (number ≡ 14 → ⊥) → (number ≡ 15 → ⊥) → (number ≡ 16 → ⊥) → (number ≡ 17 → ⊥)
      → receiver_takes (settings_of m) (now_of m) a (content_of s p) ≡ goes (now_of m) a m.core.state []
  takes_none h1 h2 h3 h5 h6 h12 h13 h14 h15 h16 h17 =
      takes-by (receiver_row m.core.state kind) e
      ∙ idle (receiver_row m.core.state kind) (λ g. h1 (e ∙ g)) (λ g. h2 (e ∙ g)) (λ g. h3 (e ∙ g)) (λ g. h5 (e ∙ g)) (λ g. h6 (e ∙ g)) (λ g. h12 (e ∙ g)) (λ g. h13 (e ∙ g)) (λ g. h14 (e ∙ g)) (λ g. h15 (e ∙ g)) (λ g. h16 (e ∙ g)) (λ g. h17 (e ∙ g))
