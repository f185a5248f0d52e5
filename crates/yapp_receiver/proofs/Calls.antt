-- What the calls leave, from what a step leaves; the beginnings. Assumes nothing.
use Rattle.calls.specs.declared.Refusal.{Refusal}
use Rattle.std.specs.Prelude.{Result}
use mathlib.Core.Path.{◌≡◌, refl, ap, sym, ◌∙◌}
use mathlib.Core.Bool.{true, false}
use mathlib.Core.List.{List, []}
use Prim.Native.Nat.{ℕ}
use lib.ListN.{replicate}
use Rattle.fields.specs.Buffer.{over, appended}
use Rattle.packets.specs.Content.{content_of}
use Rattle.packet_stream.specs.declared.Received.{Received}
use Rattle.packet_stream.specs.Reader.{receive as reads}
use Rattle.calls.specs.Checks.{is_taken}
use Rattle.calls.proofs.Laws.{unless-taken, unless-refused}
use Rattle.yapp.specs.Steps.{ReceiverMove, receiver_takes}
use Rattle.yapp_receiver.specs.declared.step.Step.{Step}
use Rattle.yapp_receiver.specs.declared.Receiver.{Receiver}
use Rattle.yapp_receiver.specs.Step.{reached, reached_by}
use Rattle.yapp_receiver.specs.Receiver.{ReceiverAfter, settings_of, now_of, refused_call, replied, arrived, status_of, unless_refused, receive}

-- whether a call is taken
module _ (m : Receiver) (area reply : List ℕ) where
  pub receive-taken : (chunk : List ℕ) (g : Received) (s : Step) (a : List ℕ) (x : ReceiverAfter)
      → is_taken (status_of m area reply) ≡ true
      → g ≡ reads m.reader chunk
      → reached m.name (receiver_takes (settings_of m) (now_of m) area (content_of g.reader.pending g.packet)) ≡ reached_by g.reader.pending m.name s a
      → ((v : ReceiverMove) → reached m.name v ≡ reached_by g.reader.pending m.name s a → replied m g.reader g.taken v reply ≡ x)
      → receive m chunk area reply ≡ x
  unfolding receive
  receive-taken chunk g s a x h f q z =
      unless-taken (λ (y : Result (Unit {0}) Refusal). refused_call m y area reply) (arrived m (reads m.reader chunk) area reply) (status_of m area reply) h
      ∙ ap (λ (y : Received). arrived m y area reply) (sym f)
      ∙ z (receiver_takes (settings_of m) (now_of m) area (content_of g.reader.pending g.packet)) q

  pub receive-refused : (chunk : List ℕ) → is_taken (status_of m area reply) ≡ false
      → receive m chunk area reply ≡ refused_call m (status_of m area reply) area reply
  unfolding receive
  receive-refused chunk h =
      unless-refused (λ (y : Result (Unit {0}) Refusal). refused_call m y area reply) (arrived m (reads m.reader chunk) area reply) (status_of m area reply) h

  -- an event, with which no bytes come
  pub event-taken : (v : ReceiverMove) → is_taken (status_of m area reply) ≡ true
      → unless_refused (status_of m area reply) m area reply (replied m m.reader 0 v reply) ≡ replied m m.reader 0 v reply
  event-taken v h = unless-taken (λ (y : Result (Unit {0}) Refusal). refused_call m y area reply) (replied m m.reader 0 v reply) (status_of m area reply) h

  pub event-refused : (v : ReceiverMove) → is_taken (status_of m area reply) ≡ false
      → unless_refused (status_of m area reply) m area reply (replied m m.reader 0 v reply) ≡ refused_call m (status_of m area reply) area reply
  event-refused v h =
      unless-refused (λ (y : Result (Unit {0}) Refusal). refused_call m y area reply) (replied m m.reader 0 v reply) (status_of m area reply) h

-- ---- the beginnings

pub no_name : appended 0 [] (replicate 64 0) ≡ replicate 64 0
unfolding appended over
no_name = refl
