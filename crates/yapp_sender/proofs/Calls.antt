-- What the calls leave, from what a step leaves. Assumes nothing.
use Rattle.calls.specs.declared.Refusal.{Refusal}
use Rattle.std.specs.Prelude.{Result}
use mathlib.Core.Path.{◌≡◌, ap, sym, ◌∙◌}
use mathlib.Core.Bool.{true, false}
use mathlib.Core.List.{List}
use Prim.Native.Nat.{ℕ}
use Rattle.fields.specs.Lists.{nowhere}
use Rattle.fields.specs.declared.Place.{Place}
use Rattle.packet_stream.specs.declared.Received.{Received}
use Rattle.packet_stream.specs.Reader.{receive as reads}
use Rattle.calls.specs.Checks.{is_taken}
use Rattle.calls.proofs.Laws.{unless-taken, unless-refused}
use Rattle.yapp.specs.Steps.{SenderMove, sender_takes}
use Rattle.yapp_sender.specs.declared.Sender.{Sender}
use Rattle.yapp_sender.specs.Sender.{SenderAfter, settings_of, refused_call, replied, status_of, heard, shown_in, arrived, receive, unless_refused}

module _ (m : Sender) (file reply : List ℕ) where
  -- the code read g, made of it the place p and the move w, and left x
  pub receive-taken : (chunk : List ℕ) (g : Received) (p : Place) (w : SenderMove) (x : SenderAfter)
      → is_taken (status_of m file reply) ≡ true
      → g ≡ reads m.reader chunk
      → p ≡ shown_in m.core.state (heard g) g
      → w ≡ sender_takes (settings_of m) m.core.state m.reader.checked (heard g)
      → replied m g.reader g.taken p w reply ≡ x
      → receive m chunk file reply ≡ x
  unfolding receive
  receive-taken chunk g p w x h f q v z =
      unless-taken (λ (y : Result (Unit {0}) Refusal). refused_call m y reply) (arrived m (reads m.reader chunk) reply) (status_of m file reply) h
      ∙ ap (λ (y : Received). arrived m y reply) (sym f)
      ∙ ap (λ (y : SenderMove). replied m g.reader g.taken (shown_in m.core.state (heard g) g) y reply) (sym v)
      ∙ ap (λ (y : Place). replied m g.reader g.taken y w reply) (sym q)
      ∙ z

  pub receive-refused : (chunk : List ℕ) → is_taken (status_of m file reply) ≡ false
      → receive m chunk file reply ≡ refused_call m (status_of m file reply) reply
  unfolding receive
  receive-refused chunk h =
      unless-refused (λ (y : Result (Unit {0}) Refusal). refused_call m y reply) (arrived m (reads m.reader chunk) reply) (status_of m file reply) h

  -- an event, with which no bytes come
  pub event-taken : (w : SenderMove) → is_taken (status_of m file reply) ≡ true
      → unless_refused (status_of m file reply) m reply (replied m m.reader 0 nowhere w reply) ≡ replied m m.reader 0 nowhere w reply
  event-taken w h = unless-taken (λ (y : Result (Unit {0}) Refusal). refused_call m y reply) (replied m m.reader 0 nowhere w reply) (status_of m file reply) h

  pub event-refused : (w : SenderMove) → is_taken (status_of m file reply) ≡ false
      → unless_refused (status_of m file reply) m reply (replied m m.reader 0 nowhere w reply) ≡ refused_call m (status_of m file reply) reply
  event-refused w h = unless-refused (λ (y : Result (Unit {0}) Refusal). refused_call m y reply) (replied m m.reader 0 nowhere w reply) (status_of m file reply) h
