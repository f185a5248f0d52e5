-- The record that has grown, as the struct holds it. Assumes nothing.
use Rattle.calls.specs.declared.Entry.{Entry}
use Rattle.std.specs.Prelude.{None, Option, Some}
use mathlib.Core.Path.{◌≡◌, refl}
use mathlib.Core.List.{List}
use Prim.Native.Nat.{ℕ, ◌+◌}
use Rattle.fields.specs.Buffer.{appended}
use Rattle.calls.specs.Saving.{saved_by, keeping_of, held_of, kept_of, grown, name_of}
use Rattle.calls.proofs.Names.{keep-none, keep-front}
use Rattle.yapp_receiver.specs.Step.{kept_at}

module _ (name : List ℕ) where
  pub grown_kept : (k : Option Entry) (n : ℕ) → keeping_of (grown (saved_by k name) n) ≡ kept_at (held_of k name) (kept_of (saved_by k name) + n)
  grown_kept None n = refl
  grown_kept (Some e) n = refl

  pub grown_name : (k : Option Entry) (n : ℕ) → appended 0 (name_of (grown (saved_by k name) n)) name ≡ name
  grown_name None n = keep-none name
  grown_name (Some e) n = keep-front e.named name
