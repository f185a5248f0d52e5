-- What one packet is as bytes. Assumes nothing.
use mathlib.Core.Path.{◌≡◌, sym}
use mathlib.Core.Bool.{Bool}
use mathlib.Core.List.{[], ◌∷◌, append-nil}
use Rattle.packets.specs.Content.{Content, form_of}
use Rattle.yapp.specs.Steps.{bytes_in, writes}

pub one : (checked : Bool) (c : Content) → bytes_in (form_of checked c) ≡ writes checked (c ∷ [])
unfolding writes
one checked c = sym (append-nil _)
