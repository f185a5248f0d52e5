-- What a caller knows of a step and of the end: a step takes bytes of the chunk, and what is written is within the buffer.
-- Assumes nothing.
use Rattle.std.proofs.Common.{ℕ, ◌<◌, ◌≤◌, List, length, arith, length-append, length-drop}
use Rattle.fields.specs.Buffer.{over}
use Rattle.packet_stream.proofs.Feeding.{feed-some}
use Rattle.listing.specs.declared.Lister.{Lister}
use Rattle.listing.specs.Lister.{Stepped, step}

pub within : (bs d : List ℕ) → length bs ≤ length (over 0 bs d)
unfolding over
within bs d = simp (length-append, length-drop) (omega arith)

-- at least one byte of the chunk s is taken, and no more than it has
pub record Progress (s : List ℕ) (x : Stepped) : Type 0 where
  pub least : 0 < x.listed.taken
  pub most : x.listed.taken ≤ length s
  pub fits : x.listed.written ≤ length x.out

pub progress : (l : Lister) (s d : List ℕ) → 0 < length s → Progress s (step l s d)
progress l s d h =
    let r = l.reader in
    let w = feed-some r.checked r.pending r.filled 0 s h in
    record { least = omega (arith, w.least); most = omega (arith, w.most); fits = within _ d }
