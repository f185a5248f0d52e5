-- Reading packets that come in chunks: the pending buffer (document 01's waiting room, 259 bytes) is filled byte by byte until a packet
-- is whole. (Document 01, "Packets of YAPP": one call takes at most to the end of one packet and reports how many bytes it took.)
use Rattle.std.specs.Prelude.{ℕ, ◌+◌, List, [], ◌∷◌, Bool, take, set, ltb}
use Rattle.fields.specs.Pick.{pick}
use Rattle.packets.specs.declared.spans.Span.{Span}
use Rattle.packets.specs.declared.spans.Span.TheVariants.{Open, Whole, Drop}
use Rattle.packets.specs.Span.{span}

-- the pending buffer, how many bytes of it wait, how many bytes of the chunk were taken, and what they came to
pub record Fed : Type 0 where
  pub pending : List ℕ
  pub filled : ℕ
  pub taken : ℕ
  pub found : Span

-- where the next byte goes. A count past the buffer, which no reader has, counts as none
unfoldable pub slot : ℕ → ℕ
slot n = pick (ltb n 259) n 0

-- after a byte: go on; or stop with a packet or a drop, whose bytes are the first of the buffer, and none waits any more
abbrev pub after : Span → List ℕ → ℕ → Fed → Fed
after Open a i more = more
after (Whole w) a i more = record { pending = a; filled = 0; taken = i; found = Whole w }
after (Drop w) a i more = record { pending = a; filled = 0; taken = i; found = Drop w }

-- n bytes wait in the buffer a, i bytes of the chunk were taken, and these are left
unfoldable pub feed : Bool → List ℕ → ℕ → ℕ → List ℕ → Fed
feed k a n i [] = record { pending = a; filled = n; taken = i; found = Open }
feed k a n i (x ∷ xs) =
    after (span k (take (slot n + 1) (set a (slot n) x))) (set a (slot n) x) (i + 1)
    (feed k (set a (slot n) x) (slot n + 1) (i + 1) xs)
