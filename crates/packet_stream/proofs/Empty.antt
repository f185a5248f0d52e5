-- An empty chunk.
-- Assumes nothing.
use mathlib.Core.Path.{◌≡◌, refl}
use mathlib.Core.List.{[]}
use Rattle.packets.specs.declared.spans.Span.TheVariants.{Open}
use Rattle.packets.specs.declared.Packet.TheVariants.{Open as Unfinished}
use Rattle.packet_stream.specs.Pending.{feed}
use Rattle.packet_stream.specs.declared.Reader.{Reader}
use Rattle.packet_stream.specs.Reader.{receive}

-- A call with an empty chunk changes nothing.
pub empty : (r : Reader) → receive r [] ≡ record { reader = r; taken = 0; found = Open; packet = Unfinished }
unfolding feed
empty r = refl
