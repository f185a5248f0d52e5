-- Reading packets that come in chunks: a reader holds the pending buffer, and says what packet its bytes came to. (Document 01, "Packets of
-- YAPP".)
use Rattle.std.specs.Prelude.{ℕ, List, Bool, replicate}
use Rattle.packets.specs.Packet.{packet_in}
use Rattle.packet_stream.specs.Pending.{Fed, feed}
use Rattle.packet_stream.specs.declared.Reader.{Reader}
use Rattle.packet_stream.specs.declared.Received.{Received}

-- a reader that has seen nothing: all zero
abbrev pub fresh : Bool → Reader
fresh checked = record { pending = replicate 259 0; filled = 0; checked = checked }

-- the same reader, from now on with or without checksums
abbrev pub checking : Bool → Reader → Reader
checking k r = record { pending = r.pending; filled = r.filled; checked = k }

abbrev pub received : Bool → Fed → Received
received k f = record {
  reader = record { pending = f.pending; filled = f.filled; checked = k };
  taken = f.taken;
  found = f.found;
  packet = packet_in k f.found f.pending;
}

-- what a chunk comes to
abbrev pub receive : Reader → List ℕ → Received
receive r chunk = received r.checked (feed r.checked r.pending r.filled 0 chunk)
