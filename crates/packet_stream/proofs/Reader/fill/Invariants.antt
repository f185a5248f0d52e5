-- `Reader::fill` meets its contract. The loop's invariant: what feeding the whole chunk gives from the start is what feeding the rest gives
-- from here.
-- Assumes nothing.
use mathlib.Core.Path.{◌≡◌}
use lib.ListN.{drop}
use Rattle.packet_stream.specs.Pending.{feed}
use Rattle.packet_stream.proofs.Reader.fill.Given as goal

abbrev pub invariant-loop-i : goal.invariant-loop-i
invariant-loop-i l = record {
  mode : l.self.checked ≡ l.initial.self.checked;
  fed : feed l.initial.self.checked l.initial.self.pending l.initial.self.filled 0 l.chunk ≡ feed l.checked l.self.pending l.n l.i (drop l.i l.chunk);
}
