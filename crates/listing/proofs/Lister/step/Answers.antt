-- `listing::Lister::step` meets its contract: what the reader finds, its line, and the offset behind it.
-- Assumes nothing.
use Rattle.listing.proofs.Sizes.{feed-size}
use Rattle.listing.proofs.Lister.step.Goals as goal

pub put_found-written-requires : goal.put_found-written-requires
put_found-written-requires c =
    let r = c.args.self.reader in
    rw c.receive-got.ensures (feed-size r.checked r.pending r.filled 0 c.args.chunk.now)

pub returns : goal.returns
returns c = rw (c.size_of.ensures, c.put_found-written.ensures.0, c.put_found-written.ensures.1, c.receive-got.ensures)
