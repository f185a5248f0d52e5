-- `put_no` writes a `#NO#` and counts its bytes. Assumes nothing.
use Rattle.lines.specs.Element.{form_of}
use Rattle.bin_receiver.proofs.output.Words.{laid}
use Rattle.bin_receiver.proofs.output.put_no.Goals as goal

pub returns : goal.returns
unfolding form_of
returns c = laid _ _ _ _ _ c.requires c.write_no.ensures c.count.ensures
