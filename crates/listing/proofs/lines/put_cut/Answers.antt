-- `lines::put_cut` meets its contract: a line where bytes are left.
-- Assumes nothing.
use Rattle.std.proofs.Common.{sym, refl, arith}
use Rattle.fields.proofs.Buffer.{over_none}
use Rattle.packets.specs.Content.{content_of}
use Rattle.packets.specs.Kind.{kind_of}
use Rattle.listing.proofs.lines.Lines.{digits, cut-none, cut-some}
use Rattle.listing.proofs.lines.put_cut.Goals as goal

pub returns-then-n-eq0 : goal.returns-then-n-eq0
returns-then-n-eq0 c =
    let a = c.args in
    rw (cut-none a.offset a.n c.if-n-eq0.true) (refl, sym (over_none a.out.now))

pub put_line-requires : goal.put_line-requires
put_line-requires c = omega (arith, digits c.args.n (omega arith), c.requires)

pub returns : goal.returns
unfolding kind_of content_of
returns c = rw (cut-some c.args.offset c.args.n c.if-n-eq0.false) c.put_line.ensures
