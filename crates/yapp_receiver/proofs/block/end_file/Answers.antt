-- A file that ends early. Assumes nothing.
use mathlib.Core.Path.{sym, ◌∙◌}
use borrow.Author.Tests.{ne_eqb}
use Rattle.yapp.specs.Steps.{ends_file}
use Rattle.yapp_receiver.proofs.block.end_file.Goals as goal

pub returns : goal.returns
unfolding ends_file
returns c a p =
    let m = c.args.receiver.now in
    let e = c.counts-kept.ensures m.name in
    rw (ne_eqb _ _ (λ h. c.if-kept-size.false (e.0 ∙ h ∙ sym e.1))) (c.fail.ensures a p)
