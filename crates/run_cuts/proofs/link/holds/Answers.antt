-- `holds` by what it calls. Assumes nothing.
use mathlib.Core.Path.{ap, ◌∙◌}
use lib.ListN.{length}
use native.Mathlib.Omega.{arith}
use borrow.Author.Tests.{le-leb, lt-leb}
use mathlib.Core.List.{List}
use Prim.Native.Nat.{ℕ}
use Rattle.fields.specs.Lists.{same}
use Rattle.fields.specs.Buffer.{placed}
use Rattle.run_cuts.specs.Link.{holds, untouched}
use Rattle.run_cuts.proofs.link.holds.Goals as goal

pub returns-then-file-count : goal.returns-then-file-count
unfolding holds
returns-then-file-count c = rw (lt-leb c.args.count (length c.args.file.now) c.if-file-count.true)

pub returns : goal.returns
unfolding holds
returns c =
    let a = c.args in
    rw (le-leb a.count (length a.file.now) (omega arith))
    (c.same.ensures
    ∙ ap (λ (w : List ℕ). same a.area w)
    (c.append_bytes.ensures.1
    ∙ ap (λ (p : List ℕ). placed p untouched) c.part.ensures))
