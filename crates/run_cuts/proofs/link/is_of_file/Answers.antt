-- `is_of_file` by its tests. Assumes nothing.
use mathlib.Core.Path.{◌≡◌}
use mathlib.Core.Bool.{true, false}
use native.Mathlib.Omega.{arith}
use lib.ListN.{length}
use Rattle.fields.specs.Lists.{part, same}
use Rattle.run_cuts.proofs.OfFile.{front, back, Bytes, other-front, other-size, by-back}
use borrow.Author.Rules.{rules}
use Rattle.run_cuts.proofs.link.is_of_file.Goals as goal

pub returns-then-read_at-file : goal.returns-then-read_at-file
returns-then-read_at-file c =
    let b = c.args.b.now in
    let h : Bytes b = search rules in
    let f : same (part 0 4 b) front ≡ true = cc in
    let r : c.same-then-read_at-file.result ≡ same (part 12 (length b) b) back = cc in
    rw r (by-back b c.args.file.now h f (omega arith) (omega arith))

pub returns-else-read_at-file : goal.returns-else-read_at-file
returns-else-read_at-file c =
    let a = c.args in
    other-size a.b.now a.file.now (omega arith)

pub returns-else-same : goal.returns-else-same
returns-else-same c =
    let a = c.args in
    let f : same (part 0 4 a.b.now) front ≡ false = cc in
    other-front a.b.now a.file.now f
