-- `read_at` by what it calls: four bytes are read. Assumes nothing.
use mathlib.Core.Path.{sym, ◌∙◌}
use native.Mathlib.Omega.{arith}
use Rattle.records.proofs.Laws.{number_is, number-some}
use Rattle.run_cuts.proofs.link.read_at.Goals as goal

pub returns-in-Some : goal.returns-in-Some
returns-in-Some c =
    let a = c.args in (
      number_is a.at 4 a.b.now _
          (rw (← c.part.ensures) (sym c.read_little.ensures ∙ c.in-Some.is)),
      omega arith,
    )

pub returns-in-None : goal.returns-in-None
returns-in-None c =
    let a = c.args in
    absurd (number-some a.at 4 a.b.now (omega arith)
    (rw (← c.part.ensures) (sym c.read_little.ensures ∙ c.in-None.is)))
