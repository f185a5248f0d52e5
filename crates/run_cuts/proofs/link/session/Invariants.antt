-- The loop of `session`: after i turns the ends stand as `turns` says. Assumes nothing.
use mathlib.Core.Path.{◌≡◌}
use Rattle.run_cuts.specs.Link.{turn, turns}
use Rattle.run_cuts.proofs.link.session.Given as goal

abbrev pub invariant-loop : goal.invariant-loop
invariant-loop g l = l.e ≡ turns (turn g.S.Sending.sends g.R.Receiving.takes l.file) l.counter l.initial.e
