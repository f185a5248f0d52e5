-- `resume_file` goes by the settings and whether the header is the record's. Assumes nothing.
use mathlib.Core.Bool.{false}
use mathlib.Core.Path.{◌≡◌, sym, ◌∙◌}
use Rattle.fields.specs.Lists.{bytes_at}
use Rattle.calls.specs.Saving.{matches_of}
use Rattle.yapp.specs.Steps.{judge_record}
use Rattle.yapp_receiver.proofs.header.resume_file.Goals as goal

pub returns-then-not-receiver : goal.returns-then-not-receiver
unfolding judge_record
returns-then-not-receiver c a = rw c.if-not-receiver.true (c.end.ensures a c.args.pending.now)

pub returns-then-not-matches : goal.returns-then-not-matches
unfolding judge_record
returns-then-not-matches c a =
    let g = c.args in
    let other : matches_of g.entry g.receiver.now.name (bytes_at g.pending.now g.header.name) g.header.size ≡ false = rw c.bytes_at-name.ensures at (sym c.matches.ensures ∙ c.if-not-matches.true) in
    rw (c.if-not-receiver.false, other) (c.end-then-not-matches.ensures a g.pending.now)
