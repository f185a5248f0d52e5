-- A size over the area is refused. Assumes nothing.
use borrow.Author.Tests.{lt-leb}
use Rattle.yapp.specs.Steps.{judges}
use Rattle.yapp_receiver.proofs.header.judge_header.Goals as goal

pub returns-then-receiver-header : goal.returns-then-receiver-header
unfolding judges
returns-then-receiver-header c a = rw (lt-leb _ _ c.if-receiver-header.true) (c.end.ensures a c.args.pending.now)
