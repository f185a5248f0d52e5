-- `check` checks 18, 20, 19, 40 in this order. Assumes nothing.
use borrow.Author.Tests.{eq-eqb, ne_eqb, lt-ltb, le-ltb}
use Rattle.calls.specs.Checks.{check_of}
use Rattle.calls.proofs.Laws.{numbered}
use Rattle.calls.proofs.check.Goals as goal

pub returns-then-ended : goal.returns-then-ended
unfolding check_of
returns-then-ended c = numbered _ _ _ _ _ _ (rw c.if-ended.true)

pub returns-then-reply-lt-REPLY : goal.returns-then-reply-lt-REPLY
unfolding check_of
returns-then-reply-lt-REPLY c = numbered _ _ _ _ _ _ (rw (c.if-ended.false, lt-ltb _ _ c.if-reply-lt-REPLY.true))

pub returns-then-frame-gt-FRAME : goal.returns-then-frame-gt-FRAME
unfolding check_of
returns-then-frame-gt-FRAME c = numbered _ _ _ _ _ _ (rw (c.if-ended.false, le-ltb _ _ c.if-reply-lt-REPLY.false, lt-ltb _ _ c.if-frame-gt-FRAME.true))

pub returns-then-lent-given : goal.returns-then-lent-given
unfolding check_of
returns-then-lent-given c = numbered _ _ _ _ _ _ (rw (c.if-ended.false, le-ltb _ _ c.if-reply-lt-REPLY.false, le-ltb _ _ c.if-frame-gt-FRAME.false, ne_eqb _ _ c.if-lent-given.true))

pub returns : goal.returns
unfolding check_of
returns c = numbered _ _ _ _ _ _ (rw (c.if-ended.false, le-ltb _ _ c.if-reply-lt-REPLY.false, le-ltb _ _ c.if-frame-gt-FRAME.false, eq-eqb _ _ c.if-lent-given.false))
