-- The next block, or EF. Assumes nothing.
use mathlib.Core.Path.{◌∙◌}
use Rattle.yapp_sender.specs.Sender.{settings_of}
use Prim.Native.Nat.{◌<◌, ◌≤◌}
use lib.ListN.{length}
use native.Mathlib.Omega.{arith}
use borrow.Author.Tests.{lt-ltb, le-ltb}
use Rattle.packets.specs.Content.{content_of}
use Rattle.yapp.specs.Steps.{sends_block}
use Rattle.yapp_sender.proofs.events.States.{block-ends}
use Rattle.yapp_sender.proofs.events.transmit_sd.Goals as goal

pub overflow_cast-next : goal.overflow_cast-next
overflow_cast-next c =
    let a = c.args in
    let h : a.at < length a.file.now = omega (arith, c.requires) in
    let g : length a.file.now ≤ 4294967295 = omega (arith, c.requires) in
    let l = block-ends a.at a.sender.now.core.block a.file.now _ c.part.ensures h g in
    omega (arith, l)

pub returns-then-at-sender : goal.returns-then-at-sender
unfolding sends_block
returns-then-at-sender c =
    let a = c.args in
    let h : a.at < length a.file.now = omega (arith, c.requires) in
    c.go.ensures (settings_of a.sender.now) _ ∙ rw (lt-ltb _ _ h, ← c.part.ensures)

pub returns : goal.returns
unfolding sends_block content_of
returns c =
    let a = c.args in
    let h : length a.file.now ≤ a.at = omega (arith, c.requires) in
    c.go-2.ensures (settings_of a.sender.now) _ ∙ rw (le-ltb _ _ h)
