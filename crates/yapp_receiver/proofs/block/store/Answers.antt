-- `store` judges the checksum first, and stores what is within the size. Assumes nothing.
use mathlib.Core.Path.{◌≡◌, sym, ◌∙◌}
use mathlib.Core.Bool.{true, false}
use Prim.Native.Nat.{◌+◌}
use Rattle.std.proofs.lemmas.Bool.{not-true, not-false}
use lib.Dec.{leb}
use lib.ListN.{length}
use Rattle.fields.specs.Lists.{bytes_at}
use Rattle.calls.specs.Saving.{saved_by, kept_of, size_of}
use Rattle.packets.specs.Content.{content_of}
use Rattle.packets.specs.Data.{on_block}
use Rattle.yapp.specs.Steps.{stores}
use Rattle.yapp_receiver.proofs.block.Laws.{grown_kept, grown_name}
use Rattle.yapp_receiver.proofs.block.store.Goals as goal

pub returns-then-not-block : goal.returns-then-not-block
unfolding content_of on_block stores
returns-then-not-block c p =
    let unsound : c.in-DT.block.sound ≡ false = not-true _ c.if-not-block.true in
    rw (c.in-DT.is, unsound) (c.fail.ensures c.args.area.now p)

pub returns-then-not-fits : goal.returns-then-not-fits
unfolding content_of on_block stores
returns-then-not-fits c p =
    let m = c.args.receiver.now in
    let past : leb (kept_of (saved_by m.core.keeping m.name) + length (bytes_at c.args.pending.now c.in-DT.block.place)) (size_of (saved_by m.core.keeping m.name)) ≡ false = rw (c.bytes_at-bytes.ensures, (c.counts-kept.ensures m.name).0, (c.counts-kept.ensures m.name).1) at (sym c.fits.ensures ∙ c.if-not-fits.true) in
    let sound : c.in-DT.block.sound ≡ true = not-false _ c.if-not-block.false in
    rw (c.in-DT.is, sound, past) (c.fail-then-not-fits.ensures c.args.area.now p)

pub returns : goal.returns
unfolding content_of on_block stores
returns c p =
    let m = c.args.receiver.now in
    let n = length (bytes_at c.args.pending.now c.in-DT.block.place) in
    let within : leb (kept_of (saved_by m.core.keeping m.name) + n) (size_of (saved_by m.core.keeping m.name)) ≡ true = rw (c.bytes_at-bytes.ensures, (c.counts-kept.ensures m.name).0, (c.counts-kept.ensures m.name).1) at (sym c.fits.ensures ∙ c.if-not-fits.false) in
    let sound : c.in-DT.block.sound ≡ true = not-false _ c.if-not-block.false in
    rw (c.grow.ensures, c.append_bytes.ensures.1, c.bytes_at-bytes.ensures, (c.counts-kept.ensures m.name).0, c.in-DT.is, sound, within, grown_kept m.name m.core.keeping n, grown_name m.name m.core.keeping n)
