-- `crc::walk_by_ones` meets its contract: after the bytes ys the fold has the walk over ys.
-- Assumes nothing.
use Rattle.std.proofs.Common.{rules, ◌≡◌, subst, sym}
use Rattle.std.proofs.lemmas.Fn.{fold_over, slice_gives, fronts}
use Rattle.crc.specs.Crc.{walk_from}
use Rattle.crc.proofs.Laws.{walk-none, walk-more}
use Rattle.crc.proofs.walk_by_ones.Goals as goal

pub returns : goal.returns
returns c =
    let q = c.args.reading in
    let r = c.args.r in
    subst (λ l. c.fold.result ≡ walk_from q r l) c.iter.ensures.rest
    (fold_over fronts (λ y. y.now) _ (λ ys a. a ≡ walk_from q r ys) _ (λ ys a x b f' j k. let more = walk-more q r ys x.now in search rules)
    _ _ _ _ (slice_gives c.iter.result) (sym (walk-none q r)) c.fold.ensures.ran)
