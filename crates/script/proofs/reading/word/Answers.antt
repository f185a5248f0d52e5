-- `word` is a piece between two spaces. Assumes nothing.
use Rattle.std.proofs.Common.{rules, ap, ◌∙◌}
use Rattle.std.specs.Prelude.{[]}
use Rattle.std.specs.Option.{unwrap_or}
use borrow.Author.Tests.{tests}
use Rattle.std.proofs.lemmas.Iterator.Consumers.{nth_from_yields_List}
use Rattle.std.proofs.lemmas.Iterator.Splits.{YieldsList-from_slice_split}
use Rattle.script.proofs.Words.{is_space, now-or, word-is}
use Rattle.script.proofs.reading.word.Goals as goal

pub returns : goal.returns
returns c =
    let a = c.args in
    let e = nth_from_yields_List c.nth.result _ a.number c.nth.ensures.ran
    (YieldsList-from_slice_split _ is_space a.line.now c.split.ensures.rest c.split.ensures.done c.split.ensures.closure (λ x b q k. search (rules, tests))) in
    ap (λ x. x.now) c.unwrap_or.ensures ∙ now-or c.nth.result _ ∙ ap (λ o. unwrap_or o []) e ∙ word-is a.number a.line.now
