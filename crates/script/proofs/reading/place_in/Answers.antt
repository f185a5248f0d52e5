-- `place_in` finds the first word that is the line's. Assumes nothing.
use Rattle.std.proofs.Common.{rules, arith, ap, ◌∙◌}
use Rattle.std.specs.Option.{unwrap_or}
use borrow.Author.Tests.{tests}
use Rattle.std.proofs.lemmas.Iterator.{YieldsList-from_range}
use Rattle.std.proofs.lemmas.Iterator.Search.{find_from_yields_List}
use Rattle.fields.specs.Lists.{same}
use Rattle.script.specs.Script.{word_of}
use Rattle.script.proofs.Words.{same-option, place-is}
use Rattle.script.proofs.reading.place_in.Goals as goal

pub returns : goal.returns
returns c =
    let a = c.args in
    let e = find_from_yields_List (λ n. same (word_of n a.words.now) (word_of 0 a.line.now)) _ _ c.find.result c.find.ensures.ran
    (YieldsList-from_range 0 a.count a.count (cc) (omega arith)) (λ x b q k. search (rules, tests)) in
    c.unwrap_or.ensures ∙ ap (λ o. unwrap_or o a.count) (same-option c.find.result ∙ e) ∙ place-is a.count 0 a.count a.words.now (word_of 0 a.line.now) (omega arith)
