-- `find` asks for the position of the first x.
use Rattle.std.proofs.Common.{rules, tests}
use lib.Dec.{eqb}
use Rattle.std.proofs.lemmas.Iterator.{YieldsList-from_slice}
use Rattle.std.proofs.lemmas.Iterator.Search.{position_from_yields_List}
use Rattle.fields.proofs.Lists.{find-is}
use Rattle.fields.proofs.find.Goals as goal

pub returns : goal.returns
returns c =
    let a = c.args in
    find-is a.x a.s.now _ _
    (position_from_yields_List (λ y. eqb y a.x) _ _ _ c.position.ensures.ran (YieldsList-from_slice a.s.now cc) (λ y b q k. search (rules, tests)))
    c.unwrap_or.ensures
