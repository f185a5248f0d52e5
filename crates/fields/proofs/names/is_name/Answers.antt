-- `is_name` tests the length, and then every byte.
use Rattle.std.proofs.Common.{rules, tests}
use Rattle.std.proofs.lemmas.Iterator.{YieldsList-from_slice}
use Rattle.std.proofs.lemmas.Iterator.Search.{all_from_yields_List}
use Rattle.fields.specs.Name.{is_name_byte}
use Rattle.fields.proofs.Lists.{name-is}
use Rattle.fields.proofs.names.is_name.Goals as goal

pub returns-then-contains : goal.returns-then-contains
returns-then-contains c =
    name-is _ _ (search rules) (search rules)
    (all_from_yields_List is_name_byte _ _ _ c.all.ensures.ran (YieldsList-from_slice c.args.s.now cc) (λ x b q k. search (rules, tests)))
