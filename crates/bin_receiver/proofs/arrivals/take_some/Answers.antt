-- `take_some` goes by the state. Assumes nothing.
use mathlib.Core.Path.{ap, ◌∙◌}
use Rattle.bin_receiver.specs.Receiver.{settings_of, saved_in}
use Rattle.bin_receiver.proofs.arrivals.Laws.{by_state, takes_some}
use Rattle.bin_receiver.proofs.arrivals.take_some.Goals as goal

pub returns-in-Waiting : goal.returns-in-Waiting
returns-in-Waiting c =
    let g = c.args in
    takes_some _ _ _ _ _ c.requires ∙ ap (by_state (settings_of g.receiver) (saved_in g.receiver) g.area.now g.frame.now g.receiver.core.state) c.in-Waiting.is ∙ c.hear.ensures

pub returns-in-Basic : goal.returns-in-Basic
returns-in-Basic c =
    let g = c.args in
    takes_some _ _ _ _ _ c.requires ∙ ap (by_state (settings_of g.receiver) (saved_in g.receiver) g.area.now g.frame.now g.receiver.core.state) c.in-Basic.is ∙ c.take_basic.ensures

pub returns-in-Extended : goal.returns-in-Extended
returns-in-Extended c =
    let g = c.args in
    takes_some _ _ _ _ _ c.requires ∙ ap (by_state (settings_of g.receiver) (saved_in g.receiver) g.area.now g.frame.now g.receiver.core.state) c.in-Extended.is ∙ c.take_extended.ensures

pub returns-in-Ended : goal.returns-in-Ended
returns-in-Ended c =
    let g = c.args in
    takes_some _ _ _ _ _ c.requires ∙ ap (by_state (settings_of g.receiver) (saved_in g.receiver) g.area.now g.frame.now g.receiver.core.state) c.in-Ended.is ∙ rw c.stays.ensures
