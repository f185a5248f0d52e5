-- `decide` goes by the number of the table. Assumes nothing.
use native.Mathlib.Omega.{arith}
use mathlib.Core.Path.{ap, ◌∙◌}
use Rattle.yapp.specs.Rows as rows
use Rattle.yapp.specs.Steps.{receiver_does}
use Rattle.yapp.specs.Table.{action_number}
use Rattle.yapp_receiver.specs.Step.{reached}
use Rattle.yapp_receiver.proofs.arrivals.Laws.{takes-by, takes_none}
use Rattle.yapp_receiver.proofs.arrivals.decide.Goals as goal

pub returns-in-1 : goal.returns-in-1
unfolding receiver_does action_number
returns-in-1 c =
    let g = c.args in
    ap (reached g.receiver.now.name) (takes-by g.receiver.now g.area.now g.received.reader.pending g.received.packet _ c.kind_of.ensures.0 _ c.receive_action.ensures rows.abort c.in-1.is)
    ∙ c.fail.ensures g.area.now g.received.reader.pending

pub returns-in-2 : goal.returns-in-2
unfolding receiver_does action_number
returns-in-2 c =
    let g = c.args in
    ap (reached g.receiver.now.name) (takes-by g.receiver.now g.area.now g.received.reader.pending g.received.packet _ c.kind_of.ensures.0 _ c.receive_action.ensures rows.refused c.in-2.is)
    ∙ c.end.ensures g.area.now g.received.reader.pending

pub returns-in-3 : goal.returns-in-3
unfolding receiver_does action_number
returns-in-3 c =
    let g = c.args in
    ap (reached g.receiver.now.name) (takes-by g.receiver.now g.area.now g.received.reader.pending g.received.packet _ c.kind_of.ensures.0 _ c.receive_action.ensures rows.cancelled c.in-3.is)
    ∙ c.end-in-3.ensures g.area.now g.received.reader.pending

pub returns-in-5 : goal.returns-in-5
unfolding receiver_does action_number
returns-in-5 c =
    let g = c.args in
    ap (reached g.receiver.now.name) (takes-by g.receiver.now g.area.now g.received.reader.pending g.received.packet _ c.kind_of.ensures.0 _ c.receive_action.ensures rows.end_cw c.in-5.is)
    ∙ (rw c.leave_cw.ensures at (c.stay.ensures g.area.now g.received.reader.pending))

pub returns-in-6 : goal.returns-in-6
unfolding receiver_does action_number
returns-in-6 c =
    let g = c.args in
    ap (reached g.receiver.now.name) (takes-by g.receiver.now g.area.now g.received.reader.pending g.received.packet _ c.kind_of.ensures.0 _ c.receive_action.ensures rows.answers c.in-6.is)
    ∙ c.stay-in-6.ensures g.area.now g.received.reader.pending

pub returns-in-12 : goal.returns-in-12
unfolding receiver_does action_number
returns-in-12 c =
    let g = c.args in
    ap (reached g.receiver.now.name) (takes-by g.receiver.now g.area.now g.received.reader.pending g.received.packet _ c.kind_of.ensures.0 _ c.receive_action.ensures rows.ready c.in-12.is)
    ∙ c.stay-in-12.ensures g.area.now g.received.reader.pending

pub returns-in-13 : goal.returns-in-13
unfolding receiver_does action_number
returns-in-13 c =
    let g = c.args in
    ap (reached g.receiver.now.name) (takes-by g.receiver.now g.area.now g.received.reader.pending g.received.packet _ c.kind_of.ensures.0 _ c.receive_action.ensures rows.trailer c.in-13.is)
    ∙ c.end-in-13.ensures g.area.now g.received.reader.pending

pub returns-in-14 : goal.returns-in-14
unfolding receiver_does action_number
returns-in-14 c =
    let g = c.args in
    ap (reached g.receiver.now.name) (takes-by g.receiver.now g.area.now g.received.reader.pending g.received.packet _ c.kind_of.ensures.0 _ c.receive_action.ensures rows.judge c.in-14.is)
    ∙ (rw c.pending-pending.ensures at (c.judge.ensures g.area.now))

pub returns-in-15 : goal.returns-in-15
unfolding receiver_does action_number
returns-in-15 c =
    let g = c.args in
    ap (reached g.receiver.now.name) (takes-by g.receiver.now g.area.now g.received.reader.pending g.received.packet _ c.kind_of.ensures.0 _ c.receive_action.ensures rows.second c.in-15.is)
    ∙ c.end-in-15.ensures g.area.now g.received.reader.pending

pub returns-in-16 : goal.returns-in-16
unfolding receiver_does action_number
returns-in-16 c =
    let g = c.args in
    ap (reached g.receiver.now.name) (takes-by g.receiver.now g.area.now g.received.reader.pending g.received.packet _ c.kind_of.ensures.0 _ c.receive_action.ensures rows.store c.in-16.is)
    ∙ (rw c.pending-pending.ensures at (c.store.ensures g.received.reader.pending))

pub returns-in-17 : goal.returns-in-17
unfolding receiver_does action_number
returns-in-17 c =
    let g = c.args in
    ap (reached g.receiver.now.name) (takes-by g.receiver.now g.area.now g.received.reader.pending g.received.packet _ c.kind_of.ensures.0 _ c.receive_action.ensures rows.eof c.in-17.is)
    ∙ c.end_file.ensures g.area.now g.received.reader.pending

pub returns-in_default : goal.returns-in_default
returns-in_default c =
    let g = c.args in
    ap (reached g.receiver.now.name) (takes_none g.receiver.now g.area.now g.received.reader.pending g.received.packet _ c.kind_of.ensures.0 _ c.receive_action.ensures (λ e. omega arith) (λ e. omega arith) (λ e. omega arith) (λ e. omega arith) (λ e. omega arith) (λ e. omega arith) (λ e. omega arith) (λ e. omega arith) (λ e. omega arith) (λ e. omega arith) (λ e. omega arith))
    ∙ c.stay-in_default.ensures g.area.now g.received.reader.pending
