-- What a packet does, by the table. Assumes nothing.
use mathlib.Core.Path.{ap, ◌∙◌}
use mathlib.Core.List.{[]}
use native.Mathlib.Omega.{arith}
use Rattle.packets.specs.Content.{content_of}
use Rattle.yapp.specs.declared.SenderState.{SenderState}
use Rattle.yapp.specs.Rows as rows
use Rattle.yapp.specs.Table.{action_number}
use Rattle.yapp.specs.Steps.{sends, sender_does}
use Rattle.yapp_sender.specs.Sender.{settings_of}
use Rattle.yapp_sender.proofs.arrivals.Packets.{takes-by, takes_none}
use Rattle.yapp_sender.proofs.arrivals.take.Goals as goal

pub returns-in-1 : goal.returns-in-1
unfolding sender_does action_number
returns-in-1 c = λ file bytes. c.abort.ensures (settings_of c.args.sender.now) file ∙ takes-by c.args.sender.now.core.state _ _ c.args.packet c.kind_of.ensures.0 c.send_action.ensures (settings_of c.args.sender.now) c.args.sender.now.reader.checked bytes rows.abort c.in-1.is

pub returns-in-2 : goal.returns-in-2
unfolding sender_does action_number
returns-in-2 c = λ file bytes. c.end.ensures (settings_of c.args.sender.now) file ∙ takes-by c.args.sender.now.core.state _ _ c.args.packet c.kind_of.ensures.0 c.send_action.ensures (settings_of c.args.sender.now) c.args.sender.now.reader.checked bytes rows.refused c.in-2.is

pub returns-in-3 : goal.returns-in-3
unfolding sender_does action_number content_of
returns-in-3 c = λ file bytes. c.go.ensures (settings_of c.args.sender.now) file ∙ takes-by c.args.sender.now.core.state _ _ c.args.packet c.kind_of.ensures.0 c.send_action.ensures (settings_of c.args.sender.now) c.args.sender.now.reader.checked bytes rows.cancelled c.in-3.is

pub returns-in-4 : goal.returns-in-4
unfolding sender_does action_number
returns-in-4 c = λ file bytes. c.end-in-4.ensures (settings_of c.args.sender.now) file ∙ takes-by c.args.sender.now.core.state _ _ c.args.packet c.kind_of.ensures.0 c.send_action.ensures (settings_of c.args.sender.now) c.args.sender.now.reader.checked bytes rows.success c.in-4.is

pub returns-in-5 : goal.returns-in-5
unfolding sender_does action_number
returns-in-5 c = λ file bytes. c.go-in-5.ensures (settings_of c.args.sender.now) file ∙ ap (λ (x : SenderState). sends x c.args.sender.now.reader.checked []) c.end_cw.ensures ∙ takes-by c.args.sender.now.core.state _ _ c.args.packet c.kind_of.ensures.0 c.send_action.ensures (settings_of c.args.sender.now) c.args.sender.now.reader.checked bytes rows.end_cw c.in-5.is

pub returns-in-6 : goal.returns-in-6
unfolding sender_does action_number content_of
returns-in-6 c = λ file bytes. c.go-in-6.ensures (settings_of c.args.sender.now) file ∙ takes-by c.args.sender.now.core.state _ _ c.args.packet c.kind_of.ensures.0 c.send_action.ensures (settings_of c.args.sender.now) c.args.sender.now.reader.checked bytes rows.answers c.in-6.is

pub returns-in-7 : goal.returns-in-7
unfolding sender_does action_number
returns-in-7 c = λ file bytes. c.go-in-7.ensures (settings_of c.args.sender.now) file ∙ takes-by c.args.sender.now.core.state _ _ c.args.packet c.kind_of.ensures.0 c.send_action.ensures (settings_of c.args.sender.now) c.args.sender.now.reader.checked bytes rows.send_header c.in-7.is

pub returns-in-8 : goal.returns-in-8
unfolding sender_does action_number
returns-in-8 c = λ file bytes. c.start.ensures (settings_of c.args.sender.now) file ∙ takes-by c.args.sender.now.core.state _ _ c.args.packet c.kind_of.ensures.0 c.send_action.ensures (settings_of c.args.sender.now) c.args.sender.now.reader.checked bytes rows.start c.in-8.is

pub returns-in-9 : goal.returns-in-9
unfolding sender_does action_number
returns-in-9 c = λ file bytes. c.start-in-9.ensures (settings_of c.args.sender.now) file ∙ takes-by c.args.sender.now.core.state _ _ c.args.packet c.kind_of.ensures.0 c.send_action.ensures (settings_of c.args.sender.now) c.args.sender.now.reader.checked bytes rows.start_checked c.in-9.is

pub returns-in-10 : goal.returns-in-10
unfolding sender_does action_number
returns-in-10 c = λ file bytes. c.resume.ensures file bytes ∙ takes-by c.args.sender.now.core.state _ _ c.args.packet c.kind_of.ensures.0 c.send_action.ensures (settings_of c.args.sender.now) c.args.sender.now.reader.checked bytes rows.resume c.in-10.is

pub returns-in-11 : goal.returns-in-11
unfolding sender_does action_number content_of
returns-in-11 c = λ file bytes. c.go-in-11.ensures (settings_of c.args.sender.now) file ∙ takes-by c.args.sender.now.core.state _ _ c.args.packet c.kind_of.ensures.0 c.send_action.ensures (settings_of c.args.sender.now) c.args.sender.now.reader.checked bytes rows.send_trailer c.in-11.is

pub returns-in_default : goal.returns-in_default
returns-in_default c =
    let a = c.args in
    λ file bytes. c.go-in_default.ensures (settings_of c.args.sender.now) file ∙ takes_none a.sender.now.core.state _ _ a.packet c.kind_of.ensures.0 c.send_action.ensures (settings_of c.args.sender.now) a.sender.now.reader.checked bytes (λ e. omega arith) (λ e. omega arith) (λ e. omega arith) (λ e. omega arith) (λ e. omega arith) (λ e. omega arith) (λ e. omega arith) (λ e. omega arith) (λ e. omega arith) (λ e. omega arith) (λ e. omega arith)
