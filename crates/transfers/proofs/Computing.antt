-- What the computed lists of sessions share: all that a session computes with, and calls.
-- Assumes nothing.
use Rattle.std.specs.Prelude.{None, Some}
use Prim.Native.Nat.{ℕ}
use mathlib.Core.Path.{◌≡◌, refl}
use mathlib.Core.Bool.{true}
use mathlib.Core.List.{List, [], ◌∷◌}
use lib.ListN.{replicate}
use Rattle.fields.specs.Lists.{all, up_to, same}
use Rattle.fields.specs.Name.{is_name, is_name_byte}
use Rattle.fields.specs.Buffer.{over, appended}
use Rattle.numbers.specs.Reading.{radix, decimal_digit, hex_digit, value_from, read_decimal, read_crc, read_hex, little_value}
use Rattle.numbers.specs.Writing.{decimal, digits, hex, capital, little}
use Rattle.crc.specs.Crc.{reduced, remainder, byte_step, walk_from}
use Rattle.packets.specs.Span as span
use Rattle.packets.specs.Packet as packet
use Rattle.packets.specs.Content as content
use Rattle.packet_stream.specs.Pending as pending
use Rattle.records.specs.Record as record-read
use Rattle.records.specs.Saved as saved
use Rattle.lines.specs.Frame as frame
use Rattle.lines.specs.Element as element
use Rattle.calls.specs.Checks.{check_of}
use Rattle.yapp.specs.Steps as ysteps
use Rattle.yapp_sender.specs.Sender as ysender
use Rattle.yapp_receiver.specs.Receiver as yreceiver
use Rattle.bin.specs.Steps as bsteps
use Rattle.bin_sender.specs.Sender as bsender
use Rattle.bin_receiver.specs.Receiver as breceiver
use Rattle.bin_sender.specs.declared.Sender.{Sender}
use Rattle.bin_receiver.specs.declared.Receiver.{Receiver}
use Rattle.transfers.specs.World.{Act, receive_r, Call}
use Rattle.transfers.specs.MachinesYapp as yends
use Rattle.transfers.specs.MachinesBin as bends
use Rattle.transfers.proofs.YappPhases.{machine}

-- opens all that a session computes with, also where a useless build takes another turn: `unfolding opened`
unfoldable pub opened : Unit {0}
unfolding machine all up_to same is_name is_name_byte over appended radix decimal_digit hex_digit value_from read_decimal read_crc read_hex little_value decimal digits hex capital little reduced remainder byte_step walk_from span.known span.paired span.data_length span.counted span.total span.span_at span.lead span.trail span.place_at packet.stamp_of packet.header_size packet.header_read packet.resume_mode packet.resume_digits packet.resume_read packet.checksum packet.is_sound packet.acknowledge_of packet.whole_of content.content_of content.stamp_data content.header_data content.header_form content.block_form content.refusal_form content.request_form content.resume_data content.resume_form content.form_of pending.slot pending.feed record-read.named_at record-read.kind_read record-read.record_of saved.kind_of saved.stamp_bytes saved.record_data saved.record_bytes saved.is_saved saved.record_form frame.starts frame.ends frame.body frame.has_hash frame.behind frame.marked frame.line_name frame.has_resume frame.stamp_digits frame.line_stamp frame.line_crc frame.line_read frame.line_of frame.ok_kept frame.ok_name frame.ok_read frame.ok_of frame.text_of frame.frame_of element.content_of element.line_bytes element.ok_bytes element.kept_bytes element.no_bytes element.line_form element.ok_name_form element.ok_kept_form element.no_form element.form_of check_of ysteps.writes ysender.begin ysender.transmit ysender.receive yreceiver.fresh yreceiver.with_saved yreceiver.resume yends.receive yends.transmit bsteps.heard bends.cut bsteps.sends_from bends.sender_transmits bsteps.resumes_at bsteps.sender_hears bsteps.sender_sends bsteps.sender_takes bsteps.judge_whole bsteps.judge_record bsteps.judge_extended bsteps.receiver_hears bsteps.takes_frame bends.receiver_takes bsender.begin bends.transmit bsender.receive bends.fresh breceiver.with_saved bends.resume bends.receive
opened = tt

-- the name `A` is within the limits
pub named : is_name (65 ∷ []) ≡ true
unfolding is_name is_name_byte all
named = refl

-- a call that gets its own file or area, what is on the way, and room for a reply
abbrev pub made : Act → Call
made a = record { act = a; reply = replicate 259 0; lent = None; handed = None }

-- a call that is handed a frame of 257 bytes: it is refused (19)
abbrev pub long : Call
long = record { act = receive_r 300; reply = replicate 259 0; lent = None; handed = Some (replicate 257 0) }

-- a call that is lent an area of two bytes: it is refused (40)
abbrev pub other : Call
other = record { act = receive_r 300; reply = replicate 259 0; lent = Some (8 ∷ 8 ∷ []); handed = None }

-- a leave sends nothing: an ended sender refuses it, and a receiver sends nothing at any
pub silent-S : (m : Sender) (own reply : List ℕ) → bsteps.sender_ended m.core.state ≡ true → (bends.transmit m own reply).answer.sent ≡ 0
unfolding bends.transmit check_of
silent-S m own reply e = rw e refl

pub silent-R : (m : Receiver) (own reply : List ℕ) → (breceiver.transmit m own reply).answer.sent ≡ 0
unfolding breceiver.transmit
silent-R m own reply = refl
