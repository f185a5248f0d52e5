-- What is sent stands at the front of the reply buffer. Assumes nothing.
use mathlib.Core.Path.{refl, ap}
use Rattle.bin_sender.specs.Step.{frames_by}
use Rattle.bin_sender.proofs.output.Laying.{wrote, copied, put-nothing, put_one}
use Rattle.bin_sender.proofs.output.put.Goals as goal

pub returns-in-Nothing : goal.returns-in-Nothing
returns-in-Nothing c =
    let s = c in
    put-nothing (frames_by s.args.sender s.args.file.now s.args.out) s.args.reply.now (ap (frames_by s.args.sender s.args.file.now) c.in-Nothing.is)

pub returns-in-Line : goal.returns-in-Line
returns-in-Line c =
    let s = c in
    put_one (frames_by s.args.sender s.args.file.now s.args.out) s.args.reply.now _ _ _ (ap (frames_by s.args.sender s.args.file.now) c.in-Line.is) c.put_line.ensures

pub returns-in-Data : goal.returns-in-Data
returns-in-Data c =
    let s = c in
    put_one (frames_by s.args.sender s.args.file.now s.args.out) s.args.reply.now _ _ _ (ap (frames_by s.args.sender s.args.file.now) c.in-Data.is) (copied s.args.sender.core.block _ _ _ _ _ c.next.ensures s.requires c.append_bytes.ensures)

pub returns-in-Stop : goal.returns-in-Stop
returns-in-Stop c =
    let s = c in
    put_one (frames_by s.args.sender s.args.file.now s.args.out) s.args.reply.now _ _ _ (ap (frames_by s.args.sender s.args.file.now) c.in-Stop.is) (wrote _ _ _ _ _ _ refl s.requires c.count.ensures c.write_stop.ensures)
