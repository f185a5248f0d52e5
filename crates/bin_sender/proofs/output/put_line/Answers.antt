-- The line stands at the front of the reply buffer. Assumes nothing.
use Rattle.bin_sender.proofs.output.Laying.{wrote, line-basic, line-extended}
use Rattle.bin_sender.proofs.output.put_line.Goals as goal

pub returns-in-Basic : goal.returns-in-Basic
returns-in-Basic c =
    let s = c in
    wrote _ _ _ _ _ _ (line-basic s.args.sender s.args.file.now c.in-Basic.is) s.requires c.count.ensures c.write_basic.ensures

pub returns-in-Extended : goal.returns-in-Extended
returns-in-Extended c =
    let s = c in
    wrote _ _ _ _ _ _ (line-extended s.args.sender s.args.file.now _ _ _ _ _ c.in-Extended.is c.crc_by-crc.ensures c.part-own.ensures) s.requires c.count-in-Extended.ensures c.write_line.ensures
