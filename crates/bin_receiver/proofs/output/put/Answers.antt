-- `put` writes the frame of each case. Assumes nothing.
use mathlib.Core.Path.{refl, sym}
use Rattle.fields.proofs.Buffer.{over_none}
use Rattle.lines.specs.Element.{form_of}
use Rattle.bin_receiver.proofs.output.Words.{laid}
use Rattle.bin_receiver.proofs.output.put.Goals as goal

pub returns-in-Silent : goal.returns-in-Silent
returns-in-Silent c = rw c.in-Silent.is (refl, sym (over_none _))

pub returns-in-FirstOk : goal.returns-in-FirstOk
unfolding form_of
returns-in-FirstOk c =
    rw c.in-FirstOk.is (laid _ _ _ _ _ c.requires c.write_ok.ensures c.count.ensures)

pub returns-in-SecondOk : goal.returns-in-SecondOk
unfolding form_of
returns-in-SecondOk c =
    rw c.in-SecondOk.is (laid _ _ _ _ _ c.requires c.write_ok_name.ensures c.count-in-SecondOk.ensures)

pub returns-in-ThirdOk : goal.returns-in-ThirdOk
unfolding form_of
returns-in-ThirdOk c =
    rw c.in-ThirdOk.is (laid _ _ _ _ _ c.requires c.write_ok_kept.ensures c.count-in-ThirdOk.ensures)

pub returns-in-Stop : goal.returns-in-Stop
unfolding form_of
returns-in-Stop c =
    rw c.in-Stop.is (laid _ _ _ _ _ c.requires c.write_stop.ensures c.count-in-Stop.ensures)
