-- What is sent stands at the front of the reply buffer. Assumes nothing.
use mathlib.Core.Path.{refl}
use Rattle.packets.specs.Content.{form_of}
use Rattle.yapp_sender.proofs.output.Laying.{put_one, put_nothing}
use Rattle.yapp_sender.proofs.output.put.Goals as goal

pub returns-in-Nothing : goal.returns-in-Nothing
returns-in-Nothing c = rw c.in-Nothing.is (put_nothing c.args.step.checked c.args.reply.now)

pub returns-in-HD : goal.returns-in-HD
unfolding form_of
returns-in-HD c = rw c.in-HD.is (put_one c.args.step.checked _ _ _ _ _ _ c.requires c.count.ensures c.write_hd.ensures (rw c.part-name.ensures))

pub returns-in-DT : goal.returns-in-DT
unfolding form_of
returns-in-DT c = rw c.in-DT.is (put_one c.args.step.checked _ _ _ _ _ _ c.requires c.count-in-DT.ensures c.write_dt.ensures (rw c.part-data.ensures))

pub returns-in-Of : goal.returns-in-Of
returns-in-Of c = rw c.in-Of.is (put_one c.args.step.checked _ _ _ _ _ _ c.requires c.count-in-Of.ensures c.write.ensures refl)
