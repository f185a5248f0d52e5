-- `printing::put_answer`: the record is written, and behind it the buffer's change.
use Rattle.std.proofs.Common.{codes}
use Rattle.script.specs.Printing.{record_text, Touched}
use Rattle.std.proofs.lemmas.Result.{on_ok_weaker}
use Rattle.std.proofs.KnownBytes.{Appends-trans}
use Rattle.script.proofs.printing.put_answer.Goals as goal

pub returns : goal.returns
returns g c =
    on_ok_weaker
    {Q = Touched (record_text c.args.got c.args.buf.now) (codes "; buffer") c.args.buf.now (g.W.Write.contents c.args.out.now) (g.W.Write.contents c.put_touched.new.out)}
    _
    (λ w. let (from, to, changed, appended) = w in (from, to, changed, Appends-trans _ _ _ _ _ c.in_ok-put_record.ensures appended))
    c.put_touched.ensures
