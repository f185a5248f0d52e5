-- `with_record` refuses a record that is out of its limits. Assumes nothing.
use mathlib.Core.Path.{sym, ◌∙◌}
use Rattle.yapp_receiver.specs.Receiver.{fresh, with_saved}
use Rattle.yapp_receiver.proofs.Calls.{no_name}
use Rattle.yapp_receiver.proofs.Receiver.with_record.Goals as goal

pub returns : goal.returns
unfolding fresh with_saved
returns c =
    rw (c.append_bytes.ensures.1, c.bytes_at-name.ensures, c.fresh-receiver.ensures, no_name, sym c.is_within.ensures ∙ c.if-not-is_within.false)
