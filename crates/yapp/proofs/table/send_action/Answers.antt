-- `yapp::table::send_action` meets its contract: that the constant is the table of the rows is computed, once for all entries.
-- Assumes nothing.
use Rattle.packets.specs.Kind.{look}
use Rattle.yapp.specs.Rows.{row_s, row_sh, row_sd, row_se, row_st, row_cw}
use Rattle.yapp.specs.Table.{action_number}
use Rattle.yapp.proofs.Entries.{numbers_from, table, send_table, send_at}
use Rattle.yapp.proofs.table.send_action.Goals as goal

pub returns : goal.returns
unfolding send_table table numbers_from action_number look row_s row_sh row_sd row_se row_st row_cw
returns c =
    send_at c.args.state c.args.kind c.sender_number.result c.column_of.result
    c.sender_number.ensures.0 c.column_of.ensures.0
