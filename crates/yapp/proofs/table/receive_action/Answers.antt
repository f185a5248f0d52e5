-- `yapp::table::receive_action` meets its contract: that the constant is the table of the rows is computed, once for all entries.
-- Assumes nothing.
use Rattle.packets.specs.Kind.{look}
use Rattle.yapp.specs.Rows.{row_r, row_rh, row_second, row_rd, row_cw}
use Rattle.yapp.specs.Table.{action_number}
use Rattle.yapp.proofs.Entries.{numbers_from, table, receive_table, receive-at}
use Rattle.yapp.proofs.table.receive_action.Goals as goal

pub returns : goal.returns
unfolding receive_table table numbers_from action_number look row_r row_rh row_second row_rd row_cw
returns c =
    receive-at c.args.state c.args.kind c.receiver_number.result c.column_of.result
    c.receiver_number.ensures.0 c.column_of.ensures.0
