-- The numbers that the two tables have for the actions. (Document 01, "Steps of YAPP": "The receive table of source document 000 is kept as
-- numbers, state by packet, and so is the send table.")
use Rattle.std.specs.Prelude.{ℕ}
use Rattle.yapp.specs.Rows.{Action, nothing, abort, refused, cancelled, success, end_cw, answers, send_header, start, start_checked, resume, send_trailer, ready, trailer, judge, second, store, eof}

-- the number that a table has for an action
unfoldable pub action_number : Action → ℕ
action_number nothing = 0
action_number abort = 1
action_number refused = 2
action_number cancelled = 3
action_number success = 4
action_number end_cw = 5
action_number answers = 6
action_number send_header = 7
action_number start = 8
action_number start_checked = 9
action_number resume = 10
action_number send_trailer = 11
action_number ready = 12
action_number trailer = 13
action_number judge = 14
action_number second = 15
action_number store = 16
action_number eof = 17
