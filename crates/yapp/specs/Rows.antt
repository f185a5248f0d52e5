-- The tables of source document 000 as document 01 has them: state by packet gives an action.
use Rattle.std.specs.Prelude.{ℕ, true, false, List, [], ◌∷◌}
use Rattle.packets.specs.Kind.{RR, RF, AF, CA, RT, SI, RI, HD, DT, EF, ET, NR, RE, CN, TX, BadHD, Unfinished, look}
use Rattle.yapp.specs.declared.SenderState.{SenderState}
use Rattle.yapp.specs.declared.SenderState.TheVariants.{S, SH, SD, SE, ST, CW, Ended}
use Rattle.yapp.specs.declared.ReceiverState.{ReceiverState}
use Rattle.yapp.specs.declared.ReceiverState.TheVariants.{R, RH, RD, CW as RCW, Ended as REnded}

-- what an end does with a packet. `abort`: send CN without reason, enter CW
pub data Action : Type 0 where
  nothing abort refused cancelled success end_cw answers : Action
  send_header start start_checked resume send_trailer : Action
  ready trailer judge second store eof : Action

-- in every state an unfinished packet does nothing, and in any but CW a CN sends CA and ends; what is not in the row aborts
abbrev pub row : List (ℕ × Action) → ℕ → Action
row l k = look k ((Unfinished, nothing) ∷ (CN, cancelled) ∷ l) abort

-- S: RR gives HD and SH; RF gives SD at 0; NR ends; RI changes nothing
unfoldable pub row_s : ℕ → Action
row_s = row ((RR, send_header) ∷ (RF, start) ∷ (NR, refused) ∷ (RI, nothing) ∷ [])

-- SH: RF, or RT (YappC), gives SD at 0; RE gives SD at its position; NR ends
unfoldable pub row_sh : ℕ → Action
row_sh = row ((RF, start) ∷ (RT, start_checked) ∷ (RE, resume) ∷ (NR, refused) ∷ [])

-- SD passes TX on for display
unfoldable pub row_sd : ℕ → Action
row_sd = row ((TX, nothing) ∷ [])

-- SE: AF sends ET, enters ST
unfoldable pub row_se : ℕ → Action
row_se = row ((AF, send_trailer) ∷ [])

-- ST: AT, any other packet and unreadable bytes end as success; only CN differs
unfoldable pub row_st : ℕ → Action
row_st k = look k ((Unfinished, nothing) ∷ (CN, cancelled) ∷ []) success

-- CW: CA ends; CN sends CA and stays; all else is dropped
unfoldable pub row_cw : ℕ → Action
row_cw k = look k ((CA, end_cw) ∷ (CN, answers) ∷ []) nothing

unfoldable pub sender_row : SenderState → ℕ → Action
sender_row (S begun timeouts) k = row_s k
sender_row SH k = row_sh k
sender_row (SD n) k = row_sd k
sender_row SE k = row_se k
sender_row ST k = row_st k
sender_row (CW o) k = row_cw k
sender_row (Ended o) k = nothing

-- R: SI gives RR, RH; NR ends (14)
unfoldable pub row_r : ℕ → Action
row_r = row ((SI, ready) ∷ (NR, refused) ∷ [])

-- RH: SI changes nothing; ET gives AT and ends as success, even with no file; HD is judged
unfoldable pub row_rh : ℕ → Action
row_rh = row ((SI, nothing) ∷ (ET, trailer) ∷ (HD, judge) ∷ (BadHD, judge) ∷ [])

-- the same once a file was received: a second one is refused first
unfoldable pub row_second : ℕ → Action
row_second = row ((SI, nothing) ∷ (ET, trailer) ∷ (HD, second) ∷ (BadHD, second) ∷ [])

-- RD: a DT's data are stored; EF ends the file
unfoldable pub row_rd : ℕ → Action
row_rd = row ((DT, store) ∷ (EF, eof) ∷ [])

unfoldable pub receiver_row : ReceiverState → ℕ → Action
receiver_row R k = row_r k
receiver_row (RH false) k = row_rh k
receiver_row (RH true) k = row_second k
receiver_row RD k = row_rd k
receiver_row (RCW o) k = row_cw k
receiver_row (REnded o) k = nothing
