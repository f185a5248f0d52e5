-- A second list of sessions, computed, with no theorem of demand 3: by YAPP, broken off in the data; by YAPP, resumed and broken off; by #BIN#,
-- resumed and run to its end. A wrong sender or receiver falls here by computation. Assumes nothing.
use Rattle.std.specs.Prelude.{Some}
use Prim.Native.Nat.{ℕ, zero, suc}
use mathlib.Core.Path.{◌≡◌, refl, ap, sym, subst, ◌∙◌}
use mathlib.Core.Bool.{Bool, true, false}
use mathlib.Core.List.{List, [], ◌∷◌, ◌++◌}
use mathlib.Core.Logic.{inl}
use lib.ListN.{take, drop, replicate}
use lib.Dec.{lit≤}
use Rattle.fields.specs.Lists.{all}
use Rattle.numbers.specs.Canonical.{is_byte}
use Rattle.lines.specs.Frame.{display_mark, stop_frame}
use Rattle.packets.proofs.Whole.{byte_at}
use Rattle.crc.specs.declared.Reading.TheVariants.{Bare}
use Rattle.calls.specs.declared.Outcome.TheVariants.{Success}
use Rattle.calls.specs.Checks.{is_taken}
use Rattle.bin.specs.declared.Announce.TheVariants.{Extended as Announced}
use Rattle.bin.specs.declared.SenderState.{SenderState as BinSenderState}
use Rattle.bin.specs.declared.SenderState.TheVariants.{Send, Ended as Sent}
use Rattle.bin.specs.declared.ReceiverState.{ReceiverState as BinReceiverState}
use Rattle.bin.specs.declared.ReceiverState.TheVariants.{Extended as Takes, Ended as Received}
use Rattle.transfers.specs.World.{World, Bytes, Left, first, Safe, kept_in, Act, transmit_s, receive_s, receive_r, Call}
use Rattle.transfers.specs.Yapp as yapp
use Rattle.transfers.specs.Bin as bin
use Rattle.transfers.specs.Demand.{Session, by_yapp, by_bin, leaves_by, after, FairIn, FairAll, CalmIn, Ends, Completes}
use Rattle.transfers.proofs.Computing.{opened, named, made, long, other, silent-S, silent-R}

-- ---- the world

-- `SP\-`, 253 bytes of one value, and the stop frame: where #BIN# cuts single bytes, and more than 256
abbrev pub file : List ℕ
file = display_mark ++ (replicate 253 7 ++ stop_frame)

abbrev pub area : List ℕ
area = replicate 268 9

pub file_bytes : Bytes file
unfolding all is_byte
file_bytes i = byte_at file i refl

pub area_bytes : Bytes area
unfolding all is_byte
area_bytes i = byte_at area i refl

-- 266 bytes under the name `A`, an area of 268
abbrev pub w : World
w = record {
  file = file;
  name = 65 ∷ [];
  area = area;
  file_bytes = file_bytes;
  area_bytes = area_bytes;
  named = named;
  size = lit≤ tt;
  fits = lit≤ tt;
}

-- ---- the sessions

-- calls that get their own file or area, what is on the way, and room for a reply
abbrev calling : List Act → List Call
calling [] = []
calling (a ∷ acts) = made a ∷ calling acts

-- SI, RR, HD, its answer, and one block more
abbrev greeting : List Act
greeting = transmit_s ∷ receive_r 300 ∷ receive_s 300 ∷ receive_r 300 ∷ receive_s 300 ∷ transmit_s ∷ []

-- so many blocks, or frames of #BIN#
abbrev moving : ℕ → List Act → List Act
moving zero acts = acts
moving (suc n) acts = transmit_s ∷ receive_r 300 ∷ moving n acts

abbrev pub settings_y : Bool → yapp.Settings
settings_y checks = record { block = 32; block_some = lit≤ tt; block_most = lit≤ tt; stamp = Some 7; stamp_in_range = refl; checks = checks }

abbrev pub settings_b : bin.Settings
settings_b = record { block = 256; block_some = lit≤ tt; block_most = lit≤ tt; stamp = 7; stamp_in_range = lit≤ tt; reading = Bare }

-- by YAPP with checksums: with the first DT on the way a call is lent another area (40); the first and the second DT come in one chunk; eight
-- DTs are taken, and of the ninth five bytes
abbrev storing : List Act
storing = transmit_s ∷ receive_r 300 ∷ receive_r 300 ∷ moving 6 (transmit_s ∷ receive_r 5 ∷ [])

abbrev pub calls1 : List Call
calls1 = calling greeting ++ (other ∷ calling storing)

abbrev pub session1 : Session
session1 = by_yapp (settings_y true) calls1

-- by YAPP without them: the answer is RE 0, and the session breaks off before a DT arrives
abbrev pub calls2 : List Call
calls2 = calling greeting

abbrev pub session2 : Session
session2 = by_yapp (settings_y false) calls2

-- by #BIN#: the line, the third OK; then a frame of 257 bytes that nobody sent (19); `S` alone, for which a call is lent another area first
-- (40), 256 bytes, `\r` alone, eight bytes
abbrev to_the_line : List Act
to_the_line = transmit_s ∷ receive_r 300 ∷ receive_s 300 ∷ []

abbrev sending : List Call
sending = long ∷ made transmit_s ∷ other ∷ calling (receive_r 300 ∷ moving 3 [])

abbrev pub calls3 : List Call
calls3 = calling to_the_line ++ sending

abbrev pub session3 : Session
session3 = by_bin settings_b calls3

-- ---- what they leave

-- the area with n bytes of the file
abbrev pub holding : ℕ → List ℕ
holding n = take n file ++ drop n area

-- a record: 16 bytes behind the length, kind 2, size 266, the kept count, stamp 7, the name
abbrev pub record_with : ℕ → ℕ → List ℕ
record_with low high = 16 ∷ 0 ∷ 2 ∷ 0 ∷ 10 ∷ 1 ∷ 0 ∷ 0 ∷ low ∷ high ∷ 0 ∷ 0 ∷ 7 ∷ 0 ∷ 0 ∷ 0 ∷ 1 ∷ 65 ∷ []

-- the first: 256 bytes
abbrev pub part : Left
part = record { area = holding 256; saved = Some (record_with 0 1); tally = 256; laid = holding 256 }

-- the second: none are kept any more, and the area stays
abbrev pub fallen : Left
fallen = record { area = holding 256; saved = Some (record_with 0 0); tally = 0; laid = holding 256 }

-- the third: the whole file
abbrev pub whole : Left
whole = record { area = holding 266; saved = Some (record_with 10 1); tally = 266; laid = holding 266 }

pub leaves1 : leaves_by w session1 (first w) ≡ part
unfolding opened
leaves1 = refl

-- the record's count is the tally
pub counts1 : kept_in (leaves_by w session1 (first w)).saved ≡ Some (leaves_by w session1 (first w)).tally
unfolding opened
counts1 = refl

pub leaves2 : leaves_by w session2 part ≡ fallen
unfolding opened
leaves2 = refl

pub counts2 : kept_in (leaves_by w session2 part).saved ≡ Some (leaves_by w session2 part).tally
unfolding opened
counts2 = refl

-- a session of #BIN#: the states of both ends, how many bytes are kept, and how many of the area are the file's
abbrev stands : BinSenderState → BinReceiverState → ℕ → ℕ → bin.Config
stands s r kept n = record {
  snd = record { name = 65 ∷ replicate 63 0; core = record { state = s; announce = Announced 7 true Bare; named = 1; size = 266; block = 256 } };
  rcv = record {
    name = 65 ∷ replicate 63 0;
    core = record {
      state = r;
      room = 268;
      resumes = true;
      reading = Bare;
      keeping = Some (record { named = 1; size = 266; kept = kept; stamp = Some 7 });
    };
  };
  area = holding n;
  to_r = [];
  to_s = [];
  accepted = true;
  tally = kept;
  laid = holding n;
}

-- the line is accepted: the CRC of the file, by document 01's reading, is 39340
abbrev accepted : bin.Config
accepted = stands (Send 0) (Takes 39340) 0 256

accepted3 : bin.runs w (calling to_the_line) (bin.begins w settings_b fallen) ≡ accepted
unfolding opened
accepted3 = refl

moved3 : bin.runs w sending accepted ≡ stands (Sent Success) (Received Success) 266 266
unfolding opened
moved3 = refl

runs_append : (ks ls : List Call) (c : bin.Config) → bin.runs w (ks ++ ls) c ≡ bin.runs w ls (bin.runs w ks c)
runs_append [] ls c = refl
runs_append (k ∷ ks) ls c = runs_append ks ls (bin.step w k c)

pub ends3 : bin.runs w calls3 (bin.begins w settings_b fallen) ≡ stands (Sent Success) (Received Success) 266 266
ends3 =
    runs_append (calling to_the_line) sending (bin.begins w settings_b fallen)
    ∙ ap (bin.runs w sending) accepted3 ∙ moved3

pub leaves3 : leaves_by w session3 fallen ≡ whole
unfolding opened
leaves3 = ap bin.leaves ends3

-- ---- one behind the other

pub after2 : after w (session1 ∷ session2 ∷ []) (first w) ≡ fallen
after2 = ap (leaves_by w session2) leaves1 ∙ leaves2

pub after3 : after w (session1 ∷ session2 ∷ session3 ∷ []) (first w) ≡ whole
after3 = ap (leaves_by w session3) after2 ∙ leaves3

-- after each session the kept bytes are the file's beginning
pub safe1 : Safe w (after w (session1 ∷ []) (first w))
unfolding opened
safe1 = subst (Safe w) (sym leaves1) (record { kept = refl; within = lit≤ tt; front = refl; past = refl; area = refl })

pub safe2 : Safe w (after w (session1 ∷ session2 ∷ []) (first w))
unfolding opened
safe2 = subst (Safe w) (sym after2) (record { kept = refl; within = lit≤ tt; front = refl; past = refl; area = refl })

pub safe3 : Safe w (after w (session1 ∷ session2 ∷ session3 ∷ []) (first w))
unfolding opened
safe3 = subst (Safe w) (sym after3) (record { kept = refl; within = lit≤ tt; front = refl; past = refl; area = refl })

-- ---- the premises

owned_y : (acts : List Act) (c : yapp.Config) → yapp.Fairly w (calling acts) c
owned_y [] c = tt
owned_y (a ∷ acts) c = (yapp.own, owned_y acts (yapp.step w (made a) c))

owned_b : (acts : List Act) (c : bin.Config) → bin.Fairly w (calling acts) c
owned_b [] c = tt
owned_b (a ∷ acts) c = (bin.own, owned_b acts (bin.step w (made a) c))

fairly_y : (acts : List Act) (ls : List Call) (c : yapp.Config) → yapp.Fairly w ls (yapp.runs w (calling acts) c) → yapp.Fairly w (calling acts ++ ls) c
fairly_y [] ls c f = f
fairly_y (a ∷ acts) ls c f = (yapp.own, fairly_y acts ls (yapp.step w (made a) c) f)

fairly_b : (acts : List Act) (ls : List Call) (c : bin.Config) → bin.Fairly w ls (bin.runs w (calling acts) c) → bin.Fairly w (calling acts ++ ls) c
fairly_b [] ls c f = f
fairly_b (a ∷ acts) ls c f = (bin.own, fairly_b acts ls (bin.step w (made a) c) f)

-- the first session as the DT is on the way, and the last as the line is accepted: the calls are refused
abbrev greeted : yapp.Config
greeted = yapp.runs w (calling greeting) (yapp.begins w (settings_y true) (first w))

other-refused : is_taken (yapp.checked w other.act greeted other.reply other.lent) ≡ false
unfolding opened
other-refused = refl

long-refused : is_taken (bin.checked w long.act accepted long.reply long.lent long.handed) ≡ false
unfolding opened
long-refused = refl

-- the first frame is on the way
abbrev cutting : bin.Config
cutting = bin.step w (made transmit_s) (bin.step w long accepted)

area-refused : is_taken (bin.checked w other.act cutting other.reply other.lent other.handed) ≡ false
unfolding opened
area-refused = refl

fair1 : FairIn w session1 (first w)
fair1 =
    fairly_y greeting (other ∷ calling storing) (yapp.begins w (settings_y true) (first w))
    (yapp.refused other-refused, owned_y storing (yapp.step w other greeted))

fair-sending : bin.Fairly w sending accepted
fair-sending =
    (bin.refused long-refused, (bin.own, (bin.refused area-refused, owned_b (receive_r 300 ∷ moving 3 []) (bin.step w other cutting))))

fair3 : FairIn w session3 fallen
fair3 =
    fairly_b to_the_line sending (bin.begins w settings_b fallen) (subst (bin.Fairly w sending) (sym accepted3) fair-sending)

pub fair : FairAll w (session1 ∷ session2 ∷ session3 ∷ []) (first w)
fair = (
  fair1,
  (owned_y greeting (yapp.begins w (settings_y false) (leaves_by w session1 (first w))), (subst (FairIn w session3) (sym after2) fair3, tt)),
)

-- no call of the last session is a timer or a stop
pub calm : CalmIn w session3 fallen
calm = (inl tt, (inl tt, (inl tt, (inl tt, (inl tt, (inl tt, (inl tt, (inl tt, (inl tt, (inl tt, (inl tt, (inl tt, (inl tt, tt)))))))))))))

-- ---- the last session is run to its end, and has succeeded

pub ends : Ends w session3 fallen
ends =
    subst (bin.Quiet w) (sym ends3)
    (record {
      to_sender = inl refl;
      to_receiver = inl refl;
      no-more-S = λ reply. silent-S _ file reply refl;
      no-more-R = λ reply. silent-R _ (holding 266) reply;
    })

pub completes : Completes w session3 fallen
completes = subst (bin.Complete w) (sym ends3) (record { sender = refl; receiver = refl; file = refl })
