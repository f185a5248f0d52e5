-- The kinds of packets as numbers, by which tables go.
use Rattle.std.specs.Prelude.{ℕ, List, [], ◌∷◌, eqb}
use Rattle.fields.specs.Pick.{pick}
use Rattle.packets.specs.Content.{Content, rr, rf, af, at, ca, rt, si, ef, et, ri, nr, cn, tx, hd, malformed, dt, re, dropped, unfinished}

-- RR 0, RF 1, AF 2, AT 3, CA 4, RT 5, SI 6, RI 7, HD 8, DT 9, EF 10, ET 11, NR 12, RE 13, CN 14, TX 15; 16 is a malformed HD, 17 unreadable
-- bytes, 18 no packet yet
abbrev pub RR : ℕ
RR = 0

abbrev pub RF : ℕ
RF = 1

abbrev pub AF : ℕ
AF = 2

abbrev pub AT : ℕ
AT = 3

abbrev pub CA : ℕ
CA = 4

abbrev pub RT : ℕ
RT = 5

abbrev pub SI : ℕ
SI = 6

abbrev pub RI : ℕ
RI = 7

abbrev pub HD : ℕ
HD = 8

abbrev pub DT : ℕ
DT = 9

abbrev pub EF : ℕ
EF = 10

abbrev pub ET : ℕ
ET = 11

abbrev pub NR : ℕ
NR = 12

abbrev pub RE : ℕ
RE = 13

abbrev pub CN : ℕ
CN = 14

abbrev pub TX : ℕ
TX = 15

abbrev pub BadHD : ℕ
BadHD = 16

abbrev pub Unreadable : ℕ
Unreadable = 17

abbrev pub Unfinished : ℕ
Unfinished = 18

-- the kind of a packet
unfoldable pub kind_of : Content → ℕ
kind_of rr = RR
kind_of rf = RF
kind_of af = AF
kind_of at = AT
kind_of ca = CA
kind_of rt = RT
kind_of si = SI
kind_of ef = EF
kind_of et = ET
kind_of (ri s) = RI
kind_of (nr s) = NR
kind_of (cn s) = CN
kind_of (tx s) = TX
kind_of (hd name size stamp) = HD
kind_of (malformed f) = BadHD
kind_of (dt d sound) = DT
kind_of (re position checked) = RE
kind_of (dropped n) = Unreadable
kind_of unfinished = Unfinished

-- what stands beside k in a table's row, or what stands for every other
unfoldable pub look : {A : Type 0} → ℕ → List (ℕ × A) → A → A
look k [] other = other
look k (e ∷ l) other = pick (eqb k e.0) e.1 (look k l other)
