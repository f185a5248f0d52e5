-- What is claimed, in full, each claim proved by citing its theorem. To believe one, read it and the definitions that it names (specs/ of the
-- crate in its `use` line) beside the paper; no proof need be read. What code promises stands in its contracts, which cite the same definitions.
-- Assumes nothing.
use Rattle.std.specs.Prelude.{Some, Option}
use Prim.Native.Nat.{ℕ, suc, ◌≤◌, ◌<◌, ◌^◌}
use mathlib.Core.Path.{◌≡◌}
use mathlib.Core.Bool.{Bool, true, false}
use mathlib.Core.List.{List, [], ◌∷◌, ◌++◌, flatten}
use mathlib.Core.Logic.{◌⊎◌}
use lib.ListN.{length, get_or, drop}
use Rattle.fields.specs.Name.{is_name}
use Rattle.fields.specs.Lists.{all, bytes_at}
use Rattle.fields.specs.Buffer.{bytes}
use Rattle.fields.specs.declared.Fault.{Fault}
use Rattle.fields.specs.declared.Flaw.TheVariants.{Other}
use Rattle.numbers.specs.Writing.{decimal, hex, little}
use Rattle.numbers.specs.Reading.{read_decimal, read_hex, read_little}
use Rattle.numbers.specs.Canonical.{plain, capitals, is_byte}
use Rattle.numbers.proofs.RoundTrip as numbers
use Rattle.crc.specs.declared.Reading.{Reading}
use Rattle.crc.specs.declared.Reading.TheVariants.{Bare, Augmented}
use Rattle.crc.specs.Crc.{table, entry, crc_by, walk_from}
use Rattle.crc.proofs.Table as crc-table
use Rattle.crc.proofs.Laws as crc
use Rattle.crc.proofs.Augmented as readings
use Rattle.packets.specs.declared.Header.{Header}
use Rattle.packets.specs.declared.Resume.{Resume}
use Rattle.packets.specs.declared.Block.{Block}
use Rattle.packets.specs.declared.Packet.TheVariants.{HD, RE, DT, Malformed}
use Rattle.packets.specs.declared.spans.Span.TheVariants.{Whole}
use Rattle.packets.specs.Span.{span}
use Rattle.packets.specs.Packet.{header_read, packet_of, front_data}
use Rattle.packets.specs.Content as packet
use Rattle.packets.specs.Canonical.{is_good, in_form, is_block}
use Rattle.packets.proofs.RoundTrip as packets
use Rattle.packets.proofs.WriteBack as packets-back
use Rattle.packets.proofs.Limits as packet-limits
use Rattle.packets.proofs.Faults as header-tables
use Rattle.packets.proofs.Offending as header-faults
use Rattle.packet_stream.specs.Reader.{fresh}
use Rattle.packet_stream.specs.Stream.{stream_of, hand_all, Bytes}
use Rattle.packet_stream.proofs.Chunks as chunks
use Rattle.faults.specs.Faults.{check_header, check_line, check_ok, is_sound}
use Rattle.faults.specs.Search.{header_faults, line_faults}
use Rattle.faults.specs.Place.{FirstOffending}
use Rattle.faults.proofs.LeastHeader as header-search
use Rattle.faults.proofs.LeastLine as line-search
use Rattle.lines.specs.declared.Frame.TheVariants.{MalformedLine, MalformedOK}
use Rattle.lines.specs.Frame.{line_mark, ok_mark, starts, frame_of}
use Rattle.lines.specs.WellFormed.{is_line, is_ok}
use Rattle.lines.specs.Element as line
use Rattle.lines.specs.Canonical.{canonical}
use Rattle.lines.proofs.RoundTrip as lines
use Rattle.lines.proofs.Limits as line-limits
use Rattle.lines.proofs.Faults as line-tables
use Rattle.lines.proofs.Offending as line-faults
use Rattle.records.specs.declared.Record.{Record}
use Rattle.records.specs.Record.{record_of}
use Rattle.records.specs.Saved.{Saved, saved_of, record_form}
use Rattle.records.proofs.RoundTrip as records
use Rattle.listing.specs.Text.{heading, listing}
use Rattle.listing.specs.Lister as lister
use Rattle.listing.proofs.Listing as listings
use Rattle.calls.specs.declared.Outcome.{Outcome}
use Rattle.calls.specs.declared.Outcome.TheVariants.{Malformed as MalformedEnd}
use Rattle.calls.specs.Texts.{format_text}
use Rattle.calls.specs.Checks.{check_of}
use Rattle.calls.specs.Numbers.{status_number}
use Rattle.calls.proofs.Order as order
use Rattle.yapp.specs.declared.ReceiverState.TheVariants.{RH, CW, Ended}
use Rattle.yapp.specs.Steps as yapp
use Rattle.yapp.proofs.Carried as yapp-carried
use Rattle.bin.specs.declared.SenderState.TheVariants.{Wait}
use Rattle.bin.specs.declared.ReceiverState.TheVariants.{Waiting}
use Rattle.bin.specs.Steps as bin
use Rattle.bin.proofs.Carried as bin-carried
use Rattle.transfers.specs.World.{World, first, Safe}
use Rattle.transfers.specs.Demand.{Session, after, FairIn, FairAll, CalmIn, Ends, Completes, ComesToEndIn, ServesIn}
use Rattle.transfers.proofs.Demand as demand
use Rattle.transfers.proofs.Examples.{Agree, examples}
use Rattle.transfers.proofs.Examples as worked

-- ---- DEMAND 3 (crates/transfers). Of every file, name and area within document 01's limits (World) and every list of sessions, each by YAPP, or
-- by extended #BIN# with the same reading of the CRC at both ends, each a list of calls of any kind at its two ends over a link that keeps
-- bytes and their order (FairIn, FairAll):

-- after every call the kept bytes are the file's beginning, as many as came less each fall at RE, and the record says how many; every byte past the
-- file's length is as before the first session, and no byte changes but to the file's own, where it came (Safe)
pub safety : (w : World) (ss : List Session) → FairAll w ss (first w) → Safe w (after w ss (first w))
safety w = demand.safety w

-- if the last session has no timer and no operator's stop (CalmIn) and is run to its end (Ends), both ends report success and the area begins
-- with the whole file (Completes)
pub completion : (w : World) (ss : List Session) (s : Session) → FairAll w ss (first w) → FairIn w s (after w ss (first w))
    → CalmIn w s (after w ss (first w)) → Ends w s (after w ss (first w)) → Completes w s (after w ss (first w))
completion w = demand.completion w

-- such a session comes to its end, whoever makes its calls: what is still sent and taken is bounded, and where nothing is, it is run to its end
pub ending : (w : World) (ss : List Session) (s : Session) → FairAll w ss (first w) → FairIn w s (after w ss (first w))
    → CalmIn w s (after w ss (first w)) → ComesToEndIn w s (after w ss (first w))
ending w = demand.ending w

-- every call answers as the check has it, a refused one changes nothing, one that document 01 describes is taken, and nothing escapes the count
pub served : (w : World) (ss : List Session) (s : Session) → FairAll w ss (first w) → FairIn w s (after w ss (first w))
    → ServesIn w s (after w ss (first w))
served w = demand.served w

-- ---- THE CHECKS OF A CALL (crates/calls): 18, 20, 19, 40 in this order; 0 where the call is taken

pub check-ended : (reply frame lent given : ℕ) → status_number (check_of true reply frame lent given) ≡ 18
check-ended = order.ended

pub check-reply : (reply frame lent given : ℕ) → reply < 259 → status_number (check_of false reply frame lent given) ≡ 20
check-reply = order.small-reply

pub check-frame : (reply frame lent given : ℕ) → 259 ≤ reply → 256 < frame → status_number (check_of false reply frame lent given) ≡ 19
check-frame = order.long-frame

pub check-lent : (reply frame lent given : ℕ) → 259 ≤ reply → frame ≤ 256 → (lent ≡ given → ⊥)
    → status_number (check_of false reply frame lent given) ≡ 40
check-lent = order.wrong-length

pub check-taken : (reply frame lent given : ℕ) → 259 ≤ reply → frame ≤ 256 → lent ≡ given
    → status_number (check_of false reply frame lent given) ≡ 0
check-taken = order.taken

-- ---- PACKETS OF YAPP, both ways and in both modes (crates/packets): demand 2

-- what we write is a packet whole at its own length, and reads back as the same packet
pub packet-reads-back : (k : Bool) (c : packet.Content) (b : List ℕ) → packet.form_of k c ≡ bytes b
    → (span k b ≡ Whole (length b)) × (packet.content_of b (packet_of k b) ≡ c)
packet-reads-back = packets.reads-back

-- a whole packet in the form that we write is written back unchanged
pub packet-writes-back : (k : Bool) (b : List ℕ) → all is_byte b ≡ true → span k b ≡ Whole (length b) → in_form k b ≡ true
    → packet.form_of k (packet.content_of b (packet_of k b)) ≡ bytes b
packet-writes-back = packets-back.writes-back

-- and what we write is in that form, and fits a reply buffer of 259 bytes
pub packet-in-form : (k : Bool) (c : packet.Content) (b : List ℕ) → packet.form_of k c ≡ bytes b → in_form k b ≡ true
packet-in-form = packets.in-form

pub packet-fits : (k : Bool) (c : packet.Content) (b : List ℕ) → packet.form_of k c ≡ bytes b → length b ≤ 259
packet-fits = packets.reply-fits

-- only a DT differs between YAPP and YappC
pub plain-alike : (k m : Bool) (c : packet.Content) → is_block c ≡ false → packet.form_of k c ≡ packet.form_of m c
plain-alike = packets.plain-alike

-- what is read keeps to the limits of names, sizes, stamps, positions and blocks
pub header-limits : (k : Bool) (b : List ℕ) (h : Header) → packet_of k b ≡ HD h
    → (is_name (bytes_at b h.name) ≡ true) × (h.size ≤ 99999999) × (packet.stamp_fits h.stamp ≡ true)
header-limits = packet-limits.header-limits

pub resume-limits : (k : Bool) (b : List ℕ) (r : Resume) → packet_of k b ≡ RE r → r.position ≤ 99999999
resume-limits = packet-limits.resume-limits

pub block-limits : (k : Bool) (b : List ℕ) (d : Block) → all is_byte b ≡ true → packet_of k b ≡ DT d
    → (1 ≤ d.place.len) × (d.place.len ≤ 256) × (length (bytes_at b d.place) ≡ d.place.len)
block-limits = packet-limits.block-limits

-- ---- ANY CHUNKS (crates/packet_stream)

-- a fresh reader that is handed any bytes in any chunks finds the packets and drops of the bytes, takes all of them, and what is left waits in it
pub chunking : (k : Bool) (cs : List (List ℕ)) → Bytes (flatten cs)
    → chunks.Yields k (hand_all (fresh k) cs) (stream_of k (flatten cs)) (length (flatten cs))
chunking = chunks.chunks

-- so any two cuttings of the same bytes give the same
pub cutting : (k : Bool) (cs ds : List (List ℕ)) → flatten cs ≡ flatten ds → Bytes (flatten cs)
    → ((hand_all (fresh k) cs).pieces ≡ (hand_all (fresh k) ds).pieces) × ((hand_all (fresh k) cs).taken ≡ (hand_all (fresh k) ds).taken)
cutting = chunks.cutting

-- ---- LINES AND REPLIES OF #BIN#, both ways (crates/lines)

pub line-reads-back : (c : line.Element) (b : List ℕ) → line.form_of c ≡ bytes b → line.content_of b (frame_of b) ≡ c
line-reads-back = lines.reads-back

pub line-writes-back : (b : List ℕ) → canonical b ≡ true → line.form_of (line.content_of b (frame_of b)) ≡ bytes b
line-writes-back = lines.writes-back

pub line-in-form : (c : line.Element) (b : List ℕ) → line.form_of c ≡ bytes b → canonical b ≡ true
line-in-form = lines.written-canonical

-- what we write is a frame of 1 to 256 bytes
pub line-lengths : (c : line.Element) (b : List ℕ) → line.form_of c ≡ bytes b → (1 ≤ length b) × (length b ≤ 256)
line-lengths = line-limits.lengths

-- what is read keeps to the limits
pub line-within : (b : List ℕ) → line-limits.Within (line.content_of b (frame_of b))
line-within = line-limits.limits

-- ---- WHERE A HEADER, A LINE OR AN OK IS WRONG (crates/faults, packets, lines, yapp, bin): request 2026-02. FirstOffending says what the request
-- asks of a place

-- the place in a malformed header's data is that of the first offending byte, and at most 73
pub header-place : (k : Bool) (b : List ℕ) (f : Fault) → packet_of k b ≡ Malformed f
    → FirstOffending (λ (d : List ℕ). is_good (header_read d)) (front_data k b) f.offset × (f.offset ≤ 73)
header-place k b f e = (header-faults.place k b f e, header-faults.short k b f e)

-- number and place are those of the fault that counts: each looked for by itself, a part where the one before it is closed; the earliest place, then
-- the lower number
pub header-least : (k : Bool) (b : List ℕ) (f : Fault) → packet_of k b ≡ Malformed f → header_faults (front_data k b) ≡ Some f
header-least = header-faults.least

-- for any data the table and that search find the same, and they find a fault exactly where the reading calls a header malformed
pub header-table : (d : List ℕ) → check_header d ≡ header_faults d
header-table = header-search.least-header

pub header-agrees : (d : List ℕ) → is_good (header_read d) ≡ is_sound (check_header d)
header-agrees = header-tables.agrees-header

-- the same of a line, whose places count in the frame
pub line-place : (b : List ℕ) (f : Fault) → frame_of b ≡ MalformedLine f
    → FirstOffending (λ (s : List ℕ). is_line (frame_of s)) b f.offset × (f.offset ≤ 97)
line-place b f e = (line-faults.place-line b f e, line-faults.short-line b f e)

pub line-least : (b : List ℕ) (f : Fault) → frame_of b ≡ MalformedLine f → line_faults 5 (drop 5 b) ≡ Some f
line-least = line-faults.least

pub line-table : (b : List ℕ) → check_line b ≡ line_faults 5 (drop 5 b)
line-table = line-search.least-line

pub line-agrees : (b : List ℕ) → starts line_mark b ≡ true → is_line (frame_of b) ≡ is_sound (check_line b)
line-agrees = line-tables.agrees-line

-- and of an OK, whose number is always 7
pub ok-place : (b : List ℕ) (f : Fault) → frame_of b ≡ MalformedOK f
    → FirstOffending (λ (s : List ℕ). is_ok (frame_of s)) b f.offset × (f.offset ≤ 85)
ok-place b f e = (line-faults.place_ok b f e, line-faults.short_ok b f e)

pub ok-other : (b : List ℕ) (f : Fault) → frame_of b ≡ MalformedOK f → f.flaw ≡ Other
ok-other = line-faults.other

pub ok-agrees : (b : List ℕ) → starts ok_mark b ≡ true → is_ok (frame_of b) ≡ is_sound (check_ok b)
ok-agrees = line-tables.agrees-ok

-- every end carries it to its outcome: a receiver of YAPP that awaits a header enters CW with it and leaves CW with nothing else, a receiver of #BIN#
-- that awaits a line and a sender that awaits an OK end with it
pub header-carried : (t : yapp.ReceiverSettings) (r : yapp.ReceiverNow) (a : List ℕ) (k : Bool) (b : List ℕ) (f : Fault) → r.state ≡ RH false
    → packet_of k b ≡ Malformed f → yapp.receiver_takes t r a (packet.content_of b (packet_of k b)) ≡ yapp.fails r a (MalformedEnd f)
header-carried = yapp-carried.carried

pub header-kept : (t : yapp.ReceiverSettings) (r : yapp.ReceiverNow) (a : List ℕ) (o : Outcome) → r.state ≡ CW o → (c : packet.Content)
    → ((yapp.receiver_takes t r a c).state ≡ CW o) ⊎ ((yapp.receiver_takes t r a c).state ≡ Ended o)
header-kept = yapp-carried.stays

pub line-carried : (t : bin.ReceiverSettings) (v : Option Saved) (a : List ℕ) (x : ℕ) (b : List ℕ) (f : Fault) → frame_of (x ∷ b) ≡ MalformedLine f
    → bin.receiver_takes t Waiting v a (x ∷ b) ≡ bin.refuses v a (MalformedEnd f) format_text
line-carried = bin-carried.carried-line

pub ok-carried : (s : bin.SenderSettings) (file : List ℕ) (x : ℕ) (b : List ℕ) (f : Fault) → frame_of (x ∷ b) ≡ MalformedOK f
    → bin.sender_takes s file Wait (x ∷ b) ≡ bin.stops (MalformedEnd f)
ok-carried = bin-carried.carried-ok

-- ---- THE SAVED RECORD, both ways (crates/records)

pub record-reads-back : (s : Saved) (b : List ℕ) → record_form s ≡ bytes b → (r : Record) × (record_of b ≡ Some r) × (saved_of b r ≡ s)
record-reads-back = records.reads-back

pub record-writes-back : (b : List ℕ) (r : Record) → all is_byte b ≡ true → record_of b ≡ Some r → record_form (saved_of b r) ≡ bytes b
record-writes-back = records.writes-back

pub record-lengths : (s : Saved) (b : List ℕ) → record_form s ≡ bytes b → (14 ≤ length b) × (length b ≤ 81)
record-lengths = records.record-length

pub record-limits : (b : List ℕ) (r : Record) → record_of b ≡ Some r → (is_name (saved_of b r).name ≡ true) × (r.size ≤ 99999999)
record-limits = records.read-limits

-- ---- THE LISTING (crates/listing)

-- of any capture under 2^64 bytes, in any chunks and whatever the buffer d held: heading, lines and end are together the listing of the capture
pub lists : (cs : List (List ℕ)) (d : List ℕ) → Bytes (flatten cs) → length (flatten cs) < 2 ^ 64
    → heading ++ ((lister.hand_all lister.new cs d).text ++ lister.end_text (lister.hand_all lister.new cs d).lister) ≡ listing (flatten cs)
lists = listings.lists

-- ---- THE CRC (crates/crc)

-- entry i of the table is the remainder of i times x^16 by x^16 + x^12 + x^5 + 1
pub remainders : (i : ℕ) → i < 256 → get_or table i 0 ≡ entry i
remainders = crc-table.table_at

-- by either reading the CRC of a ++ b is the walk over b from the CRC of a
pub crc-append : (q : Reading) (a b : List ℕ) → crc_by q (a ++ b) ≡ walk_from q (crc_by q a) b
crc-append = crc.crc-append

-- the new reading of any file is the old one of the file with two zero bytes behind it
pub two-readings : (s : List ℕ) → ((i : ℕ) → get_or s i 0 < 256) → crc_by Augmented s ≡ crc_by Bare (s ++ (0 ∷ 0 ∷ []))
two-readings = readings.augmented

-- ---- NUMBERS IN DIGITS AND BYTES (crates/numbers), once over the width

pub decimal-read : (w n : ℕ) → n < 10 ^ 20 → n < 10 ^ suc w → read_decimal (suc w) (decimal n) ≡ Some n
decimal-read = numbers.read-decimal

pub decimal-back : (w v : ℕ) (s : List ℕ) → w ≤ 20 → read_decimal w s ≡ Some v → plain s ≡ true → decimal v ≡ s
decimal-back = numbers.decimal-back

pub hex-read : (v : ℕ) → v < 16 ^ 8 → read_hex (hex 8 v) ≡ Some v
hex-read = numbers.read-hex

pub hex-back : (v : ℕ) (s : List ℕ) → read_hex s ≡ Some v → capitals s ≡ true → hex 8 v ≡ s
hex-back = numbers.hex-back

pub little-read : (w v : ℕ) → w ≤ 4 → v < 256 ^ w → read_little (little w v) ≡ Some v
little-read = numbers.read-little

pub little-back : (v : ℕ) (s : List ℕ) → read_little s ≡ Some v → all is_byte s ≡ true → little (length s) v ≡ s
little-back = numbers.little-back

-- ---- DOCUMENT 01'S EXAMPLES MARKED P, AND REQUEST 2026-06'S, each what the paper prints or its rule gives (the list:
-- crates/transfers/proofs/Examples.antt)

pub examples-agree : Agree examples
examples-agree = worked.agree
