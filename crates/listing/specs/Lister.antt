-- What the lister does with one chunk, and at the end.
use Rattle.std.specs.Prelude.{ℕ, zero, suc, ◌+◌, ◌%◌, ◌^◌, false, List, [], ◌∷◌, ◌++◌, length, take, drop}
use Rattle.fields.specs.Buffer.{over}
use Rattle.packets.specs.declared.spans.Span.{Span}
use Rattle.packets.specs.declared.spans.Span.TheVariants.{Open, Whole, Drop}
use Rattle.packets.specs.declared.Packet.{Packet}
use Rattle.packets.specs.Span.{size_of}
use Rattle.packets.specs.Content.{content_of}
use Rattle.packet_stream.specs.declared.Received.{Received}
use Rattle.packet_stream.specs.Reader.{fresh, receive}
use Rattle.listing.specs.declared.Lister.{Lister}
use Rattle.listing.specs.declared.Listed.{Listed}
use Rattle.listing.specs.Line.{line_of, ending}

abbrev pub new : Lister
new = record { reader = fresh false; offset = 0 }

-- the offset behind n bytes; past 2 ^ 64 it starts from 0 again
abbrev pub advanced : ℕ → ℕ → ℕ
advanced offset n = (offset + n) % 2 ^ 64

-- the line of a packet or a drop; none while a packet is open
abbrev pub line_by : ℕ → Span → Packet → List ℕ
line_by offset Open p = []
line_by offset (Whole n) p = line_of offset (content_of [] p) n
line_by offset (Drop n) p = line_of offset (content_of [] p) n

-- what a step leaves: its answer, and the buffer with the line at its front
pub record Stepped : Type 0 where
  pub listed : Listed
  pub out : List ℕ

abbrev pub stepped : ℕ → Received → List ℕ → Stepped
stepped offset a d = record {
  listed = record {
    lister = record { reader = a.reader; offset = advanced offset (size_of a.found) };
    taken = a.taken;
    written = length (line_by offset a.found a.packet);
  };
  out = over 0 (line_by offset a.found a.packet) d;
}

abbrev pub step : Lister → List ℕ → List ℕ → Stepped
step l chunk d = stepped l.offset (receive l.reader chunk) d

-- the last lines
abbrev pub end_text : Lister → List ℕ
end_text l = ending l.offset l.reader.filled (advanced l.offset l.reader.filled)

-- what a lister wrote over some chunks: the lister, the buffer, and the lines in their order
pub record Run : Type 0 where
  pub lister : Lister
  pub out : List ℕ
  pub text : List ℕ

abbrev pub wrote : Stepped → Run → Run
wrote a m = record { lister = m.lister; out = m.out; text = take a.listed.written a.out ++ m.text }

-- one chunk handed over: each step gets what the step before did not take, and the buffer it left. A step takes at least one byte, so as
-- many steps as the chunk has bytes are enough
unfoldable pub hand_over : ℕ → Lister → List ℕ → List ℕ → Run
hand_over zero l s d = record { lister = l; out = d; text = [] }
hand_over (suc n) l s d =
    wrote (step l s d) (hand_over n (step l s d).listed.lister (drop (step l s d).listed.taken s) (step l s d).out)

abbrev pub run_behind : Run → Run → Run
run_behind a b = record { lister = b.lister; out = b.out; text = a.text ++ b.text }

-- chunk after chunk
unfoldable pub hand_all : Lister → List (List ℕ) → List ℕ → Run
hand_all l [] d = record { lister = l; out = d; text = [] }
hand_all l (c ∷ cs) d =
    run_behind (hand_over (length c) l c d) (hand_all (hand_over (length c) l c d).lister cs (hand_over (length c) l c d).out)
