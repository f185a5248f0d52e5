-- A malformed header carries what is wrong, and where. (Change request 2026-02.) Assumes nothing.
use Rattle.packets.specs.declared.Header.{Header}
use Rattle.packets.specs.declared.Resume.{Resume}
use Rattle.std.specs.Prelude.{None, Option, Some}
use mathlib.Core.Path.{◌≡◌, refl, sym, ap, ◌∙◌}
use mathlib.Core.Bool.{Bool, false}
use mathlib.Core.List.{List, [], ◌∷◌}
use Prim.Native.Nat.{ℕ, ◌≤◌}
use native.Mathlib.Omega.{arith}
use lib.ListN.{take, get_or}
use lib.Dec.{eqb}
use Rattle.fields.specs.declared.Fault.{Fault}
use Rattle.fields.specs.declared.Flaw.TheVariants.{NameOpen}
use Rattle.fields.specs.declared.Place.{Place}
use Rattle.fields.specs.Lists.{up_to}
use Rattle.fields.proofs.Lists.{never, either}
use Rattle.faults.specs.Faults.{end_of, check_from, check_header, fault_in, is_sound}
use Rattle.faults.specs.Search.{header_faults}
use Rattle.faults.specs.Place.{FirstOffending}
use Rattle.faults.proofs.LeastHeader.{least-header}
use Rattle.faults.proofs.Place.{short-header, place-header}
use Rattle.faults.proofs.Offending.{first-offending}
use Rattle.packets.specs.declared.spans.Span.{Span}
use Rattle.packets.specs.declared.spans.Span.TheVariants.{Open as Unfinished, Whole, Drop}
use Rattle.packets.specs.declared.Packet.{Packet}
use Rattle.packets.specs.declared.Packet.TheVariants.{RR, RF, AF, AT, CA, RT, SI, RI, Malformed, DT, EF, ET, NR, RE, CN, TX, Dropped, Open}
use Rattle.packets.specs.Span.{known, paired, counted, total, span_at, span, lead, trail, place_at}
use Rattle.packets.specs.Packet.{header_read, header_by, header_packet, resume_read, nak_by, acknowledge_of, place_of, data_of, whole_of, packet_in, packet_of, data_in, front_data}
use Rattle.packets.specs.Content.{content_of}
use Rattle.packets.specs.Kind.{kind_of, BadHD}
use Rattle.packets.specs.Data.{fault_of}
use Rattle.packets.specs.Canonical.{is_good}
use Rattle.packets.proofs.Faults.{agrees-header}

-- the kind of a packet, which tells a malformed header from every other
abbrev kind : Packet → ℕ
kind p = kind_of (content_of [] p)

-- ---- From the packet to the data

module _ (checked : Bool) (f : Fault) (d : List ℕ) where
  -- where p is malformed with f, so is the header with the data d
  abbrev Owes : Packet → Type 0
  Owes p = p ≡ Malformed f → header_packet d ≡ Malformed f

  no : (p : Packet) → (kind p ≡ BadHD → ⊥) → Owes p
  unfolding kind_of content_of
  no p h e = absurd (h (ap kind e))

  acknowledges : (b : ℕ) → Owes (acknowledge_of b)
  unfolding acknowledge_of kind_of content_of
  acknowledges b =
      either Owes (eqb b 1) RR _ (λ _. no RR (λ h. omega arith)) (λ _.
      either Owes (eqb b 2) RF _ (λ _. no RF (λ h. omega arith)) (λ _.
      either Owes (eqb b 3) AF _ (λ _. no AF (λ h. omega arith)) (λ _.
      either Owes (eqb b 4) AT _ (λ _. no AT (λ h. omega arith)) (λ _.
      either Owes (eqb b 5) CA RT (λ _. no CA (λ h. omega arith)) (λ _. no RT (λ h. omega arith))))))

  refuses : (r : Option Resume) (p : Place) → Owes (nak_by r p)
  unfolding kind_of content_of
  refuses (Some r) p = no (RE r) (λ h. omega arith)
  refuses None p = no (NR p) (λ h. omega arith)

  whole : (b : List ℕ) → data_of checked b ≡ d → Owes (whole_of checked b)
  unfolding whole_of kind_of content_of
  whole b e =
      either Owes (eqb (get_or b 0 0) 1) _ _ (λ _ g. sym (ap header_packet e) ∙ g) (λ _.
      either Owes (eqb (get_or b 0 0) 2) _ _ (λ _. no (DT _) (λ h. omega arith)) (λ _.
      either Owes (eqb (get_or b 0 0) 3) EF _ (λ _. no EF (λ h. omega arith)) (λ _.
      either Owes (eqb (get_or b 0 0) 4) ET _ (λ _. no ET (λ h. omega arith)) (λ _.
      either Owes (eqb (get_or b 0 0) 5) _ _
      (λ _. either Owes (eqb (get_or b 1 0) 1) SI _ (λ _. no SI (λ h. omega arith)) (λ _. no (RI (place_of checked b)) (λ h. omega arith))) (λ _.
      either Owes (eqb (get_or b 0 0) 6) _ _ (λ _. acknowledges (get_or b 1 0)) (λ _.
      either Owes (eqb (get_or b 0 0) 0x10) (TX (place_of checked b)) _ (λ _. no (TX (place_of checked b)) (λ h. omega arith)) (λ _.
      either Owes (eqb (get_or b 0 0) 0x15) _ (CN (place_of checked b)) (λ _. refuses (resume_read (data_of checked b)) (place_of checked b))
      (λ _. no (CN (place_of checked b)) (λ h. omega arith)))))))))

-- a malformed packet is a header, and its data are malformed
pub malformed-data : (checked : Bool) (b : List ℕ) (f : Fault) → packet_of checked b ≡ Malformed f → header_packet (front_data checked b) ≡ Malformed f
unfolding kind_of content_of
malformed-data checked b f e = go (span checked b) e
  where
    go : (v : Span) → packet_in checked v b ≡ Malformed f → header_packet (data_in checked v b) ≡ Malformed f
    go Unfinished h = no checked f [] Open (λ g. omega arith) h
    go (Drop n) h = no checked f [] (Dropped n) (λ g. omega arith) h
    go (Whole n) h = whole checked f (data_of checked (take n b)) (take n b) refl h

-- ---- From the data to the fault

-- the table has found what the packet carries
pub malformed-fault : (d : List ℕ) (f : Fault) → header_packet d ≡ Malformed f → check_header d ≡ Some f
unfolding kind_of content_of fault_of
malformed-fault d f e = go (header_read d) refl (check_header d) refl
  where
    go : (v : Option Header) → header_read d ≡ v → (c : Option Fault) → check_header d ≡ c → c ≡ Some f
    go (Some h) p c q = let z = ap kind (sym (ap (header_by d) p) ∙ e) in absurd (omega arith)
    go None p None q = never (sym (ap is_good p) ∙ agrees-header d ∙ ap is_sound q)
    go None p (Some g) q =
        ap (λ (x : Packet). Some (fault_of (content_of [] x)))
        (sym (ap (λ (c : Option Fault). Malformed (fault_in c)) q) ∙ sym (ap (header_by d) p) ∙ e)

-- ---- The theorems, over the packet that callers are given

module _ (checked : Bool) (b : List ℕ) (f : Fault) (e : packet_of checked b ≡ Malformed f) where
  found : check_header (front_data checked b) ≡ Some f
  found = malformed-fault (front_data checked b) f (malformed-data checked b f e)

  -- THE LAW: the place is that of the first offending byte in the header's data
  pub place : FirstOffending (λ (d : List ℕ). is_good (header_read d)) (front_data checked b) f.offset
  place =
      first-offending (λ (d : List ℕ). is_good (header_read d)) check_header (front_data checked b) f.offset
      (place-header (front_data checked b) f found) (λ m t h. agrees-header _)

  pub short : f.offset ≤ 73
  short = short-header (front_data checked b) f found

  -- THE LAW: number and place are those of the fault that counts, each looked for by itself
  pub least : header_faults (front_data checked b) ≡ Some f
  least = sym (least-header (front_data checked b)) ∙ found

-- ---- There are such packets: 01 00, a header without data

example : packet_of false (1 ∷ 0 ∷ []) ≡ Malformed (record { flaw = NameOpen; offset = 0 })
unfolding known paired counted total span_at lead trail place_at whole_of header_read up_to check_header check_from end_of
example = refl
