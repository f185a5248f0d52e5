-- Every packet but a header, well formed or not. Assumes nothing.
use Rattle.std.specs.Prelude.{Option}
use mathlib.Core.Path.{◌≡◌, refl}
use mathlib.Core.List.{List}
use Prim.Native.Nat.{ℕ}
use Rattle.fields.specs.declared.Fault.{Fault}
use Rattle.fields.specs.Faults.{no_fault}
use Rattle.packets.specs.Content.{content_of}
use Rattle.packets.specs.Data.{on_header, fault_of}
use Rattle.packets.specs.declared.Header.{Header}
use Rattle.packets.specs.declared.Packet.{Packet}
use Rattle.packets.specs.declared.Packet.TheVariants.{RR, RF, AF, AT, CA, RT, SI, RI, HD, Malformed, DT, EF, ET, NR, RE, CN, TX, Dropped, Open}

pub no_header : {A : Type 0} (s : List ℕ) (f : List ℕ → ℕ → Option ℕ → A) (other : Fault → A) (p : Packet)
    → ((x : Header) → p ≡ HD x → ⊥) → ((x : Fault) → p ≡ Malformed x → ⊥)
    → on_header (content_of s p) f (other (fault_of (content_of s p))) ≡ other no_fault
unfolding on_header fault_of content_of
no_header s f other RR h m = refl
no_header s f other RF h m = refl
no_header s f other AF h m = refl
no_header s f other AT h m = refl
no_header s f other CA h m = refl
no_header s f other RT h m = refl
no_header s f other SI h m = refl
no_header s f other (RI x) h m = refl
no_header s f other (HD x) h m = absurd (h x refl)
no_header s f other (Malformed x) h m = absurd (m x refl)
no_header s f other (DT x) h m = refl
no_header s f other EF h m = refl
no_header s f other ET h m = refl
no_header s f other (NR x) h m = refl
no_header s f other (RE x) h m = refl
no_header s f other (CN x) h m = refl
no_header s f other (TX x) h m = refl
no_header s f other (Dropped x) h m = refl
no_header s f other Open h m = refl
