-- Laws of a packet's kind and of what a packet carries.
-- Assumes nothing.
use mathlib.Core.Path.{◌≡◌, refl}
use mathlib.Core.Bool.{Bool}
use mathlib.Core.List.{List, []}
use Prim.Native.Nat.{ℕ}
use Rattle.packets.specs.Content.{Content, rr, rf, af, at, ca, rt, si, ef, et, ri, nr, cn, tx, hd, malformed, dt, re, dropped, unfinished, content_of}
use Rattle.packets.specs.Kind.{kind_of}
use Rattle.packets.specs.Data.{on_resume}
use Rattle.packets.specs.declared.Packet.{Packet}
use Rattle.packets.specs.declared.Packet.TheVariants.{RR, RF, AF, AT, CA, RT, SI, RI, HD, Malformed, DT, EF, ET, NR, RE, CN, TX, Dropped, Open}

-- the kind does not depend on the bytes at a packet's places
pub kind-same : (s : List ℕ) (p : Packet) → kind_of (content_of s p) ≡ kind_of (content_of [] p)
unfolding kind_of content_of
kind-same s RR = refl
kind-same s RF = refl
kind-same s AF = refl
kind-same s AT = refl
kind-same s CA = refl
kind-same s RT = refl
kind-same s SI = refl
kind-same s (RI p) = refl
kind-same s (HD h) = refl
kind-same s (Malformed f) = refl
kind-same s (DT b) = refl
kind-same s EF = refl
kind-same s ET = refl
kind-same s (NR p) = refl
kind-same s (RE r) = refl
kind-same s (CN p) = refl
kind-same s (TX p) = refl
kind-same s (Dropped n) = refl
kind-same s Open = refl

-- what holds of what an RE gives, and of what stands for any other packet
pub resume-cases : {A : Type 0} (P : A → Type 0) (c : Content) (f : ℕ → Bool → A) (other : A)
    → ((position : ℕ) (checked : Bool) → P (f position checked)) → P other → P (on_resume c f other)
unfolding on_resume
resume-cases P rr f other h o = o
resume-cases P rf f other h o = o
resume-cases P af f other h o = o
resume-cases P at f other h o = o
resume-cases P ca f other h o = o
resume-cases P rt f other h o = o
resume-cases P si f other h o = o
resume-cases P ef f other h o = o
resume-cases P et f other h o = o
resume-cases P (ri s) f other h o = o
resume-cases P (nr s) f other h o = o
resume-cases P (cn s) f other h o = o
resume-cases P (tx s) f other h o = o
resume-cases P (hd name size stamp) f other h o = o
resume-cases P (malformed w) f other h o = o
resume-cases P (dt d sound) f other h o = o
resume-cases P (re position checked) f other h o = h position checked
resume-cases P (dropped n) f other h o = o
resume-cases P unfinished f other h o = o
