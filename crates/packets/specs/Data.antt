-- What HD, a malformed HD, DT and RE carry: of such a packet a function has its data; any other gives `other`.
use Rattle.std.specs.Prelude.{ℕ, Bool, List, Option}
use Rattle.fields.specs.declared.Fault.{Fault}
use Rattle.fields.specs.Faults.{no_fault}
use Rattle.packets.specs.Content.{Content, rr, rf, af, at, ca, rt, si, ef, et, ri, nr, cn, tx, hd, malformed, dt, re, dropped, unfinished}

-- h has an HD's data, w what is wrong with a malformed one, d a DT's data, r an RE's
abbrev pub on_data : {A : Type 0} → Content → (List ℕ → ℕ → Option ℕ → A) → (Fault → A) → (List ℕ → Bool → A) → (ℕ → Bool → A) → A → A
on_data rr h w d r other = other
on_data rf h w d r other = other
on_data af h w d r other = other
on_data at h w d r other = other
on_data ca h w d r other = other
on_data rt h w d r other = other
on_data si h w d r other = other
on_data ef h w d r other = other
on_data et h w d r other = other
on_data (ri s) h w d r other = other
on_data (nr s) h w d r other = other
on_data (cn s) h w d r other = other
on_data (tx s) h w d r other = other
on_data (hd name size stamp) h w d r other = h name size stamp
on_data (malformed f) h w d r other = w f
on_data (dt s sound) h w d r other = d s sound
on_data (re position checked) h w d r other = r position checked
on_data (dropped n) h w d r other = other
on_data unfinished h w d r other = other

-- HD: name, size, stamp
unfoldable pub on_header : {A : Type 0} → Content → (List ℕ → ℕ → Option ℕ → A) → A → A
on_header c f other = on_data c f (λ w. other) (λ d sound. other) (λ position checked. other) other

-- DT: data, and whether the checksum agrees
unfoldable pub on_block : {A : Type 0} → Content → (List ℕ → Bool → A) → A → A
on_block c f other = on_data c (λ name size stamp. other) (λ w. other) f (λ position checked. other) other

-- RE: position, and whether `C` stands
unfoldable pub on_resume : {A : Type 0} → Content → (ℕ → Bool → A) → A → A
on_resume c f other = on_data c (λ name size stamp. other) (λ w. other) (λ d sound. other) f other

-- a malformed HD: what is wrong and where
unfoldable pub fault_of : Content → Fault
fault_of c = on_data c (λ name size stamp. no_fault) (λ w. w) (λ d sound. no_fault) (λ position checked. no_fault) no_fault
