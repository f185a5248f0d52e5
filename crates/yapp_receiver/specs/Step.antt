-- Only contracts of private functions cite this.
-- What a step of the code is in the definitions of `yapp`: a move of the receiver, its record as the struct holds it and a new name by its
-- place in the pending bytes.
use Rattle.calls.specs.declared.Entry.{Entry}
use Rattle.std.specs.Prelude.{ℕ, Bool, List, [], ◌∷◌, ◌++◌, None, Option, Some}
use Rattle.fields.specs.declared.Place.{Place}
use Rattle.fields.specs.Lists.{bytes_at}
use Rattle.fields.specs.Buffer.{appended}
use Rattle.packets.specs.Content.{Content, rr, rf, af, at, ca, rt, nr, cn, re}
use Rattle.calls.specs.Saving.{keeping_of, name_of}
use Rattle.yapp.specs.declared.ReceiverState.{ReceiverState}
use Rattle.yapp.specs.Steps.{ReceiverMove, room_text, have_text, differs_text, one_text}
use Rattle.yapp_receiver.specs.declared.step.Step.{Step}
use Rattle.yapp_receiver.specs.declared.step.Out.{Out}
use Rattle.yapp_receiver.specs.declared.step.Out.TheVariants.{Nothing as Silent, RR, RF, RT, RE, AF, AT, CA, CN, Room, Have, Differs, One}

-- the texts of NR, one behind the other
abbrev pub texts : List ℕ
texts = room_text ++ (have_text ++ (differs_text ++ one_text))

-- the packets that are sent
abbrev pub contents_of : Bool → Out → List Content
contents_of checked Silent = []
contents_of checked RR = rr ∷ []
contents_of checked RF = rf ∷ []
contents_of checked RT = rt ∷ []
contents_of checked (RE position) = re position checked ∷ []
contents_of checked AF = af ∷ []
contents_of checked AT = at ∷ []
contents_of checked CA = ca ∷ []
contents_of checked CN = cn [] ∷ []
contents_of checked Room = nr room_text ∷ []
contents_of checked Have = nr have_text ∷ []
contents_of checked Differs = nr differs_text ∷ []
contents_of checked One = nr one_text ∷ []

-- what a move leaves: the record without its name, and the array with the name at its front
pub record Reached : Type 0 where
  pub state : ReceiverState
  pub checked : Bool
  pub keeping : Option Entry
  pub name : List ℕ
  pub area : List ℕ
  pub out : List Content
  pub stored : ℕ

abbrev pub reached : List ℕ → ReceiverMove → Reached
reached name a = record {
  state = a.state;
  checked = a.checked;
  keeping = keeping_of a.saved;
  name = appended 0 (name_of a.saved) name;
  area = a.area;
  out = a.out;
  stored = a.stored;
}

-- the array with a name laid over its front, if there is a new one, which stands at a place in the pending bytes p
abbrev pub named_by : List ℕ → Option Place → List ℕ → List ℕ
named_by p None name = name
named_by p (Some place) name = appended 0 (bytes_at p place) name

-- what a step leaves, with the pending bytes p and the area a
abbrev pub reached_by : List ℕ → List ℕ → Step → List ℕ → Reached
reached_by p name s a = record {
  state = s.state;
  checked = s.checked;
  keeping = s.keeping;
  name = named_by p s.name name;
  area = a;
  out = contents_of s.checked s.out;
  stored = s.stored;
}

-- the record with another kept count
abbrev pub kept_at : Option Entry → ℕ → Option Entry
kept_at None n = None
kept_at (Some e) n = Some (record { named = e.named; size = e.size; kept = n; stamp = e.stamp })
