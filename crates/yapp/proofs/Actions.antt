-- Actions that have the same number are the same.
-- Assumes nothing.
use mathlib.Core.Path.{◌≡◌, refl, ap, sym, ◌∙◌}
use mathlib.Core.List.{[], ◌∷◌}
use Prim.Native.Nat.{ℕ}
use Rattle.packets.specs.Kind.{look}
use Rattle.yapp.specs.Rows.{Action, nothing, abort, refused, cancelled, success, end_cw, answers, send_header, start, start_checked, resume, send_trailer, ready, trailer, judge, second, store, eof}
use Rattle.yapp.specs.Table.{action_number}

-- the action of a number
action_of : ℕ → Action
action_of n =
    look n
    ((0, nothing) ∷ (1, abort) ∷ (2, refused) ∷ (3, cancelled) ∷ (4, success) ∷ (5, end_cw) ∷ (6, answers) ∷ (7, send_header) ∷ (8, start)
    ∷ (9, start_checked) ∷ (10, resume) ∷ (11, send_trailer) ∷ (12, ready) ∷ (13, trailer) ∷ (14, judge) ∷ (15, second) ∷ (16, store) ∷ [])
    eof

back : (a : Action) → action_of (action_number a) ≡ a
unfolding action_of action_number look
back nothing = refl
back abort = refl
back refused = refl
back cancelled = refl
back success = refl
back end_cw = refl
back answers = refl
back send_header = refl
back start = refl
back start_checked = refl
back resume = refl
back send_trailer = refl
back ready = refl
back trailer = refl
back judge = refl
back second = refl
back store = refl
back eof = refl

pub action-same : (a b : Action) → action_number a ≡ action_number b → a ≡ b
action-same a b e = sym (back a) ∙ ap action_of e ∙ back b
