-- `list::list_chunk` is safe and ends: each step takes at least one byte of the chunk. Assumes nothing.
use mathlib.Core.Path.{◌≡◌, sym, ap, ◌∙◌}
use mathlib.Core.Bool.{false}
use mathlib.Core.List.{List, [], ◌∷◌}
use Prim.Native.Nat.{ℕ, ◌<◌}
use native.Mathlib.Omega.{arith}
use lib.Dec.{eqb}
use lib.ListN.{length, take, length-take, length-drop}
use Rattle.fields.proofs.Lists.{never}
use Rattle.list.proofs.Room.{append-within}
use Rattle.listing.specs.declared.Lister.{Lister}
use Rattle.listing.specs.Lister.{Stepped, step}
use Rattle.listing.proofs.Steps.{Progress, progress}
use Rattle.list.proofs.list_chunk.Goals as goal

some : (s : List ℕ) → eqb (length s) 0 ≡ false → 0 < length s
some [] h = never (sym h)
some (x ∷ s) h = omega arith

-- what a turn's step did
turn : (l : Lister) (s line : List ℕ) {x : Stepped} → eqb (length s) 0 ≡ false → step l s line ≡ x → Progress s x
turn l s line h e = rw e at (progress l s line (some s h))

pub slice_bounds-rest-start : goal.slice_bounds-rest-start
slice_bounds-rest-start c = (turn _ _ _ (sym c.is_empty.ensures ∙ c.loop-rest-test.true) c.step-got.ensures).most

pub slice_bounds-rest-count : goal.slice_bounds-rest-count
slice_bounds-rest-count c = (turn _ _ _ (sym c.is_empty.ensures ∙ c.loop-rest-test.true) c.step-got.ensures).most

pub slice_bounds-line-end : goal.slice_bounds-line-end
slice_bounds-line-end c = (turn _ _ _ (sym c.is_empty.ensures ∙ c.loop-rest-test.true) c.step-got.ensures).fits

pub slice_bounds-append_bytes-end : goal.slice_bounds-append_bytes-end
slice_bounds-append_bytes-end c =
    simp length-take (omega (arith, (turn _ _ _ (sym c.is_empty.ensures ∙ c.loop-rest-test.true) c.step-got.ensures).fits))

pub loop-rest-smaller : goal.loop-rest-smaller
loop-rest-smaller c =
    let p = turn _ _ _ (sym c.is_empty.ensures ∙ c.loop-rest-test.true) c.step-got.ensures in
    simp (length-take, length-drop) (omega (arith, p.least, p.most))

pub loop-rest-preserved : goal.loop-rest-preserved
loop-rest-preserved c =
    let o = c.loop-rest in
    let a = c.append_bytes-count in
    let w = append-within o.count (take c.step-got.result.written c.step-got.new.out) o.out (omega arith) in
    (rw (a.ensures.0, a.ensures.1) w.0, ap length a.ensures.1 ∙ w.1 ∙ o.invariant.1)
