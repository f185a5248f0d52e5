-- `feed` is safe and ends: each step takes at least one byte of what is left, and its line is within the buffer.
use Rattle.std.proofs.Common.{◌≡◌, ◌≤◌, ◌<◌, false, List, ℕ, [], ◌∷◌, length, sym, ◌∙◌, length-take, length-drop}
use native.Mathlib.Omega.{arith}
use lib.Dec.{eqb}
use Rattle.fields.proofs.Lists.{never}
use Rattle.fields.specs.Lists.{part}
use Rattle.listing.specs.declared.Lister.{Lister}
use Rattle.listing.specs.Lister.{Stepped, step}
use Rattle.listing.proofs.Steps.{progress}
use Rattle.run_listing.proofs.feed.Goals as goal

some : (s : List ℕ) → eqb (length s) 0 ≡ false → 0 < length s
some [] h = never (sym h)
some (x ∷ s) h = omega arith

-- what a turn's step did with the front t of s
turn : (l : Lister) (s t line : List ℕ) {x : Stepped} → eqb (length s) 0 ≡ false → t ≡ part 0 7 s → step l t line ≡ x
    → (0 < x.listed.taken) × ((x.listed.taken ≤ length s) × (x.listed.written ≤ length x.out))
turn l s t line h p e =
    let k = some s h in
    let n : 0 < length t = rw p (simp (length-take, length-drop) (omega arith)) in
    let m : length t ≤ length s = rw p (simp (length-take, length-drop) (omega arith)) in
    let q = rw e at (progress l t line n) in
    (q.least, (omega (arith, q.most, m), q.fits))

pub loop-rest-smaller : goal.loop-rest-smaller
loop-rest-smaller g c =
    let w = turn _ _ _ _ (sym c.is_empty.ensures ∙ c.loop-rest-test.true) c.part.ensures c.step-got.ensures in
    simp (length-take, length-drop) (omega (arith, w.0, w.1.0))

pub slice_bounds-rest-start : goal.slice_bounds-rest-start
slice_bounds-rest-start g c = (turn _ _ _ _ (sym c.is_empty.ensures ∙ c.loop-rest-test.true) c.part.ensures c.step-got.ensures).1.0

pub slice_bounds-rest-count : goal.slice_bounds-rest-count
slice_bounds-rest-count g c = (turn _ _ _ _ (sym c.is_empty.ensures ∙ c.loop-rest-test.true) c.part.ensures c.step-got.ensures).1.0

pub slice_bounds-line-end : goal.slice_bounds-line-end
slice_bounds-line-end g c = (turn _ _ _ _ (sym c.is_empty.ensures ∙ c.loop-rest-test.true) c.part.ensures c.step-got.ensures).1.1

pub slice_bounds-put-end : goal.slice_bounds-put-end
slice_bounds-put-end g c =
    simp length-take (omega (arith, (turn _ _ _ _ (sym c.is_empty.ensures ∙ c.loop-rest-test.true) c.part.ensures c.step-got.ensures).1.1))
