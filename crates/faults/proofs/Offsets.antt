-- What `s.iter().enumerate().skip(n)` yields: the bytes of s from n on, each with its offset in s. Assumes nothing.
use Rattle.std.proofs.Common.{◌≡◌, ℕ, ◌+◌, ◌-◌, ◌<◌, List, length, get_or, drop, ap, ◌∙◌, arith, Bor, Iter, Option, Some, None}
use Rattle.std.specs.declared.iter.Enumerate.{Enumerate}
use Rattle.std.specs.declared.iter.Skip.{Skip}
use Rattle.std.specs.Iterator.{Yields}
use Rattle.std.specs.Iterator.Adapters.{skip_source, skip_count, skip_steps, enumerate_source, enumerate_count, enumerate_steps}
use Rattle.std.specs.Slice.Iter.{iter_rest}
use Rattle.std.specs.List.{enumerate_from}
use Rattle.std.proofs.iter.Yields.{fronts}
use Rattle.std.proofs.lemmas.Grind.{get_or_default_zero}
use Rattle.std.proofs.lemmas.Iterator.{YieldsList, YieldsList-from_slice}
use Rattle.std.proofs.lemmas.Iterator.Adapters.{YieldsList-from_skip}
use Rattle.std.proofs.lemmas.Iterator.Consumers.{YieldsList-at, YieldsList-from_enumerate, YieldsList-turn, YieldsList-end}
use Rattle.std.proofs.lemmas.List.{get_or-drop, length-drop}
use Rattle.std.proofs.lemmas.List.FromFn.{get_or-enumerate_from, length-enumerate_from}

abbrev pub Steps : Skip (Enumerate (Iter ℕ)) → Option (ℕ × Bor ℕ) → Skip (Enumerate (Iter ℕ)) → Type 0
Steps = skip_steps (enumerate_steps fronts)

pub record Offsets (s : List ℕ) (n : ℕ) (t : Skip (Enumerate (Iter ℕ))) : Type 0 where
  pub yields : YieldsList Steps (λ p. (p.0, p.1.now)) t (drop n (enumerate_from 0 s))

pub offsets : {s : List ℕ} {n : ℕ} {a : Iter ℕ} {b : Enumerate (Iter ℕ)} {d t : Skip (Enumerate (Iter ℕ))}
    → iter_rest a ≡ s → enumerate_source b ≡ a → enumerate_count b ≡ 0 → skip_source d ≡ b → skip_count d ≡ n → t ≡ d → Offsets s n t
offsets {s} {n} r e c k m i = record {
  yields = YieldsList-at i (YieldsList-from_skip n (YieldsList-at k (YieldsList-from_enumerate (YieldsList-at e (YieldsList-from_slice s r)) c)) m);
}

module _ {s : List ℕ} {n : ℕ} {t : Skip (Enumerate (Iter ℕ))} (o : Offsets s n t) (xs : List (ℕ × Bor ℕ)) (u : Skip (Enumerate (Iter ℕ))) (y : Yields Steps t xs u) where
  -- behind the items xs
  pub offset_turn : (r : Option (ℕ × Bor ℕ)) (w : Skip (Enumerate (Iter ℕ))) (p : ℕ × Bor ℕ) → r ≡ Some p → Steps u r w
      → (n + length xs < length s) × (p.0 ≡ n + length xs) × (p.1.now ≡ get_or s (n + length xs) 0)
  offset_turn r w p is st =
      let all = enumerate_from 0 s in
      let k = length xs in
      let h = YieldsList-turn o.yields xs u y r w p is st in
      let l : n + k < length s = omega (arith, h.0, length-drop n all, length-enumerate_from 0 s) in
      let e = h.1 ∙ get_or-drop n all k (p.0, p.1.now) ∙ get_or-enumerate_from 0 s (n + k) (p.0, p.1.now) l in
      let i = ap (λ (q : ℕ × ℕ). q.0) e in
      (l, omega (arith, i), ap (λ (q : ℕ × ℕ). q.1) e ∙ get_or_default_zero s (n + k) p.1.now l)

  pub offset_end : (r : Option (ℕ × Bor ℕ)) (w : Skip (Enumerate (Iter ℕ))) → r ≡ None → Steps u r w → length xs ≡ length s - n
  offset_end r w is st =
      let h = YieldsList-end o.yields xs u y r w is st in
      h.1 ∙ length-drop n (enumerate_from 0 s) ∙ ap (λ (k : ℕ). k - n) (length-enumerate_from 0 s)
