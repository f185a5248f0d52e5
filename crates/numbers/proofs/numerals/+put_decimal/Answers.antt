-- The digits of the quotient and the last digit go over all but the last byte of buf; where they fit, the byte that is to stand behind follows
-- them.
use mathlib.Core.Path.{◌≡◌, refl, sym, ◌∙◌}
use mathlib.Core.List.{List, [], ◌∷◌, ◌++◌}
use Prim.Native.Nat.{ℕ, ◌<◌, ◌≤◌, ◌+◌, ◌-◌, ◌/◌, ◌%◌}
use native.Mathlib.Omega.{arith}
use lib.ListN.{length, take, length-append}
use lib.Seq.{length_front}
use Rattle.fields.specs.Buffer.{placed, placed_count}
use Rattle.numbers.specs.Writing.{decimal}
use Rattle.numbers.proofs.numerals.Writing.{decimal-small, decimal-more, decimal-some}
use Rattle.fields.proofs.Buffer.{placed-fits, placed-short, count_fits, count-short, set-over, grow-set, Snoc, snoc-fits, snoc-count, snoc-refused, snoc-more}
use Rattle.numbers.proofs.numerals.+put_decimal.Goals as goal

-- two bytes at least are needed
pub returns-then-buf-lt2 : goal.returns-then-buf-lt2
returns-then-buf-lt2 t c =
    let a = c.args in
    let bs = decimal a.n ++ (a.end ∷ []) in
    let h : length a.buf.now < length bs = simp length-append (omega (arith, decimal-some a.n)) in
    (sym (count-short bs a.buf.now h), sym (placed-short bs a.buf.now h))

-- one digit
pub returns-then-n-lt10 : goal.returns-then-n-lt10
returns-then-n-lt10 t c =
    let a = c.args in
    let d = a.buf.now in
    let h : 2 ≤ length d = omega arith in
    let x = 48 + a.n % 10 in
    rw (decimal-small a.n c.if-n-lt10.true) (
      sym (count_fits (x ∷ a.end ∷ []) d h),
      grow-set (x ∷ []) d _ 1 (set-over d 0 x (omega arith)) refl a.end h ∙ sym (placed-fits (x ∷ a.end ∷ []) d h),
    )

-- what the call left: all but the last byte written
abbrev front : ℕ → List ℕ
front n = decimal (n / 10) ++ ((48 + n % 10) ∷ [])

left : (n : ℕ) (d p : List ℕ) (k : ℕ) → 2 ≤ length d → k ≡ placed_count (front n) (take (length d - 1) d) → p ≡ placed (front n) (take (length d - 1) d)
    → Snoc (front n) d p k
left n d p k h e f = record {
  some = omega arith;
  full = simp length-append (omega arith);
  count = e;
  bytes = f;
}

pub returns-then-k-eq0 : goal.returns-then-k-eq0
returns-then-k-eq0 t c =
    let a = c.args in
    let q = c.put_decimal-k in
    rw (decimal-more a.n (omega arith) (omega arith))
    (snoc-refused (left a.n a.buf.now q.new.buf q.result (omega arith) q.ensures.0 q.ensures.1) _ c.if-k-eq0.true)

pub bounds-buf-k : goal.bounds-buf-k
bounds-buf-k t c =
    let a = c.args in
    let q = c.put_decimal-k in
    let l = left a.n a.buf.now q.new.buf q.result (omega arith) q.ensures.0 q.ensures.1 in
    rw (length_front a.buf.now q.new.buf (length a.buf.now - 1) q.auto.buf) (omega (arith, snoc-fits l c.if-k-eq0.false, snoc-count l c.if-k-eq0.false))

pub overflow_add-result : goal.overflow_add-result
overflow_add-result t c =
    let a = c.args in
    let q = c.put_decimal-k in
    let l = left a.n a.buf.now q.new.buf q.result (omega arith) q.ensures.0 q.ensures.1 in
    omega (arith, snoc-fits l c.if-k-eq0.false, snoc-count l c.if-k-eq0.false)

pub returns : goal.returns
returns t c =
    let a = c.args in
    let q = c.put_decimal-k in
    rw (decimal-more a.n (omega arith) (omega arith))
    (snoc-more (left a.n a.buf.now q.new.buf q.result (omega arith) q.ensures.0 q.ensures.1) _ c.if-k-eq0.false)
