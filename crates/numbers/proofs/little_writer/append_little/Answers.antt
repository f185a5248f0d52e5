-- `append_little` lays little-endian bytes over a buffer from an index on.
-- Assumes nothing.
use Prim.Native.Nat.{ℕ}
use native.Mathlib.Omega.{arith}
use Rattle.numbers.specs.Writing.{little}
use Rattle.fields.proofs.Buffer.{append-whole, append-short}
use Rattle.numbers.proofs.numerals.Writing.{little-length}
use Rattle.numbers.proofs.little_writer.append_little.Goals as goal

pub returns : goal.returns
returns c =
    let a = c.args in
    let call = c.fill_little in
    append-whole a.at a.width (λ (w : ℕ). little w a.v) call.new.buf a.buf.now (omega arith) (little-length a.width a.v) call.ensures

pub returns-then-buf-at : goal.returns-then-buf-at
returns-then-buf-at c =
    let a = c.args in
    append-short a.at (little a.width a.v) a.buf.now (rw (little-length a.width a.v) (omega arith))
