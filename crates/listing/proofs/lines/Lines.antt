-- The lines of a listing, laid down piece by piece.
-- Assumes nothing.
use Rattle.std.proofs.Common.{◌≡◌, ℕ, ◌+◌, ◌-◌, ◌^◌, ◌<◌, ◌≤◌, List, [], ◌∷◌, ◌++◌, length, ap, ⊎_elim, append_assoc, arith, length-append, eq-eqb, ne_eqb}
use Rattle.numbers.specs.Writing.{decimal}
use Rattle.fields.specs.Buffer.{over, appended, appended_end}
use Rattle.fields.proofs.Buffer.{Grown, grown-none, grown, grown-is}
use Rattle.fields.proofs.Lists.{le-or-lt}
use Rattle.numbers.proofs.RoundTrip.{decimal-length}
use Rattle.packets.specs.Kind.{kind_of, look}
use Rattle.listing.specs.Line.{letters, overhead, line, cut, ending}

pub digits : (n : ℕ) → n < 2 ^ 64 → length (decimal n) ≤ 20
digits n h = decimal-length 19 n (omega arith) (omega arith)

pub five-digits : (n : ℕ) → n < 2 ^ 16 → length (decimal n) ≤ 5
five-digits n h = decimal-length 4 n (omega arith) (omega arith)

-- one writer at an index
abbrev pub Step : ℕ → List ℕ → List ℕ → List ℕ → ℕ → Type 0
Step n bs e e' r = (r ≡ appended_end n bs e) × (e' ≡ appended n bs e)

more : {a d e : List ℕ} {n : ℕ} → Grown a d e n → (bs e' : List ℕ) (r : ℕ) → n + length bs ≤ length d → Step n bs e e' r
    → Grown (a ++ bs) d e' r × (r ≡ n + length bs)
more {a} {d} {e} {n} g bs e' r h s =
    let q = grown g bs e' r h s in
    (q, omega (arith, q.count, g.count, length-append a bs))

-- a number and the byte behind it
ended : (n x : ℕ) → length (decimal n ++ (x ∷ [])) ≡ length (decimal n) + 1
ended n x = length-append (decimal n) (x ∷ [])

pub line-written : (offset count : ℕ) (kind d e₁ e₂ e₃ e₄ : List ℕ) (r₁ r₂ r₃ r₄ : ℕ) → offset < 2 ^ 64 → length kind ≤ 3
    → 26 + length (decimal count) ≤ length d
    → Step 0 (decimal offset ++ (32 ∷ [])) d e₁ r₁ → Step r₁ kind e₁ e₂ r₂ → Step r₂ (32 ∷ []) e₂ e₃ r₃
    → Step r₃ (decimal count ++ (10 ∷ [])) e₃ e₄ r₄
    → (r₄ ≡ length (line offset kind count)) × (e₄ ≡ over 0 (line offset kind count) d)
unfolding line
line-written offset count kind d e₁ e₂ e₃ e₄ r₁ r₂ r₃ r₄ ho lk hd s₁ s₂ s₃ s₄ =
    let lo = digits offset ho in
    let l₁ = ended offset 32 in
    let l₄ = ended count 10 in
    let g₁ = more (grown-none d) (decimal offset ++ (32 ∷ [])) e₁ r₁ (omega arith) s₁ in
    let g₂ = more g₁.0 kind e₂ r₂ (omega (arith, g₁.1)) s₂ in
    let g₃ = more g₂.0 (32 ∷ []) e₃ r₃ (omega (arith, g₁.1, g₂.1)) s₃ in
    let g₄ = more g₃.0 (decimal count ++ (10 ∷ [])) e₄ r₄ (omega (arith, g₁.1, g₂.1, g₃.1)) s₄ in
    grown-is _ g₄.0 (simp append_assoc)

-- ---- the line of an unfinished packet

sub-zero : (n : ℕ) → n - 0 ≡ n
sub-zero n = omega arith

pub cut-none : (offset n : ℕ) → n ≡ 0 → cut offset n ≡ []
unfolding cut
cut-none offset n h = rw (eq-eqb n 0 h)

pub cut-some : (offset n : ℕ) → (n ≡ 0 → ⊥) → cut offset n ≡ line offset (letters 18) n
unfolding cut overhead kind_of look
cut-some offset n h = rw (ne_eqb n 0 h) (ap (line offset (letters 18)) (sub-zero n))

-- `CUT`
short : length (letters 18) ≤ 3
unfolding letters look
short = omega arith

line-length : (offset count : ℕ) (l : List ℕ) → length (line offset l count) ≡ length (decimal offset) + length l + length (decimal count) + 3
unfolding line
line-length offset count l = simp length-append (omega arith)

pub cut-length : (offset n : ℕ) → offset < 2 ^ 64 → n < 2 ^ 64 → length (cut offset n) ≤ 46
cut-length offset n ho hn =
    ⊎_elim
    (λ (g : 1 ≤ n).
    rw (cut-some offset n (λ e. omega arith), line-length offset n (letters 18))
    (omega (arith, digits offset ho, digits n hn, short)))
    (λ (g : n < 1). rw (cut-none offset n (omega arith)) (omega arith))
    (le-or-lt 1 n)

pub ending-written : (offset n total : ℕ) (d e₀ e₁ e₂ : List ℕ) (r₀ r₁ r₂ : ℕ) → offset < 2 ^ 64 → n < 2 ^ 64 → total < 2 ^ 64 → length d ≡ 72
    → (r₀ ≡ length (cut offset n)) × (e₀ ≡ over 0 (cut offset n) d)
    → Step r₀ (101 ∷ 110 ∷ 100 ∷ 32 ∷ []) e₀ e₁ r₁ → Step r₁ (decimal total ++ (10 ∷ [])) e₁ e₂ r₂
    → (r₂ ≡ length (ending offset n total)) × (e₂ ≡ over 0 (ending offset n total) d)
unfolding ending
ending-written offset n total d e₀ e₁ e₂ r₀ r₁ r₂ ho hn ht hd s₀ s₁ s₂ =
    let lc = cut-length offset n ho hn in
    let lt = digits total ht in
    let l₂ = ended total 10 in
    let g₀ : Grown (cut offset n) d e₀ r₀ = record { bytes = s₀.1; count = s₀.0 } in
    let g₁ = more g₀ (101 ∷ 110 ∷ 100 ∷ 32 ∷ []) e₁ r₁ (omega (arith, s₀.0)) s₁ in
    let g₂ = more g₁.0 (decimal total ++ (10 ∷ [])) e₂ r₂ (omega (arith, s₀.0, g₁.1)) s₂ in
    grown-is _ g₂.0 (simp append_assoc)
