-- Names and numbers by their bytes: those that are read have the bytes that the table counts, and such bytes are read. Assumes nothing.
use Rattle.std.specs.Prelude.{None, Option, Some, ℕ}
use mathlib.Core.Path.{◌≡◌, refl, sym, ap, ◌∙◌}
use mathlib.Core.Bool.{Bool, true, false, ◌&&◌}
use mathlib.Core.List.{List, [], ◌∷◌}
use Prim.Native.Nat.{ℕ, ◌+◌, ◌-◌, ◌*◌, ◌≤◌}
use native.Mathlib.Omega.{arith}
use lib.ListN.{length}
use lib.Dec.{leb, ltb}
use borrow.Author.Tests.{le-leb, leb-true, lt-ltb, eq-eqb}
use Rattle.std.specs.Char.{is_ascii_hexdigit}
use Rattle.fields.specs.Pick.{pick}
use Rattle.fields.specs.Lists.{all}
use Rattle.fields.specs.Name.{is_name_byte, is_name}
use Rattle.fields.proofs.Lists.{both, never}
use Rattle.numbers.specs.declared.Base.{Base}
use Rattle.numbers.specs.declared.Base.TheVariants.{Decimal, Hex}
use Rattle.numbers.specs.Reading.{radix, is_digit, hex_digit, decimal_digit, digit, value_from, read_decimal, read_size, read_hex}
use Rattle.faults.specs.Faults.{is_hex}
use Rattle.faults.specs.Search.{is_value}

-- ---- Names

module _ (s : List ℕ) where
  pub name-bytes : is_name s ≡ true → all is_name_byte s ≡ true
  unfolding is_name
  name-bytes h = (both (leb (length s) 64) _ (both (leb 1 (length s)) _ h).1).1

  pub name-is : all is_name_byte s ≡ true → 1 ≤ length s → length s ≤ 64 → is_name s ≡ true
  unfolding is_name
  name-is a lo hi = rw (le-leb 1 (length s) lo, le-leb (length s) 64 hi) a

-- ---- Digits

-- a digit of a base
abbrev pub is_of : Base → ℕ → Bool
is_of Decimal = is_digit
is_of Hex = is_hex

digit-test : (b : Base) (c : ℕ) → is_of b c ≡ ltb (digit b c) (radix b)
unfolding radix decimal_digit
digit-test Decimal c = go (is_digit c) refl
  where
    go : (t : Bool) → is_digit c ≡ t → t ≡ ltb (pick t (c - 48) 10) 10
    go true e = sym (lt-ltb (c - 48) 10 (omega (arith, leb-true c 57 (both (leb 48 c) (leb c 57) e).1)))
    go false e = refl
digit-test Hex c = refl

-- the library's hex digits are those whose value is below 16
pub ascii_hexdigit : (c : ℕ) → is_ascii_hexdigit c ≡ is_hex c
unfolding hex_digit
ascii_hexdigit c = go (is_digit c) refl (leb 65 c && leb c 70) refl (leb 97 c && leb c 102) refl
  where
    go : (d : Bool) → is_digit c ≡ d → (u : Bool) → (leb 65 c && leb c 70) ≡ u → (l : Bool) → (leb 97 c && leb c 102) ≡ l → is_ascii_hexdigit c ≡ is_hex c
    go true e u f l g = rw e (sym (lt-ltb (c - 48) 16 (omega (arith, leb-true c 57 (both (leb 48 c) (leb c 57) e).1))))
    go false e true f l g = rw (e, f) (sym (lt-ltb (c - 55) 16 (omega (arith, leb-true c 70 (both (leb 65 c) (leb c 70) f).1))))
    go false e false f true g = rw (e, f, g) (sym (lt-ltb (c - 87) 16 (omega (arith, leb-true c 102 (both (leb 97 c) (leb c 102) g).1))))
    go false e false f false g = rw (e, f, g) refl

-- n, where t holds
where-value : (t : Bool) (n : Option ℕ) (u : Bool) → is_value n ≡ u → is_value (pick t n None) ≡ (t && u)
where-value true n u e = e
where-value false n u e = refl

-- digits have a value, and nothing else has
value-sound : (b : Base) (acc : ℕ) (s : List ℕ) → is_value (value_from b acc s) ≡ all (is_of b) s
unfolding value_from all
value-sound b acc [] = refl
value-sound b acc (c ∷ s) =
    let v = acc * radix b + digit b c in
    rw (digit-test b c) (where-value (ltb (digit b c) (radix b)) (value_from b v s) (all (is_of b) s) (value-sound b v s))

pub value-digits : (b : Base) (s : List ℕ) (v : ℕ) → value_from b 0 s ≡ Some v → all (is_of b) s ≡ true
value-digits b s v e = sym (value-sound b 0 s) ∙ ap is_value e

-- what n is, is a number
pub record Valued (n : Option ℕ) : Type 0 where
  pub value : ℕ
  pub is : n ≡ Some value

pub valued : (n : Option ℕ) → is_value n ≡ true → Valued n
valued (Some v) h = record { value = v; is = refl }
valued None h = never h

module _ (s : List ℕ) where
  pub decimal-sound : (n : ℕ) → is_value (read_decimal n s) ≡ ((leb 1 (length s) && leb (length s) n) && all is_digit s)
  unfolding read_decimal
  decimal-sound n = where-value (leb 1 (length s) && leb (length s) n) (value_from Decimal 0 s) (all is_digit s) (value-sound Decimal 0 s)

  pub digits-size : all is_digit s ≡ true → 1 ≤ length s → length s ≤ 8 → Valued (read_size s)
  digits-size a lo hi = valued (read_size s) (decimal-sound 8 ∙ rw (le-leb 1 (length s) lo, le-leb (length s) 8 hi) a)

  pub digits-stamp : all is_hex s ≡ true → length s ≡ 8 → Valued (read_hex s)
  unfolding read_hex
  digits-stamp a e = valued (read_hex s) (rw (eq-eqb (length s) 8 e) (value-sound Hex 0 s ∙ a))
