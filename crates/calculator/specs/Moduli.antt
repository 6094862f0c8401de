-- The polynomial modulo which a line computes, where it writes one itself: `gf:8:11b` is `gf`, the degree in decimal digits, and the
-- polynomial in hexadecimal digits, with a colon between. Bit i of the number is the coefficient of x^i, so that 11b is
-- x^8 + x^4 + x^3 + x + 1.
use Rattle.std.specs.Prelude.{◌≡◌, ◌↔◌, ℕ, zero, suc, ◌+◌, ◌/◌, ◌^◌, ◌<◌, ◌==◌, ◌&&◌, ◌||◌, nat_lt, nat_le, Bool, true, false, not, if◌then◌else◌, List, codes, drop, length, take, Option, None}
use Rattle.std.specs.List.{position}
use Rattle.std.specs.Option.{option_and_then, option_map}
use Rattle.std.specs.Str.{bytes_eq}
use Rattle.field_base.specs.Carryless.{carryless}
use Rattle.any_field.specs.Contexts.{IsFieldModulus}
use Rattle.calculator.specs.Digits.{decimal_after, number_after}

-- ---- how a modulus is written

-- what stands before the first colon of a word, and what stands after it
abbrev pub parts_at_colon : List ℕ → Option (List ℕ × List ℕ)
parts_at_colon word = option_map (λ k. (take k word, drop (k + 1) word)) (position (λ byte. byte == 58) word)

-- the number of a word of 1 to `most` characters, read by `read`
abbrev pub number_of_few : ℕ → (List ℕ → Option ℕ) → List ℕ → Option ℕ
number_of_few most read word = if nat_lt 0 (length word) && nat_le (length word) most then read word else None

-- the degree that the first of two parts writes, and the polynomial that the second one does, whose degree is at most 131
abbrev pub degree_and_polynomial : List ℕ × List ℕ → Option (ℕ × ℕ)
degree_and_polynomial (degree, polynomial) =
    option_and_then (λ m. option_map (λ p. (m, p)) (number_of_few 33 (number_after 0) polynomial))
    (number_of_few 3 (decimal_after 0) degree)

-- the degree and the polynomial that a word writes after `gf:`; None for a word that is not written so
unfoldable pub modulus_written : List ℕ → Option (ℕ × ℕ)
modulus_written word =
    if bytes_eq (take 3 word) (codes "gf:") then option_and_then degree_and_polynomial (parts_at_colon (drop 3 word)) else None

-- ---- which of them have fields

-- whether some number below n passes a test
unfoldable pub some_below : ℕ → (ℕ → Bool) → Bool
some_below zero test = false
some_below (suc n) test = test n || some_below n test

-- whether a polynomial of degree m is the product of two of lower degree, by trying all
unfoldable pub has_factors : ℕ → ℕ → Bool
has_factors m polynomial = some_below (2 ^ m) (λ g. some_below (2 ^ m) (λ h. carryless g h == polynomial))

-- whether the polynomial has degree m, of 1 to 128, and is no such product: a field has it as modulus
abbrev pub has_field : ℕ → ℕ → Bool
has_field m polynomial =
    nat_lt 0 m && nat_le m 128 && (polynomial / 2 ^ m == 1) && not (has_factors m polynomial)

-- that is the standard notion: x^m + tail is an irreducible polynomial of degree 1 to 128
abbrev pub FieldsAreOfIrreducibles : Type 0
FieldsAreOfIrreducibles = (m tail : ℕ) → tail < 2 ^ m → (has_field m (2 ^ m + tail) ≡ true) ↔ IsFieldModulus m tail
