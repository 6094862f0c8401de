-- Fields of characteristic two whose elements are numbers: rings of Ring.antt in which one can divide.
use Rattle.std.specs.Prelude.{◌≡◌, ◌≢◌, ◌⊎◌, ℕ, ◌-◌, ◌%◌, ◌^◌, ◌<◌, List, length, slice_index}
use Rattle.field_base.specs.Powers.{power, repeated_square}
use Rattle.field_base.specs.Ring.{IsRing}

-- every nonzero element of a ring of w-bit elements has an inverse: an element whose product with it is 1
abbrev pub HasInverses : ℕ → (ℕ → ℕ → ℕ) → Type 0
HasInverses width times =
    (a : ℕ) → a < 2 ^ width → a ≢ 0 → (inverse : ℕ) × (inverse < 2 ^ width) × (times a inverse ≡ 1)

-- y is the inverse of x for the product `times`, or both are 0
abbrev pub IsInverseOrZero : (ℕ → ℕ → ℕ) → ℕ → ℕ → Type 0
IsInverseOrZero times x y = (x ≡ 0 → y ≡ 0) × (x ≢ 0 → times x y ≡ 1)

-- at each place the second list has the inverse of what the first has there, and 0 for 0
pub record AreInverses (times : ℕ → ℕ → ℕ) (xs ys : List ℕ) : Type 0 where
  pub count : length ys ≡ length xs
  pub each : (i : ℕ) → i < length xs → IsInverseOrZero times (slice_index xs i) (slice_index ys i)

-- `times` is the product of a field of 2 ^ width elements: every nonzero element has an inverse, and as many squarings as an element
-- has bits return it
pub record IsField (width : ℕ) (times : ℕ → ℕ → ℕ) : Type 0 where
  pub ring : IsRing width 1 times
  pub inverses : HasInverses width times
  pub squarings_return : (a : ℕ) → repeated_square 1 times width a ≡ a % 2 ^ width

-- what holds in every field of 2 ^ width elements (R. Lidl and H. Niederreiter, Finite Fields, chapters 1 and 2)
pub record HasFieldLaws (width : ℕ) (times : ℕ → ℕ → ℕ) : Type 0 where
  -- a product is 0 only where a factor is
  pub no_zero_divisors : (a b : ℕ) → a < 2 ^ width → b < 2 ^ width → times a b ≡ 0 → (a ≡ 0) ⊎ (b ≡ 0)
  -- an element has one inverse
  pub inverse_unique : (a x y : ℕ) → x < 2 ^ width → y < 2 ^ width → times a x ≡ 1 → times a y ≡ 1 → x ≡ y
  -- the inverse of a nonzero a is a ^ (2 ^ width - 2) (Fermat)
  pub inverse_is_power : (a : ℕ) → a < 2 ^ width → a ≢ 0 → times a (power 1 times a (2 ^ width - 2)) ≡ 1
  -- every a has exactly one square root, which width - 1 squarings of a give: a ^ (2 ^ (width - 1))
  pub root_is_repeated_square : (a : ℕ) → a < 2 ^ width
      → times (repeated_square 1 times (width - 1) a) (repeated_square 1 times (width - 1) a) ≡ a
  pub root_unique : (r s : ℕ) → r < 2 ^ width → s < 2 ^ width → times r r ≡ times s s → r ≡ s

-- every field has them
abbrev pub FieldsHaveLaws : Type 0
FieldsHaveLaws = (width : ℕ) (times : ℕ → ℕ → ℕ) → 0 < width → IsField width times → HasFieldLaws width times
