-- Generators of the group of a field's nonzero elements, and the Cantor vectors of a field.
use Rattle.std.specs.Prelude.{◌≡◌, ◌≢◌, ℕ, ◌-◌, ◌^◌, ◌<◌, bit_xor}
use Rattle.field_base.specs.Powers.{power}

-- in a ring of width-bit elements, the element to the power of the number of the nonzero elements is 1, and to no smaller
-- power above 0
abbrev pub HasFullOrder : ℕ → (ℕ → ℕ → ℕ) → ℕ → Type 0
HasFullOrder width times g =
    (power 1 times g (2 ^ width - 1) ≡ 1)
    × ((e : ℕ) → 0 < e → e < 2 ^ width - 1 → power 1 times g e ≢ 1)

-- vectors v_0, v_1, .. of a field of `width` bits by the rule of D. G. Cantor (On arithmetical algorithms over finite
-- fields, Journal of Combinatorial Theory A 50, 1989): v_0 is 1, and v_i² + v_i is the vector before v_i
pub record AreCantorVectors (width : ℕ) (times : ℕ → ℕ → ℕ) (vector : ℕ → ℕ) : Type 0 where
  pub first : vector 0 ≡ 1
  pub rule : (i : ℕ) → 0 < i → i < width → bit_xor (times (vector i) (vector i)) (vector i) ≡ vector (i - 1)
