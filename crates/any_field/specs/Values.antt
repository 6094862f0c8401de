-- Values of binary polynomials in a ring, and the isomorphism that a root gives (R. Lidl and H. Niederreiter, Finite Fields, chapter 1).
-- A polynomial is a number, and so is an element of the ring.
use Rattle.std.specs.Prelude.{◌≡◌, ℕ, zero, suc, ◌/◌, ◌%◌, ◌^◌, ◌<◌, List, length, slice_index, bit_xor}
use Rattle.field_base.specs.LinearMaps.{IsTheLinearMapOf}
use Rattle.field_base.specs.Powers.{power}
use Rattle.field_base.specs.Remainder.{HasDegree, mul_mod}
use Rattle.field_base.specs.Ring.{IsRing}
use Rattle.any_field.specs.Irreducible.{IsIrreducible}

-- the value at b of a polynomial of at most `fuel` bits, by Horner's rule
unfoldable pub binary_value_in : ℕ → (ℕ → ℕ → ℕ) → ℕ → ℕ → ℕ
binary_value_in zero times b p = 0
binary_value_in (suc fuel) times b zero = 0
binary_value_in (suc fuel) times b (suc p) = bit_xor (suc p % 2) (times b (binary_value_in fuel times b (suc p / 2)))

-- the value at b of the polynomial p: the sum of the powers of b at the places of the set bits of p
unfoldable pub binary_value : (ℕ → ℕ → ℕ) → ℕ → ℕ → ℕ
binary_value times b p = binary_value_in p times b p

-- `map` is an isomorphism of rings of so many bits: it carries 1, sums and products, and has an inverse
pub record IsIsomorphismOf (width : ℕ) (from to : ℕ → ℕ → ℕ) (map : ℕ → ℕ) : Type 0 where
  pub below : (a : ℕ) → map a < 2 ^ width
  pub one_image : map 1 ≡ 1
  pub sum_image : (a b : ℕ) → map (bit_xor a b) ≡ bit_xor (map a) (map b)
  pub product_image : (a b : ℕ) → a < 2 ^ width → b < 2 ^ width → map (from a b) ≡ to (map a) (map b)
  pub inverse : ℕ → ℕ
  pub inverse_below : (b : ℕ) → inverse b < 2 ^ width
  pub image_of_inverse : (b : ℕ) → b < 2 ^ width → map (inverse b) ≡ b
  pub inverse_of_image : (a : ℕ) → a < 2 ^ width → inverse (map a) ≡ a

-- a root of an irreducible polynomial in a ring of as many elements gives an isomorphism: x goes to the root
abbrev pub RootsGiveIsomorphisms : Type 0
RootsGiveIsomorphisms = (width modulus : ℕ) (times : ℕ → ℕ → ℕ) (root : ℕ) → 0 < width → HasDegree width modulus
    → IsIrreducible modulus → IsRing width 1 times → binary_value times root modulus ≡ 0
    → IsIsomorphismOf width (mul_mod width modulus) times (binary_value times root)

-- `map` carries the elements of a ring of `source` bits into one of `target` bits: 1, sums and products, and no two to one
pub record IsEmbeddingOf (source target : ℕ) (from to : ℕ → ℕ → ℕ) (map : ℕ → ℕ) : Type 0 where
  pub below : (a : ℕ) → map a < 2 ^ target
  pub one_image : map 1 ≡ 1
  pub sum_image : (a b : ℕ) → map (bit_xor a b) ≡ bit_xor (map a) (map b)
  pub product_image : (a b : ℕ) → a < 2 ^ source → b < 2 ^ source → map (from a b) ≡ to (map a) (map b)
  pub injective : (a b : ℕ) → a < 2 ^ source → b < 2 ^ source → map a ≡ map b → a ≡ b

-- a root of an irreducible polynomial in any ring gives an embedding: x goes to the root
abbrev pub RootsGiveEmbeddings : Type 0
RootsGiveEmbeddings = (source modulus target : ℕ) (times : ℕ → ℕ → ℕ) (root : ℕ) → 0 < source → 0 < target → HasDegree source modulus
    → IsIrreducible modulus → IsRing target 1 times → binary_value times root modulus ≡ 0
    → IsEmbeddingOf source target (mul_mod source modulus) times (binary_value times root)

-- the value at a root is the linear map that takes the powers of x to those of the root, so that a table of these computes it
abbrev pub ValuesAreLinear : Type 0
ValuesAreLinear = (width : ℕ) (times : ℕ → ℕ → ℕ) (root : ℕ) (powers : List ℕ) → 0 < width → IsRing width 1 times
    → ((j : ℕ) → j < length powers → slice_index powers j ≡ power 1 times root j) → IsTheLinearMapOf powers (binary_value times root)
