-- Words with holes: a word of class i has bits at places that are i modulo 4 alone.
-- Their integer product gives their carryless product, since no carry reaches a bit that the class keeps.
use Rattle.std.specs.Prelude.{◌≡◌, ◌↔◌, ℕ, ◌+◌, ◌*◌, ◌%◌, ◌^◌, ◌<◌, List, bit_and, map}
use Rattle.std.specs.Int.{bit_at}
use Rattle.std.specs.List.{All}
use Rattle.std.specs.Simd.Lanes.{zip2}
use Rattle.field_base.specs.Carryless.{carryless}

-- the places below 64 that are i modulo 4
abbrev pub class_mask : ℕ → ℕ
class_mask i = 0x1111_1111_1111_1111 * 2 ^ i

-- x is a word of class i: the mask of the class keeps all of it
abbrev pub IsInClass : ℕ → ℕ → Type 0
IsInClass i x = bit_and x (class_mask i) ≡ x

-- each set bit of x is at a place that is i modulo 4
abbrev pub HasPlaces : ℕ → ℕ → Type 0
HasPlaces i x = (place : ℕ) → bit_at x place ≡ 1 → place % 4 ≡ i

-- the words of a class are those with its places
abbrev pub ClassIsPlaces : Type 0
ClassIsPlaces = (i x : ℕ) → i < 4 → x < 2 ^ 64 → IsInClass i x ↔ HasPlaces i x

-- carry isolation: the integer product of two words modulo 2^64, masked to the class of the product, is the part below
-- x^64 of their carryless product
abbrev pub CarryIsolation : Type 0
CarryIsolation = (i j x y : ℕ) → i < 4 → j < 4 → IsInClass i x → IsInClass j y
    → bit_and (x * y % 2 ^ 64) (class_mask ((i + j) % 4)) ≡ carryless x y % 2 ^ 64

-- carry isolation in lanes: the integer products of two lists of words of two classes, place by place, masked to the class of the
-- products, are the parts below x^64 of their carryless products
abbrev pub CarryIsolationInLanes : Type 0
CarryIsolationInLanes = (i j : ℕ) (xs ys : List ℕ) → i < 4 → j < 4 → All (IsInClass i) xs → All (IsInClass j) ys
    → zip2 (λ x y. bit_and (x * y % 2 ^ 64) (class_mask ((i + j) % 4))) xs ys ≡ zip2 (λ x y. carryless x y % 2 ^ 64) xs ys

-- the bits of each word that are of class i
abbrev pub in_class : ℕ → List ℕ → List ℕ
in_class i = map (λ x. bit_and x (class_mask i))

-- the four lists have the bits of each word that are of class 0, 1, 2 and 3
pub record AreClasses (words x0 x1 x2 x3 : List ℕ) : Type 0 where
  pub of_0 : x0 ≡ in_class 0 words
  pub of_1 : x1 ≡ in_class 1 words
  pub of_2 : x2 ≡ in_class 2 words
  pub of_3 : x3 ≡ in_class 3 words
