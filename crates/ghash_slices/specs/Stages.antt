-- The stages of an additive transform (S. Gao and T. Mateer, Additive fast Fourier transforms over finite fields, IEEE
-- Transactions on Information Theory 56, 2010; S.-J. Lin, W.-H. Chung and Y. S. Han, Novel polynomial basis and its
-- application to Reed-Solomon erasure codes, 2014), over any ring of characteristic two whose elements are numbers. An
-- array is a function from its places to its values; a sum is `bit_xor`.
use Rattle.std.specs.Prelude.{◌≡◌, ℕ, zero, suc, ◌+◌, ◌*◌, ◌/◌, ◌%◌, ◌^◌, ◌<◌, List, slice_index, bit_xor}
use Rattle.std.specs.Int.{bit_at}
use Rattle.field_base.specs.Basis.{sum_below, product_below}
use Rattle.field_base.specs.LinearMaps.{linear_image}
use Rattle.field_base.specs.Powers.{power}
use Rattle.field_base.specs.Ring.{IsRing}

-- ---- what the stages compute

-- the product of the factors f j over the set bits j of k, of its n lowest bits
unfoldable pub factors_at : (ℕ → ℕ → ℕ) → (ℕ → ℕ) → ℕ → ℕ → ℕ
factors_at times f n k = product_below times (λ j. power 1 times (f j) (bit_at k j)) n

-- the sum over k below 2 ^ n of c k times that product
unfoldable pub sum_of_factors : (ℕ → ℕ → ℕ) → (ℕ → ℕ) → ℕ → (ℕ → ℕ) → ℕ
sum_of_factors times f n c = sum_below (λ k. times (c k) (factors_at times f n k)) (2 ^ n)

-- the factor of stage j at place p: shift j, the elements t of the basis for the set bits t of p / 2 ^ (j + 1), and bit j of
-- p. Of bits past the basis it reads none.
unfoldable pub factor : List ℕ → List ℕ → ℕ → ℕ → ℕ
factor shifts basis j p = bit_xor (bit_xor (slice_index shifts j) (linear_image basis (p / 2 ^ suc j))) (bit_at p j)

-- ---- how

-- the place p with bit j clear
unfoldable pub lower_place : ℕ → ℕ → ℕ
lower_place j p = p / 2 ^ suc j * 2 ^ suc j + p % 2 ^ j

-- and with bit j set
unfoldable pub upper_place : ℕ → ℕ → ℕ
upper_place j p = lower_place j p + 2 ^ j

-- the lower result of a butterfly: x, and the product of the scalar and y. The upper result is y and the lower one, so that it is x and
-- the product of y with the scalar and 1.
abbrev pub add_multiple : (ℕ → ℕ → ℕ) → ℕ → ℕ → ℕ → ℕ
add_multiple times scalar x y = bit_xor x (times scalar y)

-- stage j, a butterfly of each pair of a lower and an upper place. The factor at an upper place is 1 more than that at the lower one,
-- so that one formula gives both results.
unfoldable pub stage : (ℕ → ℕ → ℕ) → (ℕ → ℕ → ℕ) → ℕ → (ℕ → ℕ) → ℕ → ℕ
stage times f j a p = add_multiple times (f j p) (a (lower_place j p)) (a (upper_place j p))

-- stage n - 1, then stage n - 2, and so on down to stage 0
unfoldable pub stages : (ℕ → ℕ → ℕ) → (ℕ → ℕ → ℕ) → ℕ → (ℕ → ℕ) → ℕ → ℕ
stages times f zero a = a
stages times f (suc n) a = stages times f n (stage times f n a)

-- where the factor of stage j is the same at all places with the same quotient by 2 ^ j, n stages leave at each place, in the
-- bits of an element, the sum over k below 2 ^ n of value k of its block times the product of the place's factors at the set
-- bits of k. A block is the 2 ^ n places with the same quotient by 2 ^ n.
abbrev pub StagesGiveSums : Type 0
StagesGiveSums =
    (width : ℕ) (times : ℕ → ℕ → ℕ) → 0 < width → IsRing width 1 times
    → (f : ℕ → ℕ → ℕ) → ((j p q : ℕ) → p / 2 ^ j ≡ q / 2 ^ j → f j p ≡ f j q)
    → (n : ℕ) (a : ℕ → ℕ) (p : ℕ)
    → stages times f n a p % 2 ^ width ≡ sum_of_factors times (λ j. f j p) n (λ k. a (p / 2 ^ n * 2 ^ n + k))
