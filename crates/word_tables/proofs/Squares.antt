-- Squares and products by the adjoined root by a recursion on the level that costs a few steps a bit, so that tables of
-- them are checked by computation; and that they are the tower's.
use Rattle.std.proofs.Common.{◌≡◌, ℕ, zero, suc, ◌*◌, ◌%◌, ◌^◌, refl, sym, ◌∙◌, ap, ap₂, lit<}
use Rattle.std.specs.Prelude.{bit_xor}
use native.Mathlib.Nat.{mod-lt}
use Rattle.field_base.specs.lemmas.BitRing.{two_cases}
use Rattle.field_base.specs.Quadratic.{low_half, high_half, pair}
use Rattle.field_base.specs.Tower.{root, tower_mul}
use Rattle.field_base.proofs.TowerProducts.{tower_mul-square, tower_mul-root_zero, tower_mul-root_suc}

-- the product by the root of level k
unfoldable pub root_product : ℕ → ℕ → ℕ
root_product zero a = a % 2
root_product (suc k) a =
    let high = high_half (2 ^ k) a in
    pair (2 ^ k) high (bit_xor (low_half (2 ^ k) a) (root_product k high))

-- the recursion computes the product by the root of level k
pub root_product_is : (k a : ℕ) → root_product k a ≡ tower_mul k (root k) a
unfolding root_product
root_product_is zero a = sym (tower_mul-root_zero a)
root_product_is (suc k) a =
    ap (λ (x : ℕ). pair (2 ^ k) (high_half (2 ^ k) a) (bit_xor (low_half (2 ^ k) a) x)) (root_product_is k (high_half (2 ^ k) a))
    ∙ sym (tower_mul-root_suc k a)

-- the element of the squares of the halves: their sum, and the root times that of the high half
unfoldable pub squares_joined : ℕ → ℕ → ℕ → ℕ
squares_joined k low high = pair (2 ^ k) (bit_xor low high) (root_product k high)

-- the square of an element of level k
unfoldable pub square_of : ℕ → ℕ → ℕ
square_of zero a = a % 2
square_of (suc k) a = squares_joined k (square_of k (low_half (2 ^ k) a)) (square_of k (high_half (2 ^ k) a))

-- the recursion computes the square at level k
pub square_of_is : (k a : ℕ) → square_of k a ≡ tower_mul k a a
unfolding square_of squares_joined tower_mul
square_of_is zero a = two_cases (λ x. x ≡ x * x) refl refl (a % 2) (mod-lt a (lit< tt))
square_of_is (suc k) a =
    ap₂ (squares_joined k) (square_of_is k (low_half (2 ^ k) a)) (square_of_is k (high_half (2 ^ k) a))
    ∙ ap (pair (2 ^ k) (bit_xor (tower_mul k (low_half (2 ^ k) a) (low_half (2 ^ k) a)) (tower_mul k (high_half (2 ^ k) a) (high_half (2 ^ k) a))))
    (root_product_is k (tower_mul k (high_half (2 ^ k) a) (high_half (2 ^ k) a)))
    ∙ sym (tower_mul-square k a)
