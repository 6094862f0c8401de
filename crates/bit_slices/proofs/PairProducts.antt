-- The arithmetic of the next level by the halves of elements, in the forms in which it is computed.
use Rattle.std.proofs.Common.{◌≡◌, ◌≢◌, ℕ, suc, ◌^◌, ◌<◌, sym, ◌∙◌, ap, ap₂}
use Rattle.std.specs.Prelude.{bit_xor}
use Rattle.std.proofs.lemmas.Nat.{xor_block, xor_comm, pow_pos}
use lib.Bits.{xor_assoc}
use Rattle.field_base.specs.Norm.{norm}
use Rattle.field_base.specs.Quadratic.{low_half, high_half, pair}
use Rattle.field_base.specs.Tower.{root, tower_mul}
use Rattle.field_base.proofs.RingLemmas.{xor_cancel, times_left_comm, times-zero, zero-times}
use Rattle.field_base.proofs.QuadraticRing.{low_half-pair, high_half-pair}
use Rattle.field_base.proofs.QuadraticProducts.{low_half-low, high_half-low, pair-low}
use Rattle.field_base.proofs.TowerInverse.{tower_norm-zero, tower_mul-conjugate_over_norm}
use Rattle.field_base.proofs.TowerProducts.{tower_mul-karatsuba, tower_mul-square, tower_mul-root_suc}
use Rattle.field_base.proofs.TowerRing.{tower_ring, halves-lt}

-- the pair of two sums
pub sum_of_pairs : (k : ℕ) {a0 b0 : ℕ} (a1 b1 : ℕ) → a0 < 2 ^ 2 ^ k → b0 < 2 ^ 2 ^ k
    → pair (2 ^ k) (bit_xor a0 b0) (bit_xor a1 b1) ≡ bit_xor (pair (2 ^ k) a0 a1) (pair (2 ^ k) b0 b1)
sum_of_pairs k {a0} {b0} a1 b1 a_fits b_fits = sym (xor_block (2 ^ k) a1 b1 a0 b0 a_fits b_fits)

-- what three products give
abbrev karatsuba : ℕ → ℕ → ℕ → ℕ → ℕ → ℕ
karatsuba k x0 x1 y0 y1 =
    pair (2 ^ k) (bit_xor (tower_mul k x0 y0) (tower_mul k x1 y1))
    (bit_xor
    (bit_xor (bit_xor (tower_mul k (bit_xor x0 x1) (bit_xor y0 y1)) (tower_mul k x0 y0)) (tower_mul k x1 y1))
    (tower_mul k (root k) (tower_mul k x1 y1)))

-- the product of two pairs: the low half serves the high half, too
pub product_of_pairs : (k : ℕ) {a0 a1 b0 b1 : ℕ} → a0 < 2 ^ 2 ^ k → a1 < 2 ^ 2 ^ k → b0 < 2 ^ 2 ^ k → b1 < 2 ^ 2 ^ k
    → tower_mul (suc k) (pair (2 ^ k) a0 a1) (pair (2 ^ k) b0 b1)
    ≡ pair (2 ^ k) (bit_xor (tower_mul k a0 b0) (tower_mul k a1 b1))
    (bit_xor
    (bit_xor (tower_mul k (bit_xor a0 a1) (bit_xor b0 b1)) (bit_xor (tower_mul k a0 b0) (tower_mul k a1 b1)))
    (tower_mul k (root k) (tower_mul k a1 b1)))
product_of_pairs k {a0} {a1} {b0} {b1} a0_fits a1_fits b0_fits b1_fits =
    let a = pair (2 ^ k) a0 a1 in
    let b = pair (2 ^ k) b0 b1 in
    tower_mul-karatsuba k a b
    ∙ ap₂ (λ (x y : ℕ). karatsuba k x y (low_half (2 ^ k) b) (high_half (2 ^ k) b))
    (low_half-pair (2 ^ k) a0 a1 a0_fits) (high_half-pair (2 ^ k) a0 a1 a0_fits a1_fits)
    ∙ ap₂ (karatsuba k a0 a1) (low_half-pair (2 ^ k) b0 b1 b0_fits) (high_half-pair (2 ^ k) b0 b1 b0_fits b1_fits)
    ∙ ap (λ (x : ℕ). pair (2 ^ k) (bit_xor (tower_mul k a0 b0) (tower_mul k a1 b1))
    (bit_xor x (tower_mul k (root k) (tower_mul k a1 b1))))
    (xor_assoc (tower_mul k (bit_xor a0 a1) (bit_xor b0 b1)) (tower_mul k a0 b0) (tower_mul k a1 b1))

-- X (a0 + a1 X) = a1 + (a0 + t a1) X
root_of_pair : (k a0 a1 : ℕ) → a0 < 2 ^ 2 ^ k → a1 < 2 ^ 2 ^ k
    → tower_mul (suc k) (root (suc k)) (pair (2 ^ k) a0 a1) ≡ pair (2 ^ k) a1 (bit_xor a0 (tower_mul k (root k) a1))
root_of_pair k a0 a1 a0_fits a1_fits =
    tower_mul-root_suc k (pair (2 ^ k) a0 a1)
    ∙ ap₂ (λ (x y : ℕ). pair (2 ^ k) y (bit_xor x (tower_mul k (root k) y)))
    (low_half-pair (2 ^ k) a0 a1 a0_fits) (high_half-pair (2 ^ k) a0 a1 a0_fits a1_fits)

-- what is added by the root
pub added_by_root : (k : ℕ) {s0 a0 a1 : ℕ} (s1 : ℕ) → s0 < 2 ^ 2 ^ k → a0 < 2 ^ 2 ^ k → a1 < 2 ^ 2 ^ k
    → pair (2 ^ k) (bit_xor s0 a1) (bit_xor (bit_xor s1 a0) (tower_mul k (root k) a1))
    ≡ bit_xor (pair (2 ^ k) s0 s1) (tower_mul (suc k) (root (suc k)) (pair (2 ^ k) a0 a1))
added_by_root k {s0} {a0} {a1} s1 s0_fits a0_fits a1_fits =
    ap (pair (2 ^ k) (bit_xor s0 a1)) (xor_assoc s1 a0 (tower_mul k (root k) a1))
    ∙ sum_of_pairs k s1 (bit_xor a0 (tower_mul k (root k) a1)) s0_fits a1_fits
    ∙ ap (bit_xor (pair (2 ^ k) s0 s1)) (sym (root_of_pair k a0 a1 a0_fits a1_fits))

-- the square of a pair
pub square_of_pair : (k : ℕ) {a0 a1 : ℕ} → a0 < 2 ^ 2 ^ k → a1 < 2 ^ 2 ^ k
    → tower_mul (suc k) (pair (2 ^ k) a0 a1) (pair (2 ^ k) a0 a1)
    ≡ pair (2 ^ k) (bit_xor (tower_mul k a0 a0) (tower_mul k a1 a1))
    (bit_xor (tower_mul k a1 a1) (bit_xor (tower_mul k a1 a1) (tower_mul k (root k) (tower_mul k a1 a1))))
square_of_pair k {a0} {a1} a0_fits a1_fits =
    tower_mul-square k (pair (2 ^ k) a0 a1)
    ∙ ap₂ (λ (x y : ℕ). pair (2 ^ k) (bit_xor (tower_mul k x x) (tower_mul k y y)) (tower_mul k (root k) (tower_mul k y y)))
    (low_half-pair (2 ^ k) a0 a1 a0_fits) (high_half-pair (2 ^ k) a0 a1 a0_fits a1_fits)
    ∙ ap (pair (2 ^ k) (bit_xor (tower_mul k a0 a0) (tower_mul k a1 a1)))
    (sym (xor_cancel (tower_mul k a1 a1) (tower_mul k (root k) (tower_mul k a1 a1))))

-- the norm as it is computed: a1² + a0 (a0 + t a1)
abbrev pub norm_of : ℕ → ℕ → ℕ → ℕ
norm_of k a0 a1 = bit_xor (tower_mul k a1 a1) (tower_mul k a0 (bit_xor a0 (tower_mul k (root k) a1)))

norm_is : (k a0 a1 : ℕ) → a0 < 2 ^ 2 ^ k → a1 < 2 ^ 2 ^ k
    → norm_of k a0 a1 ≡ norm (2 ^ k) (tower_mul k) (root k) (pair (2 ^ k) a0 a1)
norm_is k a0 a1 a0_fits a1_fits =
    xor_comm (tower_mul k a1 a1) (tower_mul k a0 (bit_xor a0 (tower_mul k (root k) a1)))
    ∙ ap (λ (x : ℕ). bit_xor x (tower_mul k a1 a1))
    ((tower_ring k).over_sum a0 a0 (tower_mul k (root k) a1)
    ∙ ap (bit_xor (tower_mul k a0 a0)) (times_left_comm (2 ^ k) 1 (tower_mul k) (tower_ring k) a0 (root k) a1))
    ∙ ap₂ (λ (x y : ℕ). bit_xor (bit_xor (tower_mul k x x) (tower_mul k (root k) (tower_mul k x y))) (tower_mul k y y))
    (sym (low_half-pair (2 ^ k) a0 a1 a0_fits)) (sym (high_half-pair (2 ^ k) a0 a1 a0_fits a1_fits))

-- the halves of the inverse of a pair, by what is the inverse v of the norm unless that is 0
pub inverse_of_pair : (k a0 a1 v : ℕ) → a0 < 2 ^ 2 ^ k → a1 < 2 ^ 2 ^ k
    → (norm_of k a0 a1 ≢ 0 → tower_mul k (norm_of k a0 a1) v ≡ 1) → pair (2 ^ k) a0 a1 ≢ 0
    → tower_mul (suc k) (pair (2 ^ k) a0 a1)
    (pair (2 ^ k) (tower_mul k (bit_xor a0 (tower_mul k (root k) a1)) v) (tower_mul k a1 v))
    ≡ 1
inverse_of_pair k a0 a1 v a0_fits a1_fits inverts nonzero =
    let a = pair (2 ^ k) a0 a1 in
    let fits = halves-lt k a0 a1 a0_fits a1_fits in
    let is = norm_is k a0 a1 a0_fits a1_fits in
    ap₂ (λ (x y : ℕ). tower_mul (suc k) a (pair (2 ^ k) (tower_mul k (bit_xor x (tower_mul k (root k) y)) v) (tower_mul k y v)))
    (sym (low_half-pair (2 ^ k) a0 a1 a0_fits)) (sym (high_half-pair (2 ^ k) a0 a1 a0_fits a1_fits))
    ∙ tower_mul-conjugate_over_norm k a v
    (ap (λ (n : ℕ). tower_mul k n v) (sym is) ∙ inverts (λ none. nonzero (tower_norm-zero k a fits (sym is ∙ none))))

-- and of 0
pub inverse_of_zero_pair : (k a0 a1 v : ℕ) → a0 < 2 ^ 2 ^ k → a1 < 2 ^ 2 ^ k → pair (2 ^ k) a0 a1 ≡ 0
    → pair (2 ^ k) (tower_mul k (bit_xor a0 (tower_mul k (root k) a1)) v) (tower_mul k a1 v) ≡ 0
inverse_of_zero_pair k a0 a1 v a0_fits a1_fits none =
    let low_none : a0 ≡ 0 =
    sym (low_half-pair (2 ^ k) a0 a1 a0_fits) ∙ ap (low_half (2 ^ k)) none ∙ low_half-low (2 ^ k) 0 (pow_pos (2 ^ k)) in
    let high_none : a1 ≡ 0 =
    sym (high_half-pair (2 ^ k) a0 a1 a0_fits a1_fits) ∙ ap (high_half (2 ^ k)) none ∙ high_half-low (2 ^ k) 0 (pow_pos (2 ^ k)) in
    ap₂ (λ (x y : ℕ). pair (2 ^ k) (tower_mul k (bit_xor x (tower_mul k (root k) y)) v) (tower_mul k y v)) low_none high_none
    ∙ ap₂ (pair (2 ^ k))
    (ap (λ (x : ℕ). tower_mul k (bit_xor 0 x) v) (times-zero (2 ^ k) 1 (tower_mul k) (tower_ring k) (root k))
    ∙ zero-times (2 ^ k) 1 (tower_mul k) (tower_ring k) v)
    (zero-times (2 ^ k) 1 (tower_mul k) (tower_ring k) v)
    ∙ pair-low (2 ^ k) 0
