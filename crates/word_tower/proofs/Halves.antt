-- Products, quotients by the root, inverses and square roots of a level from the halves of the operands, in the forms in
-- which they are computed: what is computed is named by what it is equal to.
use Rattle.std.proofs.Common.{◌≡◌, ◌≢◌, ℕ, suc, ◌/◌, ◌%◌, ◌^◌, ◌<◌, sym, ◌∙◌, ap, ap₂, subst, arith}
use Rattle.std.specs.Prelude.{bit_xor}
use Rattle.std.proofs.lemmas.Nat.{pow_pos, xor_lt}
use native.Mathlib.Nat.{mod-eq_of_lt, pow-suc}
use lib.Bits.{xor_assoc, xor_self, xor_zero_r}
use Rattle.field_base.specs.Norm.{conjugate, norm}
use Rattle.field_base.specs.Powers.{repeated_square}
use Rattle.field_base.specs.Quadratic.{low_half, high_half, pair}
use Rattle.field_base.specs.Tower.{root, tower_mul}
use Rattle.field_base.proofs.PowerLemmas.{times-one}
use Rattle.field_base.proofs.QuadraticRing.{low_half-lt, high_half-lt, low_half-pair, high_half-pair, pair-halves, pair-lt}
use Rattle.field_base.proofs.QuadraticProducts.{high_half-low, low_half-low, pair-low}
use Rattle.field_base.proofs.RingLemmas.{times_left_comm, times-zero, zero-times}
use Rattle.field_base.proofs.TowerFrobenius.{tower_repeated_square-half}
use Rattle.field_base.proofs.TowerInverse.{tower_inverse, tower_norm-lt, tower_norm-zero, tower_mul-conjugate_over_norm, tower_mul-inverse}
use Rattle.field_base.proofs.TowerProducts.{tower_mul-square, tower_mul-root_suc}
use Rattle.field_base.proofs.TowerRing.{tower_ring, bits_double}

-- ---- what is an element

-- a product is an element
pub product_lt : (k a b r : ℕ) → r ≡ tower_mul k a b → r < 2 ^ 2 ^ k
product_lt k a b r is = subst (λ (x : ℕ). x < 2 ^ 2 ^ k) (sym is) ((tower_ring k).below a b)

-- a sum of elements is an element
pub sum_lt : (k a b r : ℕ) → a < 2 ^ 2 ^ k → b < 2 ^ 2 ^ k → r ≡ bit_xor a b → r < 2 ^ 2 ^ k
sum_lt k a b r a_fits b_fits is = subst (λ (x : ℕ). x < 2 ^ 2 ^ k) (sym is) (xor_lt (2 ^ k) a b a_fits b_fits)

-- the low half is an element of the level below
pub low_lt : (k a r : ℕ) → r ≡ low_half (2 ^ k) a → r < 2 ^ 2 ^ k
low_lt k a r is = subst (λ (x : ℕ). x < 2 ^ 2 ^ k) (sym is) (low_half-lt (2 ^ k) a)

-- the high half is an element of the level below
pub high_lt : (k a r : ℕ) → r ≡ high_half (2 ^ k) a → r < 2 ^ 2 ^ k
high_lt k a r is = subst (λ (x : ℕ). x < 2 ^ 2 ^ k) (sym is) (high_half-lt (2 ^ k) a)

-- the norm is an element of the level below
pub norm_is_element : (k a r : ℕ) → r ≡ norm (2 ^ k) (tower_mul k) (root k) a → r < 2 ^ 2 ^ k
norm_is_element k a r is = subst (λ (x : ℕ). x < 2 ^ 2 ^ k) (sym is) (tower_norm-lt k a)

-- two elements of level k are the halves of an element of level k + 1
pub joined_lt : (k low high r : ℕ) → low < 2 ^ 2 ^ k → high < 2 ^ 2 ^ k → r ≡ pair (2 ^ k) low high → r < 2 ^ 2 ^ suc k
joined_lt k low high r low_fits high_fits is =
    subst (λ (x : ℕ). x < 2 ^ 2 ^ suc k) (sym is)
    (subst (λ (w : ℕ). pair (2 ^ k) low high < 2 ^ w) (bits_double k) (pair-lt (2 ^ k) low high low_fits high_fits))

-- ---- quotients by the root, roots and inverses

-- an element is the pair of its halves
whole : (k a : ℕ) → a < 2 ^ 2 ^ suc k → pair (2 ^ k) (low_half (2 ^ k) a) (high_half (2 ^ k) a) ≡ a
whole k a fits = pair-halves (2 ^ k) a ∙ ap (λ (w : ℕ). a % 2 ^ w) (bits_double k) ∙ mod-eq_of_lt fits

-- X ((a1 + t a0) + a0 X) = a0 + a1 X
pub root_quotient : (k a : ℕ) → a < 2 ^ 2 ^ suc k
    → tower_mul (suc k) (root (suc k))
    (pair (2 ^ k) (bit_xor (high_half (2 ^ k) a) (tower_mul k (root k) (low_half (2 ^ k) a))) (low_half (2 ^ k) a))
    ≡ a
root_quotient k a fits =
    let r = tower_mul k (root k) (low_half (2 ^ k) a) in
    let high_fits = xor_lt (2 ^ k) (high_half (2 ^ k) a) r (high_half-lt (2 ^ k) a) ((tower_ring k).below (root k) (low_half (2 ^ k) a)) in
    tower_mul-root_suc k (pair (2 ^ k) (bit_xor (high_half (2 ^ k) a) r) (low_half (2 ^ k) a))
    ∙ ap₂ (λ (x y : ℕ). pair (2 ^ k) y (bit_xor x (tower_mul k (root k) y)))
    (low_half-pair (2 ^ k) (bit_xor (high_half (2 ^ k) a) r) (low_half (2 ^ k) a) high_fits)
    (high_half-pair (2 ^ k) (bit_xor (high_half (2 ^ k) a) r) (low_half (2 ^ k) a) high_fits (low_half-lt (2 ^ k) a))
    ∙ ap (pair (2 ^ k) (low_half (2 ^ k) a))
    (xor_assoc (high_half (2 ^ k) a) r r ∙ ap (bit_xor (high_half (2 ^ k) a)) (xor_self r) ∙ xor_zero_r (high_half (2 ^ k) a))
    ∙ whole k a fits

-- a0 + a1 X is the square of r0 + r1 X where r1² is the quotient q of a1 by t, and r0² is a0 + q
pub root_of_halves : (k a q r0 r1 : ℕ) → a < 2 ^ 2 ^ suc k → r0 < 2 ^ 2 ^ k → r1 < 2 ^ 2 ^ k
    → tower_mul k (root k) q ≡ high_half (2 ^ k) a
    → tower_mul k r0 r0 ≡ bit_xor (low_half (2 ^ k) a) q → tower_mul k r1 r1 ≡ q
    → tower_mul (suc k) (pair (2 ^ k) r0 r1) (pair (2 ^ k) r0 r1) ≡ a
root_of_halves k a q r0 r1 fits low_fits high_fits quotient low_square high_square =
    tower_mul-square k (pair (2 ^ k) r0 r1)
    ∙ ap₂ (λ (x y : ℕ). pair (2 ^ k) (bit_xor (tower_mul k x x) (tower_mul k y y)) (tower_mul k (root k) (tower_mul k y y)))
    (low_half-pair (2 ^ k) r0 r1 low_fits) (high_half-pair (2 ^ k) r0 r1 low_fits high_fits)
    ∙ ap₂ (λ (x y : ℕ). pair (2 ^ k) (bit_xor x y) (tower_mul k (root k) y)) low_square high_square
    ∙ ap₂ (pair (2 ^ k))
    (xor_assoc (low_half (2 ^ k) a) q q ∙ ap (bit_xor (low_half (2 ^ k) a)) (xor_self q) ∙ xor_zero_r (low_half (2 ^ k) a)) quotient
    ∙ whole k a fits

-- a0 (a0 + t a1) + a1² is a0² + t a0 a1 + a1²
pub norm_by_conjugate : (k a0 a1 : ℕ)
    → bit_xor (tower_mul k a0 (bit_xor a0 (tower_mul k (root k) a1))) (tower_mul k a1 a1)
    ≡ bit_xor (bit_xor (tower_mul k a0 a0) (tower_mul k (root k) (tower_mul k a0 a1))) (tower_mul k a1 a1)
norm_by_conjugate k a0 a1 =
    ap (λ (x : ℕ). bit_xor x (tower_mul k a1 a1))
    ((tower_ring k).over_sum a0 a0 (tower_mul k (root k) a1)
    ∙ ap (bit_xor (tower_mul k a0 a0)) (times_left_comm (2 ^ k) 1 (tower_mul k) (tower_ring k) a0 (root k) a1))

-- the product by the inverse of a divisor is the quotient
pub product_of_inverse : (k d over x r : ℕ) → x < 2 ^ 2 ^ k → tower_mul k d over ≡ 1 → r ≡ tower_mul k x over
    → tower_mul k d r ≡ x
product_of_inverse k d over x r fits inverts is =
    let ring = tower_ring k in
    ap (tower_mul k d) is ∙ times_left_comm (2 ^ k) 1 (tower_mul k) ring d x over ∙ ap (tower_mul k x) inverts
    ∙ times-one (2 ^ k) 1 (tower_mul k) ring x fits

-- a product of 0 is 0
pub product_of_zero : (k x y r : ℕ) → r ≡ tower_mul k x y → x ≡ 0 → r ≡ 0
product_of_zero k x y r is none = is ∙ ap (λ (z : ℕ). tower_mul k z y) none ∙ zero-times (2 ^ k) 1 (tower_mul k) (tower_ring k) y

-- the quotient is the product by the inverse of the divisor
quotient_is : (k d over x q : ℕ) → q < 2 ^ 2 ^ k → tower_mul k d over ≡ 1 → tower_mul k d q ≡ x → q ≡ tower_mul k x over
quotient_is k d over x q fits inverts is =
    let ring = tower_ring k in
    sym (times-one (2 ^ k) 1 (tower_mul k) ring q fits) ∙ ap (tower_mul k q) (sym inverts)
    ∙ times_left_comm (2 ^ k) 1 (tower_mul k) ring q d over ∙ sym (ring.assoc d q over)
    ∙ ap (λ (y : ℕ). tower_mul k y over) is

-- the norm of a nonzero element is not 0
pub norm_is_nonzero : (k a norm' : ℕ) → a < 2 ^ 2 ^ suc k → norm' ≡ norm (2 ^ k) (tower_mul k) (root k) a → a ≢ 0 → norm' ≢ 0
norm_is_nonzero k a norm' fits is_norm nonzero none = nonzero (tower_norm-zero k a fits (sym is_norm ∙ none))

-- the conjugate of 0 is 0, so that quotients which are 0 where their dividend is 0 are the halves of 0
pub inverse_of_zero : (k a other_low high q0 q1 r : ℕ)
    → other_low ≡ bit_xor (low_half (2 ^ k) a) (tower_mul k (root k) (high_half (2 ^ k) a)) → high ≡ high_half (2 ^ k) a
    → (other_low ≡ 0 → q0 ≡ 0) → (high ≡ 0 → q1 ≡ 0) → r ≡ pair (2 ^ k) q0 q1 → a ≡ 0 → r ≡ 0
inverse_of_zero k a other_low high q0 q1 r is_low is_high first second is_pair none =
    let low_none : low_half (2 ^ k) a ≡ 0 = ap (low_half (2 ^ k)) none ∙ low_half-low (2 ^ k) 0 (pow_pos (2 ^ k)) in
    let high_none : high_half (2 ^ k) a ≡ 0 = ap (high_half (2 ^ k)) none ∙ high_half-low (2 ^ k) 0 (pow_pos (2 ^ k)) in
    let other_none : other_low ≡ 0 =
    is_low ∙ ap₂ (λ (x y : ℕ). bit_xor x (tower_mul k (root k) y)) low_none high_none
    ∙ ap (bit_xor 0) (times-zero (2 ^ k) 1 (tower_mul k) (tower_ring k) (root k)) in
    is_pair ∙ ap₂ (pair (2 ^ k)) (first other_none) (second (is_high ∙ high_none)) ∙ pair-low (2 ^ k) 0

-- the quotients of the halves of the conjugate by the norm are the halves of the inverse
pub inverse_of_quotients : (k a norm' q0 q1 r : ℕ) → a < 2 ^ 2 ^ suc k → norm' ≡ norm (2 ^ k) (tower_mul k) (root k) a
    → q0 < 2 ^ 2 ^ k → q1 < 2 ^ 2 ^ k
    → tower_mul k norm' q0 ≡ bit_xor (low_half (2 ^ k) a) (tower_mul k (root k) (high_half (2 ^ k) a))
    → tower_mul k norm' q1 ≡ high_half (2 ^ k) a
    → r ≡ pair (2 ^ k) q0 q1 → a ≢ 0 → tower_mul (suc k) a r ≡ 1
inverse_of_quotients k a norm' q0 q1 r fits is_norm q0_fits q1_fits first second is_pair nonzero =
    let over = tower_inverse k norm' in
    let norm_fits = norm_is_element k a norm' is_norm in
    let inverts = tower_mul-inverse k norm' norm_fits (norm_is_nonzero k a norm' fits is_norm nonzero) in
    ap (tower_mul (suc k) a)
    (is_pair ∙ ap₂ (pair (2 ^ k)) (quotient_is k norm' over _ q0 q0_fits inverts first) (quotient_is k norm' over _ q1 q1_fits inverts second))
    ∙ tower_mul-conjugate_over_norm k a over (ap (λ (n : ℕ). tower_mul k n over) (sym is_norm) ∙ inverts)

-- ---- conjugates

-- half as many squarings as the level has bits conjugate
pub conjugate_is_squarings : (k a r : ℕ) → r ≡ conjugate (2 ^ k) (tower_mul k) (root k) a
    → r ≡ repeated_square 1 (tower_mul (suc k)) (2 ^ suc k / 2) a
conjugate_is_squarings k a r is =
    let half : 2 ^ suc k / 2 ≡ 2 ^ k = omega (arith, pow-suc 2 k) in
    is ∙ sym (tower_repeated_square-half k a) ∙ ap (λ (m : ℕ). repeated_square 1 (tower_mul (suc k)) m a) (sym half)
