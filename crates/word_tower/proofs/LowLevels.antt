-- The levels of up to 8 bits inside the level of 8 bits: products, inverses and roots of their elements are the same there.
use Rattle.std.proofs.Common.{◌≡◌, ◌≢◌, ℕ, suc, ◌+◌, ◌*◌, ◌%◌, ◌^◌, ◌<◌, refl, sym, zero, ◌∙◌, ap, subst, arith, lit<}
use Rattle.std.proofs.lemmas.Nat.{pow_pos}
use native.Mathlib.Nat.{mod-lt, mod-eq_of_lt}
use Rattle.field_base.specs.lemmas.BitRing.{two_cases, bit_times_itself}
use Rattle.field_base.specs.Tower.{root, tower_mul}
use Rattle.field_base.proofs.FieldLemmas.{inverse-unique}
use Rattle.field_base.proofs.RingLemmas.{times-mod, mod-times}
use Rattle.field_base.proofs.TowerProducts.{level-lt, tower_mul-low, tower_mul-root_zero}
use Rattle.field_base.proofs.TowerRing.{tower_ring}
use Rattle.field_base.proofs.TowerInverse.{tower_inverse, tower_inverse-lt, tower_mul-inverse}
use Rattle.field_base.proofs.TowerSqrt.{tower_sqrt, tower_sqrt-lt, tower_mul-sqrt, tower_mul-square_injective}

-- ---- any level k, and the level j + k above it

-- a product of elements of the level below, whose operands are cut to it
pub cut_product : (j k a b r : ℕ) → r ≡ tower_mul (j + k) (a % 2 ^ 2 ^ k) (b % 2 ^ 2 ^ k) → r ≡ tower_mul k a b
cut_product j k a b r is =
    is ∙ tower_mul-low j k (a % 2 ^ 2 ^ k) (b % 2 ^ 2 ^ k) (mod-lt a (pow_pos (2 ^ k))) (mod-lt b (pow_pos (2 ^ k)))
    ∙ times-mod (2 ^ k) 1 (tower_mul k) (tower_ring k) (a % 2 ^ 2 ^ k) b
    ∙ mod-times (2 ^ k) 1 (tower_mul k) (tower_ring k) a b

-- an inverse in the level above is one in the level below, since there is but one
low_inverse : (j k a r : ℕ) → a < 2 ^ 2 ^ k → r < 2 ^ 2 ^ (j + k) → a ≢ 0 → tower_mul (j + k) a r ≡ 1 → r ≡ tower_inverse k a
low_inverse j k a r fits r_fits nonzero inverts =
    inverse-unique (2 ^ (j + k)) (tower_mul (j + k)) (tower_ring (j + k)) a r (tower_inverse k a) r_fits
    (level-lt j k (tower_inverse k a) (tower_inverse-lt k a)) inverts
    (tower_mul-low j k a (tower_inverse k a) fits (tower_inverse-lt k a) ∙ tower_mul-inverse k a fits nonzero)

-- and so is a square root
low_root : (j k a r : ℕ) → a < 2 ^ 2 ^ k → r < 2 ^ 2 ^ (j + k) → tower_mul (j + k) r r ≡ a → r ≡ tower_sqrt k a
low_root j k a r fits r_fits squares =
    tower_mul-square_injective (j + k) r (tower_sqrt k a) r_fits (level-lt j k (tower_sqrt k a) (tower_sqrt-lt k a))
    (squares ∙ sym (tower_mul-low j k (tower_sqrt k a) (tower_sqrt k a) (tower_sqrt-lt k a) (tower_sqrt-lt k a)
    ∙ tower_mul-sqrt k a ∙ mod-eq_of_lt fits))

module _ (j k a r : ℕ) (fits : a < 2 ^ 2 ^ k) (r_fits : r < 2 ^ 2 ^ (j + k)) where
  -- what is the inverse in the level of 8 bits is the inverse in the lower level
  pub low_inverse_inverts : (a ≢ 0 → tower_mul (j + k) a r ≡ 1) → a ≢ 0 → tower_mul k a r ≡ 1
  low_inverse_inverts inverts nonzero =
      ap (tower_mul k a) (low_inverse j k a r fits r_fits nonzero (inverts nonzero)) ∙ tower_mul-inverse k a fits nonzero

  -- a square root in the level of 8 bits of an element of a lower level is an element of the lower level
  pub low_root_lt : tower_mul (j + k) r r ≡ a → r < 2 ^ 2 ^ k
  low_root_lt squares = subst (λ (x : ℕ). x < 2 ^ 2 ^ k) (sym (low_root j k a r fits r_fits squares)) (tower_sqrt-lt k a)

  -- and its square there is the same
  pub low_root_squares : tower_mul (j + k) r r ≡ a → tower_mul k r r ≡ a
  low_root_squares squares =
      ap (λ (x : ℕ). tower_mul k x x) (low_root j k a r fits r_fits squares) ∙ tower_mul-sqrt k a ∙ mod-eq_of_lt fits

-- the inverse in the level of 8 bits of an element of a lower level is an element of the lower level
pub low_inverse_lt : (j k a r : ℕ) → a < 2 ^ 2 ^ k → r < 2 ^ 2 ^ (j + k) → (a ≡ 0 → r ≡ 0)
    → (a ≢ 0 → tower_mul (j + k) a r ≡ 1) → r < 2 ^ 2 ^ k
low_inverse_lt j k zero r fits r_fits none inverts = subst (λ (x : ℕ). x < 2 ^ 2 ^ k) (sym (none refl)) (pow_pos (2 ^ k))
low_inverse_lt j k (suc a) r fits r_fits none inverts =
    let nonzero : suc a ≢ 0 = λ e. absurd (omega (arith, e)) in
    subst (λ (x : ℕ). x < 2 ^ 2 ^ k) (sym (low_inverse j k (suc a) r fits r_fits nonzero (inverts nonzero)))
    (tower_inverse-lt k (suc a))

-- ---- bits

-- products at level 0
pub bit_times : (x y : ℕ) → x % 2 * (y % 2) ≡ tower_mul 0 x y
unfolding tower_mul
bit_times x y = refl

-- squares at level 0
pub bit_square : (x : ℕ) → x % 2 ≡ tower_mul 0 x x
unfolding tower_mul
bit_square x = two_cases (λ d. d ≡ d * d) refl refl (x % 2) (mod-lt x (lit< tt))

-- products by the root at level 0, which is 1
pub bit_by_root : (x : ℕ) → x % 2 ≡ tower_mul 0 (root 0) x
bit_by_root x = sym (tower_mul-root_zero x)

-- 1 is its own inverse at level 0
pub bit_inverts : (x : ℕ) → x < 2 → x ≢ 0 → tower_mul 0 x x ≡ 1
bit_inverts = bit_times_itself

-- each element of level 0 is its own square root
pub bit_root : (x : ℕ) → x < 2 → tower_mul 0 x x ≡ x
bit_root x fits = sym (bit_square x) ∙ mod-eq_of_lt fits
