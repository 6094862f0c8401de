-- Products by scalars of the tower, by three products of the level below.
use Rattle.std.proofs.Common.{◌≡◌, ℕ, suc, ◌^◌, ◌<◌, sym, ◌∙◌, ap, ap₂}
use Rattle.std.specs.Prelude.{bit_xor}
use lib.Bits.{xor_assoc, xor_comm}
use Rattle.field_base.specs.Quadratic.{pair}
use Rattle.field_base.specs.Ring.{IsRing}
use Rattle.field_base.specs.Tower.{root, tower_mul}
use Rattle.field_base.proofs.QuadraticProducts.{quadratic-pairs}
use Rattle.field_base.proofs.RingLemmas.{sum_times, xor_cancel, xor_left_comm}
use Rattle.field_base.proofs.TowerRing.{tower_ring}
use Rattle.additive_transforms.specs.Products.{ThreeProducts}

module _ (width : ℕ) (times : ℕ → ℕ → ℕ) (ring : IsRing width 1 times) (t s0 s1 a0 a1 : ℕ) where
  -- the low half of the product
  low_half_of : bit_xor (times s0 a0) (times s1 a1) ≡ bit_xor (times s1 (bit_xor a0 a1)) (times (bit_xor s0 s1) a0)
  low_half_of = simp (sum_times width 1 times ring, ring.over_sum, xor_assoc, xor_comm, xor_left_comm, xor_cancel)

  -- and the high half
  high_half_of : bit_xor (bit_xor (times s0 a1) (times s1 a0)) (times t (times s1 a1))
      ≡ bit_xor (times s1 (bit_xor a0 a1)) (times (bit_xor (bit_xor s0 s1) (times t s1)) a1)
  high_half_of =
      simp (sum_times width 1 times ring, ring.over_sum, ring.assoc, xor_assoc, xor_left_comm, xor_cancel)

-- three products of the level below give the product
pub three_products : ThreeProducts
unfolding tower_mul
three_products k s0 s1 a0 a1 s0_fits s1_fits a0_fits a1_fits =
    quadratic-pairs (2 ^ k) (tower_mul k) (tower_ring k) (root k) s0 s1 a0 a1 s0_fits s1_fits a0_fits a1_fits
    ∙ ap₂ (pair (2 ^ k)) (low_half_of (2 ^ k) (tower_mul k) (tower_ring k) (root k) s0 s1 a0 a1)
    (high_half_of (2 ^ k) (tower_mul k) (tower_ring k) (root k) s0 s1 a0 a1)

-- `three_products` for a scalar that is the pair of its halves, with sums in the order of the code
pub product_of_pairs : (k s s0 s1 a0 a1 : ℕ) → s0 < 2 ^ 2 ^ k → s1 < 2 ^ 2 ^ k → a0 < 2 ^ 2 ^ k → a1 < 2 ^ 2 ^ k → s ≡ pair (2 ^ k) s0 s1
    → pair (2 ^ k) (bit_xor (tower_mul k (bit_xor s0 s1) a0) (tower_mul k s1 (bit_xor a0 a1)))
    (bit_xor (tower_mul k (bit_xor (bit_xor s0 s1) (tower_mul k (root k) s1)) a1) (tower_mul k s1 (bit_xor a0 a1)))
    ≡ tower_mul (suc k) s (pair (2 ^ k) a0 a1)
product_of_pairs k s s0 s1 a0 a1 s0_fits s1_fits a0_fits a1_fits is =
    sym (ap (λ (x : ℕ). tower_mul (suc k) x (pair (2 ^ k) a0 a1)) is
    ∙ three_products k s0 s1 a0 a1 s0_fits s1_fits a0_fits a1_fits
    ∙ ap₂ (pair (2 ^ k)) (xor_comm (tower_mul k s1 (bit_xor a0 a1)) (tower_mul k (bit_xor s0 s1) a0))
    (xor_comm (tower_mul k s1 (bit_xor a0 a1)) (tower_mul k (bit_xor (bit_xor s0 s1) (tower_mul k (root k) s1)) a1)))
