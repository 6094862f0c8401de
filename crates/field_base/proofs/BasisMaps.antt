-- The map of the tower into a ring by the images of its roots: level by level it is image low + image high * X, so it keeps
-- sums, and where each X meets the equation of its root it keeps products.
use Rattle.std.proofs.Common.{◌≡◌, ℕ, zero, suc, ◌+◌, ◌*◌, ◌/◌, ◌%◌, ◌^◌, ◌<◌, ◌≤◌, refl, sym, ◌∙◌, ap, ap₂, subst, arith, lit<}
use Rattle.std.specs.Prelude.{bit_xor}
use Rattle.std.specs.Int.{bit_at}
use Rattle.std.proofs.lemmas.Nat.{xor_comm, xor_lt, xor_mod, xor_shr, pow_pos, pow_below}
use Rattle.std.proofs.lemmas.Nat.Bits.{bit_at_above, bit_at-lt, bit_at_lowest}
use native.Mathlib.Nat.{mod-eq_of_lt, mod-lt, div-eq_of_lt, zero-mul, one-mul, mul-one}
use lib.Bits.{xor_assoc, xor_zero_r}
use Rattle.field_base.specs.Basis.{sum_below, product_below}
use Rattle.field_base.specs.lemmas.BitRing.{two_cases}
use Rattle.field_base.specs.Powers.{power}
use Rattle.field_base.specs.Quadratic.{low_half, high_half, pair}
use Rattle.field_base.specs.Ring.{IsRing}
use Rattle.field_base.specs.Tower.{root, tower_mul}
use Rattle.field_base.proofs.AdditiveMaps.{KeepsSums, keeps_zero}
use Rattle.field_base.proofs.BasisSums.{sum_below-add, sum_below-same, product_below-same, sum_below_times, bit_at-add, bit_at-mod, bit_at_with-low, bit_at_with-top}
use Rattle.field_base.proofs.QuadraticProducts.{pair-root}
use Rattle.field_base.proofs.PowerLemmas.{one-times, times-one}
use Rattle.field_base.proofs.QuadraticRing.{low_half-pair, high_half-pair, low_product, high_product, low_product-lt, high_product-lt, quadratic-halves}
use Rattle.field_base.proofs.RingLemmas.{xor_left_comm, sum_times, times_left_comm, zero-times, times-mod}
use Rattle.field_base.proofs.TowerProducts.{level-lt}
use Rattle.field_base.proofs.TowerRing.{tower_ring, bits_double}

module _ (width : ℕ) (times : ℕ → ℕ → ℕ) (ring : IsRing width 1 times) (wide : 0 < width) (images : ℕ → ℕ) where
  -- the product of the images at the set bits of j below bit k
  abbrev pub product_image : ℕ → ℕ → ℕ
  product_image k j = product_below times (λ m. power 1 times (images m) (bit_at j m)) k

  -- the image of the low 2 ^ k bits of x
  unfoldable pub image_at : ℕ → ℕ → ℕ
  image_at k x = sum_below (λ j. bit_at x j * product_image k j) (2 ^ k)

  -- 1 is an element
  one_fits : 1 < 2 ^ width
  one_fits = pow_below 0 width wide

  -- ---- the products

  -- a product of images is an element
  product_image-lt : (k j : ℕ) → product_image k j < 2 ^ width
  unfolding product_below
  product_image-lt zero j = one_fits
  product_image-lt (suc k) j = ring.below _ _

  -- an image is no factor where its bit is clear
  factor_none : (a e : ℕ) → e ≡ 0 → power 1 times a e ≡ 1
  unfolding power
  factor_none a e none = ap (power 1 times a) none

  -- an image is a factor where its bit is set
  factor_one : (a e : ℕ) → e ≡ 1 → power 1 times a e ≡ a % 2 ^ width
  unfolding power
  factor_one a e one = ap (power 1 times a) one ∙ ring.one a

  -- below 2^k the next image is no factor
  product_image-suc_low : (k j : ℕ) → j < 2 ^ k → product_image (suc k) j ≡ product_image k j
  unfolding product_below
  product_image-suc_low k j fits =
      let same : k ≤ k = omega arith in
      ap (times (product_image k j)) (factor_none (images k) (bit_at j k) (bit_at_above j k k fits same))
      ∙ times-one width 1 times ring (product_image k j) (product_image-lt k j)

  -- from 2^k on the next image is a factor
  product_image-suc_high : (k j : ℕ) → j < 2 ^ k → product_image (suc k) (2 ^ k + j) ≡ times (product_image k j) (images k)
  unfolding product_below
  product_image-suc_high k j fits =
      ap₂ times
      (product_below-same times (λ m. power 1 times (images m) (bit_at (2 ^ k + j) m))
      (λ m. power 1 times (images m) (bit_at j m)) k
      (λ m below. ap (power 1 times (images m)) (bit_at_with-low k j m below)))
      (factor_one (images k) (bit_at (2 ^ k + j) k) (bit_at_with-top k j fits))
      ∙ times-mod width 1 times ring (product_image k j) (images k)

  -- ---- level by level

  -- at level 0 the image of x is its lowest bit
  pub image_at-zero : (x : ℕ) → image_at 0 x ≡ x % 2
  unfolding image_at sum_below product_below
  image_at-zero x = mul-one (bit_at x 0) ∙ bit_at_lowest x

  -- a bit times a product is the product of a factor by the bit times the other
  bit_times : (d : ℕ) → d < 2 → (p a : ℕ) → d * times p a ≡ times (d * p) a
  bit_times =
      two_cases (λ d. (p a : ℕ) → d * times p a ≡ times (d * p) a)
      (λ p a. zero-mul (times p a) ∙ sym (ap (λ (x : ℕ). times x a) (zero-mul p) ∙ zero-times width 1 times ring a))
      (λ p a. one-mul (times p a) ∙ sym (ap (λ (x : ℕ). times x a) (one-mul p)))

  -- the image at level k + 1 is the image of the low half and the product of the next root's image by that of the high half
  pub image_at-suc : (k x : ℕ) → image_at (suc k) x ≡ bit_xor (image_at k x) (times (image_at k (x / 2 ^ 2 ^ k)) (images k))
  unfolding image_at
  image_at-suc k x =
      ap (sum_below (λ j. bit_at x j * product_image (suc k) j)) (sym (bits_double k))
      ∙ sum_below-add (λ j. bit_at x j * product_image (suc k) j) (2 ^ k) (2 ^ k)
      ∙ ap₂ bit_xor
      (sum_below-same (λ j. bit_at x j * product_image (suc k) j) (λ j. bit_at x j * product_image k j) (2 ^ k)
      (λ j below. ap (λ (p : ℕ). bit_at x j * p) (product_image-suc_low k j below)))
      (sum_below-same (λ j. bit_at x (2 ^ k + j) * product_image (suc k) (2 ^ k + j))
      (λ j. times (bit_at (x / 2 ^ 2 ^ k) j * product_image k j) (images k)) (2 ^ k)
      (λ j below. ap₂ (λ (d p : ℕ). d * p) (bit_at-add x (2 ^ k) j) (product_image-suc_high k j below)
      ∙ bit_times (bit_at (x / 2 ^ 2 ^ k) j) (bit_at-lt (x / 2 ^ 2 ^ k) j) (product_image k j) (images k))
      ∙ sum_below_times width 1 times ring (λ j. bit_at (x / 2 ^ 2 ^ k) j * product_image k j) (images k) (2 ^ k))

  -- it reads the bits of the level
  pub image_at-mod : (k x : ℕ) → image_at k (x % 2 ^ 2 ^ k) ≡ image_at k x
  unfolding image_at
  image_at-mod k x =
      sum_below-same (λ j. bit_at (x % 2 ^ 2 ^ k) j * product_image k j) (λ j. bit_at x j * product_image k j) (2 ^ k)
      (λ j below. ap (λ (d : ℕ). d * product_image k j) (bit_at-mod x (2 ^ k) j below))

  -- an image is an element
  pub image_at-lt : (k x : ℕ) → image_at k x < 2 ^ width
  image_at-lt zero x = subst (λ (y : ℕ). y < 2 ^ width) (sym (image_at-zero x)) (small (x % 2) (mod-lt x (lit< tt)))
    where
      small : (y : ℕ) → y < 2 → y < 2 ^ width
      small = two_cases (λ y. y < 2 ^ width) (pow_pos width) one_fits
  image_at-lt (suc k) x =
      subst (λ (y : ℕ). y < 2 ^ width) (sym (image_at-suc k x))
      (xor_lt width _ _ (image_at-lt k x) (ring.below _ _))

  -- images keep sums
  pub image_at-sum : (k : ℕ) → KeepsSums (image_at k)
  image_at-sum zero a b =
      image_at-zero (bit_xor a b) ∙ xor_mod a b 1 ∙ ap₂ bit_xor (sym (image_at-zero a)) (sym (image_at-zero b))
  image_at-sum (suc k) a b =
      image_at-suc k (bit_xor a b)
      ∙ ap₂ bit_xor (image_at-sum k a b)
      (ap (λ (x : ℕ). times (image_at k x) (images k)) (xor_shr a b (2 ^ k))
      ∙ ap (λ (x : ℕ). times x (images k)) (image_at-sum k (a / 2 ^ 2 ^ k) (b / 2 ^ 2 ^ k))
      ∙ sum_times width 1 times ring (image_at k (a / 2 ^ 2 ^ k)) (image_at k (b / 2 ^ 2 ^ k)) (images k))
      ∙ exchange (image_at k a) (image_at k b) _ _
      ∙ sym (ap₂ bit_xor (image_at-suc k a) (image_at-suc k b))
    where
      exchange : (p q r s : ℕ) → bit_xor (bit_xor p q) (bit_xor r s) ≡ bit_xor (bit_xor p r) (bit_xor q s)
      exchange p q r s = simp (xor_assoc, xor_left_comm)

  -- the image of 0 is 0
  pub image_at-nothing : (k : ℕ) → image_at k 0 ≡ 0
  image_at-nothing k = keeps_zero (image_at k) (image_at-sum k)

  -- an element of a level has the same image at the next
  pub image_at-suc_low : (k x : ℕ) → x < 2 ^ 2 ^ k → image_at (suc k) x ≡ image_at k x
  image_at-suc_low k x fits =
      image_at-suc k x
      ∙ ap (bit_xor (image_at k x))
      (ap (λ (y : ℕ). times (image_at k y) (images k)) (div-eq_of_lt fits)
      ∙ ap (λ (y : ℕ). times y (images k)) (image_at-nothing k) ∙ zero-times width 1 times ring (images k))
      ∙ xor_zero_r (image_at k x)

  -- the image of 1 is 1
  pub image_at-one : (k : ℕ) → image_at k 1 ≡ 1
  image_at-one zero = image_at-zero 1
  image_at-one (suc k) = image_at-suc_low k 1 (pow_below 0 (2 ^ k) (pow_pos k)) ∙ image_at-one k

  -- an element of the next level by its halves
  pub image_at-pair : (k low high : ℕ) → low < 2 ^ 2 ^ k → high < 2 ^ 2 ^ k
      → image_at (suc k) (pair (2 ^ k) low high) ≡ bit_xor (image_at k low) (times (image_at k high) (images k))
  image_at-pair k low high low_fits high_fits =
      image_at-suc k (pair (2 ^ k) low high)
      ∙ ap₂ (λ (x y : ℕ). bit_xor x (times y (images k)))
      (sym (image_at-mod k (pair (2 ^ k) low high)) ∙ ap (image_at k) (low_half-pair (2 ^ k) low high low_fits))
      (sym (image_at-mod k (pair (2 ^ k) low high / 2 ^ 2 ^ k))
      ∙ ap (image_at k) (high_half-pair (2 ^ k) low high low_fits high_fits))

  -- the image at level k + 1 by the halves of x as the tower names them
  pub image_at-halves : (k x : ℕ) → image_at (suc k) x
      ≡ bit_xor (image_at k (low_half (2 ^ k) x)) (times (image_at k (high_half (2 ^ k) x)) (images k))
  image_at-halves k x =
      image_at-suc k x
      ∙ ap₂ (λ (y z : ℕ). bit_xor y (times z (images k))) (sym (image_at-mod k x)) (sym (image_at-mod k (x / 2 ^ 2 ^ k)))

  -- ---- the roots

  -- the image of the root of level k + 1 is the entry of the images for it
  pub image_at-root : (k : ℕ) → image_at (suc k) (root (suc k)) ≡ images k % 2 ^ width
  unfolding root
  image_at-root k =
      ap (image_at (suc k)) (sym (pair-root (2 ^ k)))
      ∙ image_at-pair k 0 1 (pow_pos (2 ^ k)) (pow_below 0 (2 ^ k) (pow_pos k))
      ∙ ap₂ (λ (x y : ℕ). bit_xor x (times y (images k))) (image_at-nothing k) (image_at-one k)
      ∙ xor_comm 0 (times 1 (images k)) ∙ xor_zero_r (times 1 (images k)) ∙ ring.one (images k)

  -- ---- products

  -- the product of a0 + a1 x and b0 + b1 x where x² = t x + 1
  expanded : (x t : ℕ) → times x x ≡ bit_xor (times t x) 1 → (a0 a1 b0 b1 : ℕ)
      → times (bit_xor a0 (times a1 x)) (bit_xor b0 (times b1 x))
      ≡ bit_xor (bit_xor (times a0 b0) (times a1 b1))
      (times (bit_xor (bit_xor (times a0 b1) (times a1 b0)) (times t (times a1 b1))) x)
  expanded x t square a0 a1 b0 b1 =
      sum_times width 1 times ring a0 (times a1 x) (bit_xor b0 (times b1 x))
      ∙ ap₂ bit_xor (ring.over_sum a0 b0 (times b1 x)) (ring.over_sum (times a1 x) b0 (times b1 x))
      ∙ ap (λ (y : ℕ). bit_xor (bit_xor (times a0 b0) (times a0 (times b1 x))) (bit_xor (times (times a1 x) b0) y)) both
      ∙ regrouped (times a0 b0) (times a1 b1) _ _ _
      ∙ ap (bit_xor (bit_xor (times a0 b0) (times a1 b1)))
      (ap₂ bit_xor (ap₂ bit_xor (sym (ring.assoc a0 b1 x)) middle) refl
      ∙ ap (λ (y : ℕ). bit_xor y (times (times t (times a1 b1)) x)) (sym (sum_times width 1 times ring (times a0 b1) (times a1 b0) x))
      ∙ sym (sum_times width 1 times ring (bit_xor (times a0 b1) (times a1 b0)) (times t (times a1 b1)) x))
    where
      both : times (times a1 x) (times b1 x) ≡ bit_xor (times (times t (times a1 b1)) x) (times a1 b1)
      both =
          ring.assoc a1 x (times b1 x) ∙ ap (times a1) (times_left_comm width 1 times ring x b1 x)
          ∙ sym (ring.assoc a1 b1 (times x x)) ∙ ap (times (times a1 b1)) square
          ∙ ring.over_sum (times a1 b1) (times t x) 1
          ∙ ap₂ bit_xor
          (times_left_comm width 1 times ring (times a1 b1) t x ∙ sym (ring.assoc t (times a1 b1) x))
          (times-one width 1 times ring (times a1 b1) (ring.below a1 b1))

      middle : times (times a1 x) b0 ≡ times (times a1 b0) x
      middle = ring.assoc a1 x b0 ∙ ap (times a1) (ring.comm x b0) ∙ sym (ring.assoc a1 b0 x)

      regrouped : (p q r s u : ℕ) → bit_xor (bit_xor p r) (bit_xor s (bit_xor u q))
          ≡ bit_xor (bit_xor p q) (bit_xor (bit_xor r s) u)
      regrouped p q r s u = simp (xor_assoc, xor_comm, xor_left_comm)

  -- the image of level m's next root meets its equation
  abbrev pub IsRoot : ℕ → Type 0
  IsRoot m = times (images m) (images m) ≡ bit_xor (times (image_at m (root m)) (images m)) 1

  -- the map keeps products of level k
  abbrev KeepsProducts : ℕ → Type 0
  KeepsProducts k = (a b : ℕ) → image_at k (tower_mul k a b) ≡ times (image_at k a) (image_at k b)

  -- at level 0 images keep products
  keeps_products-zero : KeepsProducts 0
  unfolding tower_mul
  keeps_products-zero a b =
      image_at-zero (a % 2 * (b % 2))
      ∙ two_cases (λ d. d * (b % 2) % 2 ≡ times d (b % 2))
      (ap (λ (x : ℕ). x % 2) (zero-mul (b % 2)) ∙ sym (zero-times width 1 times ring (b % 2)))
      (ap (λ (x : ℕ). x % 2) (one-mul (b % 2)) ∙ bit_mod ∙ sym (one-times width 1 times ring (b % 2) bit_fits))
      (a % 2) (mod-lt a (lit< tt))
      ∙ ap₂ times (sym (image_at-zero a)) (sym (image_at-zero b))
    where
      bit_mod : b % 2 % 2 ≡ b % 2
      bit_mod = mod-eq_of_lt (mod-lt b (lit< tt))

      bit_fits : b % 2 < 2 ^ width
      bit_fits = subst (λ (x : ℕ). x < 2 ^ width) (image_at-zero b) (image_at-lt zero b)

  -- half by half
  keeps_products-suc : (k : ℕ) → IsRoot k → KeepsProducts k → KeepsProducts (suc k)
  unfolding tower_mul
  keeps_products-suc k is_root of_product a b =
      ap (image_at (suc k)) (quadratic-halves (2 ^ k) (tower_mul k) (tower_ring k) (root k) a b)
      ∙ image_at-pair k _ _ (low_product-lt (2 ^ k) (tower_mul k) (tower_ring k) (root k) a0 a1 b0 b1)
      (high_product-lt (2 ^ k) (tower_mul k) (tower_ring k) (root k) a0 a1 b0 b1)
      ∙ ap₂ (λ (x y : ℕ). bit_xor x (times y (images k))) low_image high_image
      ∙ sym (expanded (images k) (image_at k (root k)) is_root (image_at k a0) (image_at k a1) (image_at k b0) (image_at k b1))
      ∙ sym (ap₂ times (image_at-halves k a) (image_at-halves k b))
    where
      a0 : ℕ
      a0 = low_half (2 ^ k) a

      a1 : ℕ
      a1 = high_half (2 ^ k) a

      b0 : ℕ
      b0 = low_half (2 ^ k) b

      b1 : ℕ
      b1 = high_half (2 ^ k) b

      low_image : image_at k (low_product (2 ^ k) (tower_mul k) (tower_ring k) (root k) a0 a1 b0 b1)
          ≡ bit_xor (times (image_at k a0) (image_at k b0)) (times (image_at k a1) (image_at k b1))
      low_image =
          image_at-sum k (tower_mul k a0 b0) (tower_mul k a1 b1) ∙ ap₂ bit_xor (of_product a0 b0) (of_product a1 b1)

      high_image : image_at k (high_product (2 ^ k) (tower_mul k) (tower_ring k) (root k) a0 a1 b0 b1)
          ≡ bit_xor (bit_xor (times (image_at k a0) (image_at k b1)) (times (image_at k a1) (image_at k b0)))
          (times (image_at k (root k)) (times (image_at k a1) (image_at k b1)))
      high_image =
          image_at-sum k (bit_xor (tower_mul k a0 b1) (tower_mul k a1 b0)) (tower_mul k (root k) (tower_mul k a1 b1))
          ∙ ap₂ bit_xor
          (image_at-sum k (tower_mul k a0 b1) (tower_mul k a1 b0) ∙ ap₂ bit_xor (of_product a0 b1) (of_product a1 b0))
          (of_product (root k) (tower_mul k a1 b1) ∙ ap (times (image_at k (root k))) (of_product a1 b1))

  -- if the images of the roots below level k meet the equations of the roots, images at level k keep products
  pub image_at-product : (k : ℕ) → ((m : ℕ) → m < k → IsRoot m) → (a b : ℕ)
      → image_at k (tower_mul k a b) ≡ times (image_at k a) (image_at k b)
  image_at-product zero roots a b = keeps_products-zero a b
  image_at-product (suc k) roots a b =
      keeps_products-suc k (roots k (omega arith)) (image_at-product k (λ m below. roots m (omega arith))) a b

  -- an element of a level has the same image at every level above
  pub image_at-low : (j k x : ℕ) → x < 2 ^ 2 ^ k → image_at (j + k) x ≡ image_at k x
  image_at-low zero k x fits =
      let none : 0 + k ≡ k = omega arith in
      ap (λ (y : ℕ). image_at y x) none
  image_at-low (suc j) k x fits =
      let next : suc j + k ≡ suc (j + k) = omega arith in
      ap (λ (y : ℕ). image_at y x) next ∙ image_at-suc_low (j + k) x (level-lt j k x fits) ∙ image_at-low j k x fits
