-- What holds of a level of the tower holds of the field that is the level in another basis.
use Rattle.std.proofs.Common.{◌≡◌, ◌≢◌, ℕ, ◌%◌, ◌^◌, ◌<◌, ◌≤◌, sym, ◌∙◌, ap, ap₂, subst, arith, lit<}
use Rattle.std.specs.Prelude.{bit_xor}
use Rattle.std.proofs.lemmas.Nat.{pow_pos, pow_below, xor_lt}
use native.Mathlib.Nat.{mod-lt}
use lib.Bits.{xor_self}
use Rattle.field_base.specs.Orders.{AreCantorVectors}
use Rattle.field_base.specs.Ring.{IsRing}
use Rattle.field_base.specs.Tower.{root, tower_mul}
use Rattle.field_base.specs.TowerBasis.{AreEvenCantorVectors, IsIsomorphism, tower_generator}
use Rattle.field_base.proofs.EightCases.{eight_cases}
use Rattle.field_base.proofs.RingLemmas.{times-mod, mod-times}
use Rattle.field_base.proofs.TowerRing.{tower_ring}
use Rattle.field_base.proofs.TowerTraces.{tower_no_root}

module _ (k width : ℕ) (times : ℕ → ℕ → ℕ) (basis : ℕ → ℕ) (ring : IsRing width 1 times) (keeps : IsIsomorphism k width times basis) where
  -- the image of 0 is 0, and only that
  pub basis-zero : basis 0 ≡ 0
  basis-zero = keeps.sum_image 0 0 ∙ xor_self (basis 0)

  -- two elements have two images
  basis-one_to_one : (a b : ℕ) → a < 2 ^ 2 ^ k → b < 2 ^ 2 ^ k → basis a ≡ basis b → a ≡ b
  basis-one_to_one a b a_fits b_fits same = sym (keeps.inverse_of_image a a_fits) ∙ ap keeps.inverse same ∙ keeps.inverse_of_image b b_fits

  -- the image of a nonzero element is not 0
  pub basis-nonzero : (a : ℕ) → a < 2 ^ 2 ^ k → basis a ≡ 0 → a ≡ 0
  basis-nonzero a fits none = basis-one_to_one a 0 fits (pow_pos (2 ^ k)) (none ∙ sym basis-zero)

  -- the image of an element is no root of X² + t X + 1 in the other basis
  no_root_image : (a : ℕ) → a < 2 ^ 2 ^ k
      → bit_xor (bit_xor (times (basis a) (basis a)) (times (basis (root k)) (basis a))) 1 ≢ 0
  no_root_image a fits none =
      tower_no_root k a
      (basis-nonzero (bit_xor (bit_xor (tower_mul k a a) (tower_mul k (root k) a)) 1)
      (xor_lt (2 ^ k) (bit_xor (tower_mul k a a) (tower_mul k (root k) a)) 1
      (xor_lt (2 ^ k) (tower_mul k a a) (tower_mul k (root k) a) ((tower_ring k).below a a) ((tower_ring k).below (root k) a))
      (pow_below 0 (2 ^ k) (pow_pos k)))
      (keeps.sum_image (bit_xor (tower_mul k a a) (tower_mul k (root k) a)) 1
      ∙ ap₂ bit_xor
      (keeps.sum_image (tower_mul k a a) (tower_mul k (root k) a)
      ∙ ap₂ bit_xor (keeps.product_image a a) (keeps.product_image (root k) a))
      keeps.one_image
      ∙ none))

  -- the polynomial whose root the next level adjoins has no root in the field
  pub basis-no_root : (x : ℕ) → bit_xor (bit_xor (times x x) (times (basis (root k)) x)) 1 ≢ 0
  basis-no_root x none =
      let low = x % 2 ^ width in
      no_root_image (keeps.inverse low) (keeps.inverse_below low)
      (ap (λ (y : ℕ). bit_xor (bit_xor (times y y) (times (basis (root k)) y)) 1) (keeps.image_of_inverse low (mod-lt x (pow_pos width)))
      ∙ ap₂ (λ (y z : ℕ). bit_xor (bit_xor y z) 1)
      (times-mod width 1 times ring (x % 2 ^ width) x ∙ mod-times width 1 times ring x x)
      (times-mod width 1 times ring (basis (root k)) x)
      ∙ none)

  -- the images of Cantor vectors are Cantor vectors of the field
  pub basis-cantor : (vector : ℕ → ℕ) → AreEvenCantorVectors k vector → width ≡ 2 ^ k
      → AreCantorVectors width times (λ i. basis (vector i))
  basis-cantor vector vectors bits =
      record {
        first = ap basis vectors.first ∙ keeps.one_image;
        rule =
            λ i above below.
            ap (λ (x : ℕ). bit_xor x (basis (vector i))) (sym (keeps.product_image (vector i) (vector i)))
            ∙ sym (keeps.sum_image (tower_mul k (vector i) (vector i)) (vector i))
            ∙ ap basis (vectors.rule i above (subst (λ (w : ℕ). i < w) bits below));
      }

-- ---- the generators

-- the generator of a level is an element
pub generator_lt : (k : ℕ) → k ≤ 7 → tower_generator k < 2 ^ 2 ^ k
generator_lt k few =
    eight_cases (λ k. tower_generator k < 2 ^ 2 ^ k) (lit< tt) (lit< tt) (lit< tt) (lit< tt) (lit< tt) (lit< tt) (lit< tt) (lit< tt)
    k (omega (arith, few))

-- and it is not 0
pub generator_nonzero : (k : ℕ) → k ≤ 7 → tower_generator k ≢ 0
generator_nonzero k few =
    eight_cases (λ k. tower_generator k ≢ 0) (λ e. absurd (omega (arith, e))) (λ e. absurd (omega (arith, e)))
    (λ e. absurd (omega (arith, e))) (λ e. absurd (omega (arith, e))) (λ e. absurd (omega (arith, e)))
    (λ e. absurd (omega (arith, e))) (λ e. absurd (omega (arith, e))) (λ e. absurd (omega (arith, e))) k (omega (arith, few))
