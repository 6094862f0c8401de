-- Values of binary polynomials carry sums and products, and a root of an irreducible one gives an isomorphism: only 0 goes to 0, since
-- another element has an inverse, so that the images are as many as the elements.
use Rattle.std.proofs.Common.{length, ◌≡◌, ℕ, zero, suc, ◌*◌, ◌-◌, ◌/◌, ◌%◌, ◌^◌, ◌≤◌, ◌<◌, refl, sym, ◌∙◌, ap, ap₂, subst, arith, lit<}
use Rattle.std.specs.Prelude.{bit_xor}
use Rattle.std.proofs.lemmas.Nat.{pow_pos, pow_below, xor_lt, xor_comm}
use native.Mathlib.Decide.{le_ind}
use native.Mathlib.Nat.{pow-suc, le_refl, mod-lt, mod-eq_of_lt, not-suc-le-zero, zero-mul, one-mul, mul-mod_left, mul-div_cancel}
use lib.Arith.{bin_ind, half_le}
use lib.Bits.{xor_self, xor_zero_r}
use Rattle.field_base.specs.Carryless.{carryless}
use Rattle.field_base.specs.Field.{HasInverses}
use Rattle.field_base.specs.Remainder.{HasDegree, rem, mul_mod}
use Rattle.field_base.specs.Ring.{IsRing}
use Rattle.field_base.proofs.CarrylessProduct.{xor_half, xor_odd, bit_cases, carryless_step, zero_carryless}
use Rattle.field_base.proofs.PowerLemmas.{one-times}
use Rattle.field_base.proofs.RemainderLaws.{rem_is_remainder}
use Rattle.field_base.proofs.RemainderRing.{mul_mod-rem}
use Rattle.field_base.proofs.RingLemmas.{xor_exchange, xor_nothing, times-zero, zero-times, sum_times}
use Rattle.field_base.proofs.AdditiveMaps.{maps_agree}
use Rattle.field_base.specs.Powers.{power}
use Rattle.any_field.specs.Values.{ValuesAreLinear, binary_value_in, binary_value, IsEmbeddingOf, IsIsomorphismOf, RootsGiveEmbeddings, RootsGiveIsomorphisms}
use Rattle.any_field.proofs.IrreducibleFields.{irreducible_gives_field}
use Rattle.any_field.proofs.Products.{IsIn, down, images, down-in, down-of, length-images, images-of, images-distinct, rearranged}

-- ---- the step

more : (times : ℕ → ℕ → ℕ) (b fuel p : ℕ) → p ≤ fuel → binary_value_in (suc fuel) times b p ≡ binary_value_in fuel times b p
unfolding binary_value_in
more times b zero zero fits = refl
more times b zero (suc p) fits = absurd (not-suc-le-zero fits)
more times b (suc fuel) zero fits = refl
more times b (suc fuel) (suc p) fits =
    ap (λ (x : ℕ). bit_xor (suc p % 2) (times b x)) (more times b fuel (suc p / 2) (half_le fits))

enough : (times : ℕ → ℕ → ℕ) (b fuel p : ℕ) → p ≤ fuel → binary_value_in fuel times b p ≡ binary_value times b p
unfolding binary_value
enough times b fuel p fits =
    le_ind (λ (m : ℕ). binary_value_in m times b p ≡ binary_value_in p times b p) refl (λ m k e. more times b m p k ∙ e) fuel fits

module _ (width : ℕ) (times : ℕ → ℕ → ℕ) (wide : 0 < width) (ring : IsRing width 1 times) (b : ℕ) where
  abbrev at : ℕ → ℕ
  at p = binary_value times b p

  pub at-zero : at 0 ≡ 0
  unfolding binary_value binary_value_in
  at-zero = refl

  pub at-step : (p : ℕ) → at p ≡ bit_xor (p % 2) (times b (at (p / 2)))
  unfolding binary_value binary_value_in
  at-step zero = sym (ap (bit_xor 0) (times-zero width 1 times ring b))
  at-step (suc p) =
      ap (λ (x : ℕ). bit_xor (suc p % 2) (times b x)) (enough times b p (suc p / 2) (half_le (le_refl (suc p))))

  bit-lt : (p : ℕ) → p % 2 < 2 ^ width
  bit-lt p = bit_cases (λ z. z < 2 ^ width) (pow_pos width) (pow_below 0 width wide) p

  pub at-lt : (p : ℕ) → at p < 2 ^ width
  at-lt p = subst (λ (z : ℕ). z < 2 ^ width) (sym (at-step p)) (xor_lt width (p % 2) (times b (at (p / 2))) (bit-lt p) (ring.below b (at (p / 2))))

  at-bit : (p : ℕ) → at (p % 2) ≡ p % 2
  at-bit p = bit_cases (λ z. at z ≡ z) at-zero (at-step 1 ∙ ap (λ (z : ℕ). bit_xor 1 (times b z)) at-zero ∙ ap (bit_xor 1) (times-zero width 1 times ring b)) p

  pub at-one : at 1 ≡ 1
  at-one = at-bit 1

  pub at-sum : (p q : ℕ) → at (bit_xor p q) ≡ bit_xor (at p) (at q)
  at-sum =
      bin_ind (λ (n : ℕ). (m : ℕ) → at (bit_xor n m) ≡ bit_xor (at n) (at m))
      (λ m. ap at (nil m) ∙ sym (ap (λ (z : ℕ). bit_xor z (at m)) at-zero ∙ nil (at m)))
      (λ n ih m.
      at-step (bit_xor n m)
      ∙ ap₂ (λ (x y : ℕ). bit_xor x (times b y)) (xor_odd n m) (ap at (xor_half n m) ∙ ih (m / 2))
      ∙ ap (bit_xor (bit_xor (n % 2) (m % 2))) (ring.over_sum b (at (n / 2)) (at (m / 2)))
      ∙ xor_exchange (n % 2) (m % 2) (times b (at (n / 2))) (times b (at (m / 2)))
      ∙ sym (ap₂ bit_xor (at-step n) (at-step m)))
    where
      nil : (m : ℕ) → bit_xor 0 m ≡ m
      nil m = xor_comm 0 m ∙ xor_zero_r m

  -- the double of a polynomial has the root times its value
  pub at-double : (p : ℕ) → at (p * 2) ≡ times b (at p)
  at-double p =
      at-step (p * 2) ∙ ap₂ (λ (x y : ℕ). bit_xor x (times b (at y))) (mul-mod_left p 2) (mul-div_cancel p (lit< tt))
      ∙ xor_comm 0 (times b (at p)) ∙ xor_zero_r (times b (at p))

  pub at-product : (p q : ℕ) → at (carryless p q) ≡ times (at p) (at q)
  at-product p q =
      bin_ind (λ (n : ℕ). at (carryless n q) ≡ times (at n) (at q))
      (ap at (zero_carryless q) ∙ at-zero ∙ sym (ap (λ (z : ℕ). times z (at q)) at-zero ∙ zero-times width 1 times ring (at q)))
      (λ n ih.
      ap at (carryless_step n q) ∙ at-sum (n % 2 * q) (carryless (n / 2) q * 2)
      ∙ ap₂ bit_xor (bit-product n) (at-double (carryless (n / 2) q) ∙ ap (times b) ih ∙ sym (ring.assoc b (at (n / 2)) (at q)))
      ∙ sym (sum_times width 1 times ring (n % 2) (times b (at (n / 2))) (at q))
      ∙ ap (λ (z : ℕ). times z (at q)) (sym (at-step n))) p
    where
      bit-product : (n : ℕ) → at (n % 2 * q) ≡ times (n % 2) (at q)
      bit-product n =
          bit_cases (λ z. at (z * q) ≡ times z (at q))
          (ap at (zero-mul q) ∙ at-zero ∙ sym (zero-times width 1 times ring (at q)))
          (ap at (one-mul q) ∙ sym (one-times width 1 times ring (at q) (at-lt q))) n

  -- ---- modulo a polynomial of which b is a root
  module _ (source modulus : ℕ) (degree : HasDegree source modulus) (root : at modulus ≡ 0) where
    pub at-rem : (p : ℕ) → at (rem source modulus p) ≡ at p
    at-rem p = along (rem source modulus p) (rem_is_remainder source modulus p degree).quotient (rem_is_remainder source modulus p degree).parts
      where
        along : (r q : ℕ) → p ≡ bit_xor (carryless q modulus) r → at r ≡ at p
        along r q parts =
            sym (ap at parts ∙ at-sum (carryless q modulus) r
            ∙ ap (λ (z : ℕ). bit_xor z (at r)) (at-product q modulus ∙ ap (times (at q)) root ∙ times-zero width 1 times ring (at q))
            ∙ xor_comm 0 (at r) ∙ xor_zero_r (at r))

    at-times : (x y : ℕ) → x < 2 ^ source → y < 2 ^ source → at (mul_mod source modulus x y) ≡ times (at x) (at y)
    at-times x y x_fits y_fits = ap at (mul_mod-rem source modulus degree x y x_fits y_fits) ∙ at-rem (carryless x y) ∙ at-product x y

    module _ (inverses : HasInverses source (mul_mod source modulus)) where
      -- only 0 goes to 0
      kernel : (x : ℕ) → x < 2 ^ source → at x ≡ 0 → x ≡ 0
      kernel zero fits nothing = refl
      kernel (suc x) fits nothing =
          let inverse = inverses (suc x) fits (λ e. absurd (omega (arith, e))) in
          let one : 1 ≡ 0 =
          sym at-one ∙ ap at (sym inverse.2) ∙ at-times (suc x) inverse.0 fits inverse.1
          ∙ ap (λ (z : ℕ). times z (at inverse.0)) nothing ∙ zero-times width 1 times ring (at inverse.0) in
          absurd (omega (arith, one))

      at-injective : (x y : ℕ) → x < 2 ^ source → y < 2 ^ source → at x ≡ at y → x ≡ y
      at-injective x y x_fits y_fits same =
          xor_nothing x y (kernel (bit_xor x y) (xor_lt source x y x_fits y_fits)
          (at-sum x y ∙ ap (λ (z : ℕ). bit_xor z (at y)) same ∙ xor_self (at y)))

      is-embedding : IsEmbeddingOf source width (mul_mod source modulus) times at
      is-embedding = record { below = at-lt; one_image = at-one; sum_image = at-sum; product_image = at-times; injective = at-injective }

  -- ---- of as many elements
  module _ (modulus : ℕ) (degree : HasDegree width modulus) (root : at modulus ≡ 0) (inverses : HasInverses width (mul_mod width modulus)) where
    embedded : IsEmbeddingOf width width (mul_mod width modulus) times at
    embedded = is-embedding width modulus degree root inverses

    abbrev order : ℕ
    order = 2 ^ width - 1

    within : (x : ℕ) → x ≤ order → x < 2 ^ width
    within x least = omega (arith, pow_pos width)

    -- each nonzero element is an image
    covered : (y : ℕ) → IsIn y (down order) → IsIn y (images at (down order))
    covered =
        (rearranged width times ring (images at (down order)) (down order)
        (images-distinct at order (λ x y x_some y_some x_least y_least same. embedded.injective x y (within x x_least) (within y y_least) same))
        (λ y is.
        let found = images-of at (down order) y is in
        let below = down-of order found.0 found.1 in
        subst (λ (z : ℕ). IsIn z (down order)) (sym found.2)
        (down-in order (at found.0) (λ e. below.0 (embedded.injective found.0 0 (within found.0 below.1) (pow_pos width) (e ∙ sym at-zero))) (of_element (at found.0) (at-lt found.0))))
        (sym (length-images at (down order)))).1
      where
        of_element : (x : ℕ) → x < 2 ^ width → x ≤ order
        of_element x fits = omega arith

    preimage : (y : ℕ) → y < 2 ^ width → (x : ℕ) × (x < 2 ^ width) × (at x ≡ y)
    preimage zero fits = (0, pow_pos width, at-zero)
    preimage (suc y) fits =
        let found = images-of at (down order) (suc y) (covered (suc y) (down-in order (suc y) (λ e. absurd (omega (arith, e))) (omega arith))) in
        (found.0, within found.0 (down-of order found.0 found.1).1, sym found.2)

    is-isomorphism : IsIsomorphismOf width (mul_mod width modulus) times at
    is-isomorphism = record {
      below = at-lt;
      one_image = at-one;
      sum_image = at-sum;
      product_image = embedded.product_image;
      inverse = λ y. (preimage (y % 2 ^ width) (mod-lt y (pow_pos width))).0;
      inverse_below = λ y. (preimage (y % 2 ^ width) (mod-lt y (pow_pos width))).1;
      image_of_inverse = λ y fits. (preimage (y % 2 ^ width) (mod-lt y (pow_pos width))).2 ∙ mod-eq_of_lt fits;
      inverse_of_image = λ x fits.
          embedded.injective (preimage (at x % 2 ^ width) (mod-lt (at x) (pow_pos width))).0 x
          (preimage (at x % 2 ^ width) (mod-lt (at x) (pow_pos width))).1 fits
          ((preimage (at x % 2 ^ width) (mod-lt (at x) (pow_pos width))).2 ∙ mod-eq_of_lt (at-lt x));
    }

pub roots_give_embeddings : RootsGiveEmbeddings
roots_give_embeddings source modulus width times root some wide degree irreducible ring is =
    is-embedding width times wide ring root source modulus degree is (irreducible_gives_field source modulus some degree irreducible).inverses

pub roots_give_isomorphisms : RootsGiveIsomorphisms
roots_give_isomorphisms width modulus times root wide degree irreducible ring is =
    is-isomorphism width times wide ring root modulus degree is (irreducible_gives_field width modulus wide degree irreducible).inverses

-- ---- the linear map

-- the values of the powers of x are the powers of the root
value-shift : (width : ℕ) (times : ℕ → ℕ → ℕ) → 0 < width → IsRing width 1 times → (b j : ℕ) → binary_value times b (2 ^ j) ≡ power 1 times b j
unfolding power
value-shift width times wide ring b zero = at-one width times wide ring b
value-shift width times wide ring b (suc j) =
    ap (binary_value times b) (next j) ∙ at-double width times wide ring b (2 ^ j) ∙ ap (times b) (value-shift width times wide ring b j)
    ∙ ring.comm b (power 1 times b j)
  where
    next : (j : ℕ) → 2 ^ suc j ≡ 2 ^ j * 2
    next j = omega (arith, pow-suc 2 j)

pub values_are_linear : ValuesAreLinear
values_are_linear width times root powers wide ring are = record {
  of_sum = at-sum width times wide ring root;
  of_bit = λ j below. value-shift width times wide ring root j ∙ sym (are j below);
  only = λ g g_sum g_bit x fits.
      maps_agree g (binary_value times root) g_sum (at-sum width times wide ring root) (length powers)
      (λ j below. g_bit j below ∙ are j below ∙ sym (value-shift width times wide ring root j)) x fits;
}
