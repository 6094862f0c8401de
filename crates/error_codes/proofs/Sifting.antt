-- The sums for a product of differences, a factor after the other.
use Rattle.std.proofs.Common.{◌≡◌, ℕ, suc, ◌+◌, ◌^◌, ◌<◌, Bool, true, false, sym, ◌∙◌, ap, ap₂, arith}
use Rattle.std.specs.Prelude.{bit_xor}
use Rattle.field_base.specs.Basis.{product_below, sum_below}
use Rattle.field_base.specs.Field.{IsField}
use Rattle.field_base.specs.Powers.{power}
use Rattle.field_base.proofs.PowerLemmas.{times-one}
use Rattle.error_codes.specs.Filling.{marked_product, weighted_sum}
use Rattle.error_codes.proofs.Moments.{sum-add, sum-same, sum-times}
use Rattle.error_codes.proofs.Products.{with-mark, without-mark}

module _ (width : ℕ) (times : ℕ → ℕ → ℕ) (wide : 0 < width) (field : IsField width times) (n : ℕ)
    (point weight : ℕ → ℕ) (marked : ℕ → Bool) where
  -- with no factor
  pub sums-start : (m value : ℕ) → value ≡ sum_below (λ i. times (weight i) (power 1 times (point i) m)) n
      → value ≡ weighted_sum times n point weight (marked_product times point marked 0) m
  unfolding product_below
  sums-start m value is =
      is ∙ sum-same (λ i. times (weight i) (power 1 times (point i) m))
      (λ i. times (times (weight i) (power 1 times (point i) m)) 1) n
      (λ i below. sym (times-one width 1 times field.ring (times (weight i) (power 1 times (point i) m))
      (field.ring.below (weight i) (power 1 times (point i) m))))

  -- one factor more, x + p
  term : (w xm x P p : ℕ)
      → times (times w xm) (times P (bit_xor x p))
      ≡ bit_xor (times (times w (times xm x)) P) (times p (times (times w xm) P))
  term w xm x P p =
      ap (times (times w xm)) (field.ring.over_sum P x p)
      ∙ field.ring.over_sum (times w xm) (times P x) (times P p)
      ∙ ap₂ bit_xor
      (ap (times (times w xm)) (field.ring.comm P x) ∙ sym (field.ring.assoc (times w xm) x P)
      ∙ ap (λ (z : ℕ). times z P) (field.ring.assoc w xm x))
      (sym (field.ring.assoc (times w xm) P p) ∙ field.ring.comm (times (times w xm) P) p)

  pub sums-marked : (i m value next before : ℕ) → marked i ≡ true
      → next ≡ weighted_sum times n point weight (marked_product times point marked i) (m + 1)
      → before ≡ weighted_sum times n point weight (marked_product times point marked i) m
      → value ≡ bit_xor next (times (point i) before)
      → value ≡ weighted_sum times n point weight (marked_product times point marked (i + 1)) m
  unfolding power
  sums-marked i m value next before is next_is before_is value_is =
      value_is
      ∙ ap₂ bit_xor (next_is ∙ ap (weighted_sum times n point weight product) (sym more))
      (ap (times (point i)) before_is
      ∙ sym (sum-times width times wide field (point i) (λ j. times (times (weight j) (power 1 times (point j) m))
      (product (point j))) n))
      ∙ sym (sum-add (λ j. times (times (weight j) (power 1 times (point j) (suc m))) (product (point j)))
      (λ j. times (point i) (times (times (weight j) (power 1 times (point j) m)) (product (point j)))) n)
      ∙ sum-same (λ j. bit_xor (times (times (weight j) (power 1 times (point j) (suc m))) (product (point j)))
      (times (point i) (times (times (weight j) (power 1 times (point j) m)) (product (point j)))))
      (λ j. times (times (weight j) (power 1 times (point j) m)) (marked_product times point marked (suc i) (point j))) n
      (λ j below.
      sym (term (weight j) (power 1 times (point j) m) (point j) (product (point j)) (point i))
      ∙ ap (times (times (weight j) (power 1 times (point j) m)))
      (sym (with-mark width times wide field point marked i is (point j))))
      ∙ ap (λ (k : ℕ). weighted_sum times n point weight (marked_product times point marked k) m) step
    where
      product : ℕ → ℕ
      product = marked_product times point marked i

      more : suc m ≡ m + 1
      more = omega arith

      step : suc i ≡ i + 1
      step = omega arith

  pub sums-unmarked : (i m value : ℕ) → marked i ≡ false
      → value ≡ weighted_sum times n point weight (marked_product times point marked i) m
      → value ≡ weighted_sum times n point weight (marked_product times point marked (i + 1)) m
  sums-unmarked i m value is value_is =
      value_is
      ∙ sum-same (λ j. times (times (weight j) (power 1 times (point j) m)) (marked_product times point marked i (point j)))
      (λ j. times (times (weight j) (power 1 times (point j) m)) (marked_product times point marked (suc i) (point j))) n
      (λ j below. ap (times (times (weight j) (power 1 times (point j) m)))
      (sym (without-mark width times wide field point marked i is (point j))))
      ∙ ap (λ (k : ℕ). weighted_sum times n point weight (marked_product times point marked k) m) step
    where
      step : suc i ≡ i + 1
      step = omega arith

  -- ---- a product of values

  -- with no factor
  pub product-starts : (x s value : ℕ) → s < 2 ^ width → value ≡ s
      → value ≡ times s (marked_product times point marked 0 x)
  unfolding product_below
  product-starts x s value fits is = is ∙ sym (times-one width 1 times field.ring s fits)

  -- one factor more
  pub product-marked : (i x s value next : ℕ) → marked i ≡ true → value ≡ times s (marked_product times point marked i x)
      → next ≡ times value (bit_xor x (point i)) → next ≡ times s (marked_product times point marked (i + 1) x)
  product-marked i x s value next is value_is next_is =
      next_is ∙ ap (λ (v : ℕ). times v (bit_xor x (point i))) value_is
      ∙ field.ring.assoc s (marked_product times point marked i x) (bit_xor x (point i))
      ∙ ap (times s) (sym (with-mark width times wide field point marked i is x))
      ∙ ap (λ (k : ℕ). times s (marked_product times point marked k x)) step
    where
      step : suc i ≡ i + 1
      step = omega arith

  pub product-unmarked : (i x s value : ℕ) → marked i ≡ false → value ≡ times s (marked_product times point marked i x)
      → value ≡ times s (marked_product times point marked (i + 1) x)
  product-unmarked i x s value is value_is =
      value_is ∙ ap (times s) (sym (without-mark width times wide field point marked i is x))
      ∙ ap (λ (k : ℕ). times s (marked_product times point marked k x)) step
    where
      step : suc i ≡ i + 1
      step = omega arith
