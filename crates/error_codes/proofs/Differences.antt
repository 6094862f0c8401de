-- What a marked symbol is to be, from the sums for the points of the other marked places.
use Rattle.std.proofs.Common.{◌≡◌, ◌≢◌, ℕ, ◌^◌, ◌<◌, Bool, true, false, inl, inr, refl, sym, ◌∙◌, ap}
use Rattle.std.specs.Prelude.{bit_xor, nat_eq, not, ◌&&◌}
use Rattle.std.proofs.lemmas.Bool.Decides.{eqb_tells}
use Rattle.std.proofs.lemmas.Nat.{xor_lt}
use lib.Bits.{xor_self, xor_zero_r}
use Rattle.field_base.specs.Field.{IsField}
use Rattle.field_base.specs.Powers.{power}
use Rattle.field_base.specs.Basis.{sum_below}
use Rattle.field_base.proofs.FieldLemmas.{no_zero_divisors}
use Rattle.field_base.proofs.PowerLemmas.{times-one}
use Rattle.field_base.proofs.RingLemmas.{times-zero, xor_cancel, zero-times}
use Rattle.error_codes.specs.Checks.{AreScaled, IsChecked, syndrome}
use Rattle.error_codes.specs.Filling.{marked_product, weighted_sum}
use Rattle.error_codes.proofs.Checks.{syndrome-sum}
use Rattle.error_codes.proofs.Moments.{power-none, sum-one}
use Rattle.error_codes.proofs.Products.{locator-lt, locator-nonzero, locator-zero}

module _ (width : ℕ) (times : ℕ → ℕ → ℕ) (wide : 0 < width) (field : IsField width times) (checks n : ℕ)
    (point scale : ℕ → ℕ) (scaled : AreScaled width n point scale) (word sent : ℕ → ℕ)
    (fits : (i : ℕ) → i < n → word i < 2 ^ width)
    (checked : IsChecked width times checks n point scale sent) where
  -- the scaled difference at a place
  abbrev pub scaled_difference : ℕ → ℕ
  scaled_difference i = times (scale i) (bit_xor (word i) (sent i))

  -- the syndromes are those of the differences
  pub difference-sums : (m value : ℕ) → m < checks → value ≡ syndrome times n point scale word m
      → value ≡ sum_below (λ i. times (scaled_difference i) (power 1 times (point i) m)) n
  difference-sums m value below is =
      is ∙ sym (xor_zero_r (syndrome times n point scale word m))
      ∙ ap (bit_xor (syndrome times n point scale word m)) (sym (checked.sums m below))
      ∙ sym (syndrome-sum width times wide field n point scale word sent m)

  module _ (marked : ℕ → Bool) (same : (i : ℕ) → i < n → marked i ≡ false → word i ≡ sent i) (place : ℕ)
      (inside : place < n) where
    abbrev others : ℕ → Bool
    others i = marked i && not (nat_eq i place)

    abbrev product : ℕ → ℕ
    product = marked_product times point others n

    other-is : (a b : Bool) → a ≡ true → b ≡ false → (a && not b) ≡ true
    other-is true false a_is b_is = refl
    other-is true true a_is b_is = absurd (cc)
    other-is false b a_is b_is = absurd (cc)

    not-own : (a b : Bool) → (a && not b) ≡ true → b ≡ false
    not-own true true is = absurd (cc)
    not-own true false is = refl
    not-own false b is = absurd (cc)

    -- only the place itself counts
    term : (j : ℕ) → j < n → (b : Bool) → marked j ≡ b → nat_eq j place ≡ false
        → times (times (scaled_difference j) (power 1 times (point j) 0)) (product (point j)) ≡ 0
    term j below true is other =
        ap (times (times (scaled_difference j) (power 1 times (point j) 0)))
        (locator-zero width times wide field point others n j below
        (other-is (marked j) (nat_eq j place) is other))
        ∙ times-zero width 1 times field.ring (times (scaled_difference j) (power 1 times (point j) 0))
    term j below false is other =
        ap (λ (z : ℕ). times (times (times (scale j) (bit_xor z (sent j))) (power 1 times (point j) 0))
        (product (point j)))
        (same j below is)
        ∙ ap (λ (z : ℕ). times (times (times (scale j) z) (power 1 times (point j) 0)) (product (point j)))
        (xor_self (sent j))
        ∙ ap (λ (z : ℕ). times (times z (power 1 times (point j) 0)) (product (point j)))
        (times-zero width 1 times field.ring (scale j))
        ∙ ap (λ (z : ℕ). times z (product (point j)))
        (zero-times width 1 times field.ring (power 1 times (point j) 0))
        ∙ zero-times width 1 times field.ring (product (point j))

    only-place : weighted_sum times n point scaled_difference product 0
        ≡ times (scaled_difference place) (product (point place))
    only-place =
        sum-one (λ j. times (times (scaled_difference j) (power 1 times (point j) 0)) (product (point j))) n place inside
        (λ j below other.
        elim (eqb_tells j place) [
          | inl equal ↦ absurd (other equal.1)
          | inr differs ↦ term j below (marked j) refl differs.0
        ])
        ∙ ap (λ (z : ℕ). times z (product (point place)))
        (power-none width times wide field (scaled_difference place) (point place)
        (field.ring.below (scale place) (bit_xor (word place) (sent place))))

    product-nonzero : product (point place) ≢ 0
    product-nonzero =
        locator-nonzero width times wide field point others n (point place)
        (scaled.points.below place inside) scaled.points.below
        (λ j below marks equal.
        let one : place ≡ j = scaled.points.differ place j inside below equal in
        elim (eqb_tells j place) [
          | inl is ↦ let own = not-own (marked j) (nat_eq j place) marks in let yes = is.0 in absurd (cc)
          | inr differs ↦ differs.1 (sym one)
        ])

    denominator-nonzero : times (scale place) (product (point place)) ≢ 0
    denominator-nonzero none =
        elim (no_zero_divisors width times field.ring field.inverses (scale place) (product (point place))
        (scaled.scales place inside) (locator-lt width times wide field point others n (point place)) none) [
          | inl nothing ↦ scaled.nonzero place inside nothing
          | inr nothing ↦ product-nonzero nothing
        ]

    -- (s d) g i = d where (s g) i = 1
    quotient : (s d g i : ℕ) → d < 2 ^ width → times (times s g) i ≡ 1 → times (times (times s d) g) i ≡ d
    quotient s d g i d_fits is =
        ap (λ (z : ℕ). times (times z g) i) (field.ring.comm s d) ∙ ap (λ (z : ℕ). times z i) (field.ring.assoc d s g)
        ∙ field.ring.assoc d (times s g) i ∙ ap (times d) is ∙ times-one width 1 times field.ring d d_fits

    -- so the quotient is what the symbol lacks
    pub difference-right : (sum denominator inverse result : ℕ)
        → sum ≡ weighted_sum times n point scaled_difference product 0
        → denominator ≡ times (scale place) (product (point place))
        → (denominator ≢ 0 → times denominator inverse ≡ 1)
        → result ≡ times sum inverse → bit_xor (word place) result ≡ sent place
    difference-right sum denominator inverse result sum_is denominator_is inverts result_is =
        ap (bit_xor (word place))
        (result_is ∙ ap (λ (z : ℕ). times z inverse) (sum_is ∙ only-place)
        ∙ quotient (scale place) (bit_xor (word place) (sent place)) (product (point place)) inverse
        (xor_lt width (word place) (sent place) (fits place inside) (checked.symbols place inside))
        (ap (λ (z : ℕ). times z inverse) (sym denominator_is)
        ∙ inverts (λ none. denominator-nonzero (sym denominator_is ∙ none))))
        ∙ xor_cancel (word place) (sent place)
