-- The steps of the loops over the shards of a sample.
use Rattle.std.proofs.Common.{◌≡◌, ◌≢◌, inl, inr, ℕ, zero, suc, ◌+◌, ◌^◌, ◌<◌, ◌≤◌, refl, sym, ◌∙◌, ap, ap₂, arith, lit<}
use Rattle.std.proofs.lemmas.Bool.Decides.{eqb_tells}
use Rattle.std.specs.Prelude.{bit_xor}
use native.Mathlib.Numerals.{add-one}
use Rattle.field_base.specs.Basis.{sum_below, product_below}
use Rattle.field_base.proofs.FieldLemmas.{inverse-power}
use Rattle.field_base.proofs.PowerLemmas.{times-one}
use Rattle.field_base.proofs.RingLemmas.{xor_nothing}
use Rattle.field_base.specs.Interpolation.{other_factors, lagrange}
use Rattle.field_base.specs.PolynomialRoots.{AreDistinctBelow}
use Rattle.field_base.proofs.Interpolation.{factors-lt, factors_more, factors_skip, factors-nonzero}
use Rattle.reed_solomon.specs.ByteFields.{byte_times}
use Rattle.reed_solomon.specs.declared.byte_field.ByteField.TheVariants.{Qr}
use Rattle.reed_solomon.proofs.ByteFields.{erasure_field}

-- no factor yet
pub no_factors : (point : ℕ → ℕ) (own x : ℕ) → 1 ≡ other_factors (byte_times Qr) point own x 0
unfolding product_below
no_factors point own x = refl

-- one factor more, where it counts
pub factor_step : (point : ℕ → ℕ) (own x i so_far place : ℕ) → i ≢ own → so_far ≡ other_factors (byte_times Qr) point own x i
    → place ≡ point i → byte_times Qr so_far (bit_xor x place) ≡ other_factors (byte_times Qr) point own x (i + 1)
factor_step point own x i so_far place different is place_is =
    ap₂ (byte_times Qr) is (ap (bit_xor x) place_is)
    ∙ sym (factors_more 8 (byte_times Qr) erasure_field (lit< tt) point own x i different)
    ∙ ap (other_factors (byte_times Qr) point own x) (sym (add-one i))

-- and where it does not
pub factor_skipped : (point : ℕ → ℕ) (own x i so_far : ℕ) → i ≡ own → so_far ≡ other_factors (byte_times Qr) point own x i
    → so_far ≡ other_factors (byte_times Qr) point own x (i + 1)
factor_skipped point own x i so_far same is =
    is ∙ sym (factors_skip 8 (byte_times Qr) erasure_field (lit< tt) point own x i same)
    ∙ ap (other_factors (byte_times Qr) point own x) (sym (add-one i))

-- the denominator is not 0
pub denominator-nonzero : (point : ℕ → ℕ) (own count i denominator : ℕ) → AreDistinctBelow count (2 ^ 8) point → own < count
    → i ≡ count → denominator ≡ other_factors (byte_times Qr) point own (point own) i → denominator ≢ 0
denominator-nonzero point own count i denominator distinct within all is =
    λ nothing.
    factors-nonzero 8 (byte_times Qr) erasure_field (lit< tt) point count distinct.below distinct.differ own within i (omega (arith, all))
    (sym is ∙ nothing)

-- a difference of two points is not 0
pub difference-nonzero : (x place : ℕ) → place ≢ x → bit_xor x place ≢ 0
difference-nonzero x place different = λ nothing. different (sym (xor_nothing x place nothing))

-- the product of all differences grows
pub no_difference : (point : ℕ → ℕ) (x : ℕ) → 1 ≡ product_below (byte_times Qr) (λ i. bit_xor x (point i)) 0
unfolding product_below
no_difference point x = refl

pub difference_more : (point : ℕ → ℕ) (x i so_far : ℕ) → so_far ≡ product_below (byte_times Qr) (λ n. bit_xor x (point n)) i
    → byte_times Qr so_far (bit_xor x (point i)) ≡ product_below (byte_times Qr) (λ n. bit_xor x (point n)) (i + 1)
unfolding product_below
difference_more point x i so_far is =
    ap (λ (z : ℕ). byte_times Qr z (bit_xor x (point i))) is
    ∙ ap (product_below (byte_times Qr) (λ n. bit_xor x (point n))) (sym (add-one i))

-- up to the own point the two products are one
same_before : (point : ℕ → ℕ) (own x n : ℕ) → n ≤ own
    → other_factors (byte_times Qr) point own x n ≡ product_below (byte_times Qr) (λ i. bit_xor x (point i)) n
unfolding product_below
same_before point own x zero within = refl
same_before point own x (suc n) within =
    factors_more 8 (byte_times Qr) erasure_field (lit< tt) point own x n (λ e. absurd (omega (arith, e, within)))
    ∙ ap (λ (z : ℕ). byte_times Qr z (bit_xor x (point n))) (same_before point own x n (omega (arith, within)))

-- all differences are those to the other points times that to the own point
all_differences : (point : ℕ → ℕ) (own x n : ℕ) → own < n
    → product_below (byte_times Qr) (λ i. bit_xor x (point i)) n ≡ byte_times Qr (other_factors (byte_times Qr) point own x n) (bit_xor x (point own))
unfolding product_below
all_differences point own x zero within = absurd (omega (arith, within))
all_differences point own x (suc n) within =
    elim (eqb_tells n own) [
      | inl same ↦ ap₂ (byte_times Qr)
          (sym (same_before point own x n (omega (arith, same.1)))
          ∙ sym (factors_skip 8 (byte_times Qr) erasure_field (lit< tt) point own x n same.1))
          (ap (λ (i : ℕ). bit_xor x (point i)) same.1)
      | inr other ↦ ap (λ (z : ℕ). byte_times Qr z (bit_xor x (point n))) (all_differences point own x n (earlier n within other.1))
          ∙ swapped (other_factors (byte_times Qr) point own x n) (bit_xor x (point own)) (bit_xor x (point n))
          ∙ ap (λ (z : ℕ). byte_times Qr z (bit_xor x (point own)))
          (sym (factors_more 8 (byte_times Qr) erasure_field (lit< tt) point own x n other.1))
    ]
  where
    earlier : (n : ℕ) → own < suc n → (n ≡ own → ⊥) → own < n
    earlier n below different = omega (arith, below, different)

    swapped : (a b c : ℕ) → byte_times Qr (byte_times Qr a b) c ≡ byte_times Qr (byte_times Qr a c) b
    swapped a b c =
        erasure_field.ring.assoc a b c ∙ ap (byte_times Qr a) (erasure_field.ring.comm b c) ∙ sym (erasure_field.ring.assoc a c b)

-- all differences without the own one, times the weight, are Lagrange's factor
pub weighed_factor : (point : ℕ → ℕ) (count own x all inverse weight : ℕ) → own < count → weight < 2 ^ 8
    → all ≡ product_below (byte_times Qr) (λ i. bit_xor x (point i)) count → byte_times Qr (bit_xor x (point own)) inverse ≡ 1
    → byte_times Qr (other_factors (byte_times Qr) point own (point own) count) weight ≡ 1
    → byte_times Qr (byte_times Qr all inverse) weight ≡ lagrange 8 (byte_times Qr) point count own x
weighed_factor point count own x all inverse weight within fits is inverts weighs =
    ap₂ (byte_times Qr)
    (ap (λ (z : ℕ). byte_times Qr z inverse) (is ∙ all_differences point own x count within)
    ∙ erasure_field.ring.assoc (other_factors (byte_times Qr) point own x count) (bit_xor x (point own)) inverse
    ∙ ap (byte_times Qr (other_factors (byte_times Qr) point own x count)) inverts
    ∙ times-one 8 1 (byte_times Qr) erasure_field.ring (other_factors (byte_times Qr) point own x count)
    (factors-lt 8 (byte_times Qr) erasure_field (lit< tt) point own x count))
    (inverse-power 8 (byte_times Qr) erasure_field (lit< tt) (other_factors (byte_times Qr) point own (point own) count) weight
    (factors-lt 8 (byte_times Qr) erasure_field (lit< tt) point own (point own) count) fits weighs)

-- a sum with one term more
pub sum_more : (term : ℕ → ℕ) (j sum next : ℕ) → sum ≡ sum_below term j → next ≡ term j → bit_xor sum next ≡ sum_below term (j + 1)
unfolding sum_below
sum_more term j sum next so_far is = ap₂ bit_xor so_far is ∙ ap (sum_below term) (sym (add-one j))
