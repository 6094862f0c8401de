-- For any shares, one fewer than restore a secret, each secret has exactly one list of coefficients.
use Rattle.std.proofs.Common.{◌≡◌, ℕ, zero, suc, ◌^◌, ◌<◌, List, [], ◌∷◌, length, refl, sym, ◌∙◌, ap, ap₂, arith}
use Rattle.std.specs.Prelude.{bit_xor, slice_index}
use Rattle.std.proofs.lemmas.Nat.{pow_pos}
use native.Mathlib.Nat.{mod-eq_of_lt}
use lib.Bits.{xor_zero_r}
use Rattle.field_base.specs.Field.{IsField}
use Rattle.field_base.proofs.RingLemmas.{zero-times}
use Rattle.field_base.specs.Interpolation.{InterpolatesPoints, interpolated}
use Rattle.field_base.specs.PolynomialRoots.{AreDistinctBelow}
use Rattle.field_base.proofs.Codewords.{lagrange_interpolates}
use Rattle.field_base.proofs.PolynomialCoefficients.{value_of-cons}
use Rattle.field_base.proofs.Polynomials.{polynomial-same}
use Rattle.error_codes.specs.Words.{at}
use Rattle.error_codes.specs.Secrets.{SharesHideSecret, SharesSecret}
use Rattle.error_codes.proofs.Lists.{coefficients-fit, coefficients-only, list-polynomial}

-- the number first, and then those of f
abbrev from_first : ℕ → (ℕ → ℕ) → ℕ → ℕ
from_first a f zero = a
from_first a f (suc i) = f i

-- the value at 0 is the first coefficient
first-value : (width : ℕ) (times : ℕ → ℕ → ℕ) → IsField width times → (k : ℕ) (cs : List ℕ) → length cs ≡ suc k
    → ((i : ℕ) → i < length cs → slice_index cs i < 2 ^ width) → at times cs 0 ≡ slice_index cs 0
first-value width times field k [] count fits = absurd (omega (arith, count))
first-value width times field k (c ∷ cs) count fits =
    value_of-cons width times field.ring c cs 0
    ∙ ap₂ bit_xor (field.ring.one c
    ∙ mod-eq_of_lt (fits 0 (omega arith))) (zero-times width 1 times field.ring (at times cs 0))
    ∙ xor_zero_r c

pub shares_hide_secret : SharesHideSecret
shares_hide_secret width times wide field others point share points nonzero shares_fit secret secret_fits = (
  list.0,
  record {
    count = list.1;
    fits = list.2;
    is_secret = sym (first-value width times field others list.0 list.1 list.2) ∙ list.3 0
        ∙ given.at_points 0 (omega arith);
    shares = λ i below. list.3 (point i) ∙ given.at_points (suc i) (omega (arith, below));
  },
  λ ds other.
      coefficients-only width times field wide
      (suc others) ds list.0 other.count list.1 all all-distinct other.fits list.2
      (λ i below. of-other ds other i below ∙ sym (list.3 (all i) ∙ given.at_points i below)),
)
  where
    all : ℕ → ℕ
    all = from_first 0 point

    value : ℕ → ℕ
    value = from_first secret share

    all-below : (i : ℕ) → i < suc others → all i < 2 ^ width
    all-below zero below = pow_pos width
    all-below (suc i) below = points.below i (omega (arith, below))

    all-differ : (i j : ℕ) → i < suc others → j < suc others → all i ≡ all j → i ≡ j
    all-differ zero zero i_below j_below same = refl
    all-differ zero (suc j) i_below j_below same = absurd (nonzero j (omega (arith, j_below)) (sym same))
    all-differ (suc i) zero i_below j_below same = absurd (nonzero i (omega (arith, i_below)) same)
    all-differ (suc i) (suc j) i_below j_below same =
        ap suc (points.differ i j (omega (arith, i_below)) (omega (arith, j_below)) same)

    all-distinct : AreDistinctBelow (suc others) (2 ^ width) all
    all-distinct = record { below = all-below; differ = all-differ }

    values-fit : (i : ℕ) → i < suc others → value i < 2 ^ width
    values-fit zero below = secret_fits
    values-fit (suc i) below = shares_fit i (omega (arith, below))

    given : InterpolatesPoints width times (suc others) all value
    given = lagrange_interpolates width times (suc others) all value wide field all-distinct values-fit

    list : (cs : List ℕ) × (length cs ≡ suc others) × ((i : ℕ) → i < length cs → slice_index cs i < 2 ^ width)
        × ((x : ℕ) → at times cs x ≡ interpolated width times all value (suc others) x)
    list =
        coefficients-fit width times field (suc others) (λ x. interpolated width times all value (suc others) x)
        (polynomial-same width times field.ring (suc others) (at times given.coefficients)
        (λ x. interpolated width times all value (suc others) x)
        (λ x. sym (given.is_polynomial x)) (list-polynomial width times field
        (suc others) given.coefficients given.count))

    of-other : (ds : List ℕ) → SharesSecret width times others point share secret ds → (i : ℕ) → i < suc others
        → at times ds (all i) ≡ value i
    of-other ds other zero below = first-value width times field others ds other.count other.fits ∙ other.is_secret
    of-other ds other (suc i) below = other.shares i (omega (arith, below))
