-- Codewords are unique, and any data have one.
use Rattle.std.proofs.Common.{◌≡◌, ℕ, ◌^◌, ◌≤◌, List, length, sym, ◌∙◌, subst, arith}
use Rattle.field_base.specs.Field.{IsField}
use Rattle.field_base.specs.Powers.{value_of}
use Rattle.field_base.specs.Codewords.{CodewordIsUnique, CodewordExists}
use Rattle.field_base.specs.Interpolation.{interpolated, LagrangeInterpolates}
use Rattle.field_base.specs.PolynomialRoots.{AreDistinctBelow, ManyRootsMeanZero}
use Rattle.field_base.proofs.Polynomials.{IsPolynomial, polynomial-unique, polynomial-vanishes}
use Rattle.field_base.proofs.PolynomialCoefficients.{of_coefficients, coefficients_of, zero_coefficients}
use Rattle.field_base.proofs.Interpolation.{interpolated-polynomial, interpolated-at, interpolated-is}
use Rattle.field_base.proofs.Pigeonhole.{pigeonhole}

-- a list of k coefficients is a polynomial of k coefficients
list-polynomial : (width : ℕ) (times : ℕ → ℕ → ℕ) → IsField width times → (k : ℕ) (cs : List ℕ) → length cs ≡ k
    → IsPolynomial times k (value_of 1 times (λ c. c) cs)
list-polynomial width times field k cs count =
    subst (λ (n : ℕ). IsPolynomial times n (value_of 1 times (λ c. c) cs)) count (of_coefficients width times field.ring cs)

pub many_roots_mean_zero : ManyRootsMeanZero
many_roots_mean_zero width times n cs point wide field few distinct roots =
    let values : (x : ℕ) → value_of 1 times (λ c. c) cs x ≡ 0 =
    polynomial-vanishes width times field.ring field.inverses (length cs) (value_of 1 times (λ c. c) cs)
    (of_coefficients width times field.ring cs) point (λ i below. distinct.below i (omega (arith, below, few)))
    (λ i j i_below j_below. distinct.differ i j (omega (arith, i_below, few)) (omega (arith, j_below, few)))
    (λ i below. roots i (omega (arith, below, few))) in
    let most : n ≤ 2 ^ width = pigeonhole n (2 ^ width) point distinct in
    record {
      each_coefficient = zero_coefficients width times field cs (omega (arith, few, most)) values;
      each_value = values;
    }

pub lagrange_interpolates : LagrangeInterpolates
lagrange_interpolates width times k point value wide field distinct fits =
    let cs = coefficients_of width times field.ring k (interpolated width times point value k)
    (interpolated-polynomial width times field wide point k distinct.below distinct.differ value) in
    record {
      at_points = λ i below. interpolated-at width times field wide point k distinct.below distinct.differ value i below (fits i below);
      coefficients = cs.0;
      count = cs.1;
      is_polynomial = cs.2;
      is_only = λ others count through x.
          sym (interpolated-is width times field wide point k distinct.below distinct.differ (value_of 1 times (λ c. c) others)
          (list-polynomial width times field k others count) value (λ i below. sym (through i below)) fits x);
    }

pub codeword_is_unique : CodewordIsUnique
codeword_is_unique width times k total place a b wide field most distinct a_word b_word agree i within =
    a_word.values i within
    ∙ polynomial-unique width times field.ring field.inverses k (value_of 1 times (λ c. c) a_word.coefficients)
    (value_of 1 times (λ c. c) b_word.coefficients) (list-polynomial width times field k a_word.coefficients a_word.count)
    (list-polynomial width times field k b_word.coefficients b_word.count) place
    (λ j inside. omega (arith, distinct.below j inside, most)) distinct.differ
    (λ j inside. sym (a_word.values (place j) (distinct.below j inside)) ∙ agree j inside ∙ b_word.values (place j) (distinct.below j inside)) i
    ∙ sym (b_word.values i within)

pub codeword_exists : CodewordExists
codeword_exists width times k total place symbol wide field most distinct fits =
    let points : AreDistinctBelow k (2 ^ width) place =
    record { below = λ i inside. omega (arith, distinct.below i inside, most); differ = distinct.differ } in
    let given = lagrange_interpolates width times k place symbol wide field points fits in
    (record { coefficients = given.coefficients; count = given.count; values = λ i within. given.is_polynomial i }, given.at_points)
