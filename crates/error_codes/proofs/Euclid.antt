-- Euclid's algorithm keeps what holds between two divisions, and stops with a solution of the key equation.
use Rattle.std.proofs.Common.{◌≡◌, ℕ, zero, suc, ◌+◌, ◌-◌, ◌%◌, ◌^◌, ◌<◌, List, [], ◌∷◌, length, Bool, true, false}
use Rattle.std.proofs.Common.{cond, refl, sym, ◌∙◌, ap, ap₂, subst, arith}
use Rattle.std.specs.Prelude.{bit_xor, slice_index, not}
use Rattle.std.proofs.lemmas.Nat.{pow_below, xor_comm}
use native.Mathlib.Nat.{mod-eq_of_lt}
use lib.Bits.{xor_zero_l}
use Rattle.field_base.specs.Basis.{product_below}
use Rattle.field_base.specs.Field.{IsField}
use Rattle.field_base.specs.Powers.{power, terms_from}
use Rattle.field_base.proofs.PowerLemmas.{one-times, times-one}
use Rattle.field_base.proofs.RingLemmas.{sum_times, times_left_comm, times-zero, xor_cancel}
use Rattle.field_base.proofs.PolynomialCoefficients.{value_of-cons}
use Rattle.field_base.proofs.Polynomials.{polynomial-scale, polynomial-zero}
use Rattle.error_codes.specs.Decoding.{Decodes}
use Rattle.error_codes.specs.Euclid.{EuclidContinues, EuclidDecodes, EuclidStarts, EuclidStops, HasTop}
use Rattle.field_slices.specs.Marks.{marked_below, total}
use Rattle.error_codes.specs.Words.{at, SolvesKey}
use Rattle.field_slices.proofs.Counts.{unmarked-count}
use Rattle.error_codes.proofs.Decoding.{solutions_decode}
use Rattle.error_codes.proofs.Degrees.{count-polynomial, make-top, polynomial-count, top-polynomial, top-product}
use Rattle.error_codes.proofs.Degrees.{top-sum}
use Rattle.error_codes.proofs.Products.{locator, locator-zero, polynomial-most, with-mark, without-mark}

module _ (width : ℕ) (times : ℕ → ℕ → ℕ) (wide : 0 < width) (field : IsField width times) where
  one_fits : 1 < 2 ^ width
  one_fits = pow_below 0 width wide

  top-same : (d e : ℕ) (f h : ℕ → ℕ) → d ≡ e → ((x : ℕ) → h x ≡ f x) → HasTop width times d f → HasTop width times e h
  top-same d e f h degrees same has =
      subst (λ (k : ℕ). HasTop width times k h) degrees
      (record {
        coefficients = has.coefficients;
        count = has.count;
        top = has.top;
        values = λ x. same x
            ∙ has.values x;
      })

  constant-top : HasTop width times 0 (λ x. 1)
  unfolding power
  constant-top =
      make-top width times wide field 0 (λ x. 1) (λ x. 0) (polynomial-zero width times field.ring 0) 1
      (λ none. absurd (omega (arith, sym (mod-eq_of_lt one_fits) ∙ none)))
      (λ x. sym (xor_zero_l (times 1 1) ∙ one-times width 1 times field.ring 1 one_fits))

  shift-top : (d : ℕ) (f : ℕ → ℕ) → HasTop width times d f → HasTop width times (suc d) (λ x. times x (f x))
  shift-top d f has = record {
    coefficients = 0 ∷ has.coefficients;
    count = ap suc has.count;
    top = has.top;
    values = λ x.
        ap (times x) (has.values x) ∙ sym (xor_zero_l (times x (at times has.coefficients x)))
        ∙ ap (λ (z : ℕ). bit_xor z (times x (at times has.coefficients x)))
        (sym (times-zero width 1 times field.ring 1))
        ∙ sym (value_of-cons width times field.ring 0 has.coefficients x);
  }

  root-top : (d a : ℕ) (f : ℕ → ℕ) → HasTop width times d f
      → HasTop width times (suc d) (λ x. times (bit_xor x a) (f x))
  root-top d a f has =
      top-same (suc d) (suc d) (λ x. bit_xor (times a (f x)) (times x (f x))) (λ x. times (bit_xor x a) (f x)) refl
      (λ x. sum_times width 1 times field.ring x a (f x) ∙ xor_comm (times x (f x)) (times a (f x)))
      (top-sum width times wide field (suc d) (λ x. times a (f x)) (λ x. times x (f x))
      (polynomial-scale width times field.ring (suc d) a f (top-polynomial width times wide field d f has))
      (shift-top d f has))

  module _ (point : ℕ → ℕ) (marked : ℕ → Bool) where
    pub locator-top : (n : ℕ)
        → HasTop width times (marked_below marked n) (locator width times wide field point marked n)
    unfolding total product_below
    locator-top zero = constant-top
    locator-top (suc n) = pick (marked n) refl (locator-top n)
      where
        pick : (b : Bool) → marked n ≡ b
            → HasTop width times (marked_below marked n) (locator width times wide field point marked n)
            → HasTop width times (marked_below marked n + cond (marked n) 1 0)
            (locator width times wide field point marked (suc n))
        pick false is before =
            top-same (marked_below marked n) (marked_below marked n + cond (marked n) 1 0)
            (locator width times wide field point marked n)
            (locator width times wide field point marked (suc n))
            (let last : cond (marked n) (suc zero) zero ≡ zero = ap (λ (b : Bool). cond b (suc zero) zero) is in
            omega (arith, last))
            (without-mark width times wide field point marked n is) before
        pick true is before =
            top-same (suc (marked_below marked n)) (marked_below marked n + cond (marked n) 1 0)
            (λ x. times (bit_xor x (point n)) (locator width times wide field point marked n x))
            (locator width times wide field point marked (suc n))
            (let last : cond (marked n) (suc zero) zero ≡ suc zero = ap (λ (b : Bool). cond b (suc zero) zero) is in
            omega (arith, last))
            (λ x. with-mark width times wide field point marked n is x
            ∙ field.ring.comm (locator width times wide field point marked n x) (bit_xor x (point n)))
            (root-top (marked_below marked n) (point n) (locator width times wide field point marked n) before)

  -- ---- coefficients 0 at the top

  zeros : (d : ℕ) → (cs : List ℕ) × (length cs ≡ d) × ((x : ℕ) → at times cs x ≡ 0)
  unfolding terms_from
  zeros zero = ([], refl, λ x. refl)
  zeros (suc d) = next (zeros d)
    where
      next : ((cs : List ℕ) × (length cs ≡ d) × ((x : ℕ) → at times cs x ≡ 0))
          → (cs : List ℕ) × (length cs ≡ suc d) × ((x : ℕ) → at times cs x ≡ 0)
      next rest = (
        0 ∷ rest.0,
        ap suc rest.1,
        λ x.
            value_of-cons width times field.ring 0 rest.0 x
            ∙ ap₂ bit_xor (times-zero width 1 times field.ring 1) (ap (times x) (rest.2 x)
            ∙ times-zero width 1 times field.ring x),
      )

  padded : (d : ℕ) (cs : List ℕ) → (ds : List ℕ) × (length ds ≡ length cs + d) × ((i : ℕ) → i < length cs
      → slice_index ds i ≡ slice_index cs i)
      × ((x : ℕ) → at times ds x ≡ at times cs x)
  unfolding terms_from
  padded d [] = let all = zeros d in (all.0, omega (arith, all.1), (λ i below. absurd (omega (arith, below))), all.2)
  padded d (c ∷ cs) = next (padded d cs)
    where
      next : ((ds : List ℕ) × (length ds ≡ length cs + d) × ((i : ℕ) → i < length cs
          → slice_index ds i ≡ slice_index cs i)
          × ((x : ℕ) → at times ds x ≡ at times cs x))
          → (ds : List ℕ) × (length ds ≡ suc (length cs) + d) × ((i : ℕ) → i < suc (length cs)
          → slice_index ds i ≡ slice_index (c ∷ cs) i)
          × ((x : ℕ) → at times ds x ≡ at times (c ∷ cs) x)
      next rest = (
        c ∷ rest.0,
        omega (arith, rest.1),
        each,
        λ x.
            value_of-cons width times field.ring c rest.0 x ∙ ap (λ (z : ℕ). bit_xor (times 1 c) (times x z)) (rest.3 x)
            ∙ sym (value_of-cons width times field.ring c cs x),
      )
        where
          each : (i : ℕ) → i < suc (length cs) → slice_index (c ∷ rest.0) i ≡ slice_index (c ∷ cs) i
          each zero below = refl
          each (suc i) below = rest.2 i (omega (arith, below))

pub euclid_starts : EuclidStarts
euclid_starts width times wide field n point word erased fits through through_count meets = record {
  degrees = omega arith;
  before_degree = locator-top width times wide field point (λ i. not (erased i)) n;
  rest_count = through_count;
  factor_before_count = polynomial-count width times wide field 0 (λ x. 0) (polynomial-zero width times field.ring 0);
  factor_degree = constant-top width times wide field;
  before_meets = λ i below kept.
      locator-zero width times wide field point (λ j. not (erased j)) n i below (ap not kept)
      ∙ sym (times-zero width 1 times field.ring (word i));
  rest_meets = λ i below kept. meets i below kept ∙ sym (times-one width 1 times field.ring (word i) (fits i below));
}

pub euclid_continues : EuclidContinues
euclid_continues width times wide field kept n point word erased d b before rest factor_before factor state lower more
    quotient next sum some rest_top quotient_top next_count divides = record {
      degrees = let degrees = state.degrees in omega (arith, degrees, sum);
      before_degree = rest_top;
      rest_count = next_count;
      factor_before_count =
          polynomial-count width times wide field (more + b) factor
          (polynomial-most width times field.ring (suc b) (more + b) factor (omega (arith, some))
          (top-polynomial width times wide field b factor state.factor_degree));
      factor_degree =
          top-sum width times wide field (more + b) factor_before (λ x. times (quotient x) (factor x))
          (polynomial-most width times field.ring b (more + b) factor_before (omega arith)
          (count-polynomial width times wide field b factor_before state.factor_before_count))
          (top-product width times wide field more b quotient factor quotient_top state.factor_degree);
      before_meets = state.rest_meets;
      rest_meets = λ i below is_kept.
          let x = point i in
          sym (xor_cancel (times (quotient x) (rest x)) (next x))
          ∙ ap (bit_xor (times (quotient x) (rest x))) (sym (divides x))
          ∙ ap₂ bit_xor
          (ap (times (quotient x)) (state.rest_meets i below is_kept)
          ∙ times_left_comm width 1 times field.ring (quotient x) (word i) (factor x))
          (state.before_meets i below is_kept)
          ∙ xor_comm (times (word i) (times (quotient x) (factor x))) (times (word i) (factor_before x))
          ∙ sym (field.ring.over_sum (word i) (factor_before x) (times (quotient x) (factor x)));
    }

pub euclid_stops : EuclidStops
euclid_stops width times wide field kept n point word erased d b before rest factor_before factor state m s most sum
    rest_count =
    let long = padded width times wide field (s - b) state.factor_degree.coefficients in (
      rest_count.coefficients,
      long.0,
      (λ x. sym (rest_count.values x)),
      (λ x. long.3 x ∙ sym (state.factor_degree.values x)),
      record {
        top_count = rest_count.count;
        bottom_count = let count = state.factor_degree.count in let degrees = state.degrees in
            omega (arith, long.1, count, degrees, most, sum);
        nonzero = (
          b,
          (let count = state.factor_degree.count in omega (arith, long.1, count)),
          λ none.
              state.factor_degree.top
              (ap (λ (z : ℕ). z % 2 ^ width) (sym (long.2 b (let count = state.factor_degree.count in
              omega (arith, count)))) ∙ none),
        );
        at_points = λ i below is_kept.
            sym (rest_count.values (point i)) ∙ state.rest_meets i below is_kept
            ∙ ap (times (word i)) (sym (long.3 (point i) ∙ sym (state.factor_degree.values (point i))));
      },
    )

pub euclid_decodes : EuclidDecodes
euclid_decodes width times wide field k n e t m point word erased received all_erased bounds short d b before rest
    factor_before factor state most rest_count f within = (
      (λ x. sym (solution.2 x) ∙ decodes.product x ∙ ap (times (at times f x)) (solution.3 x)),
      λ i below is_kept nonzero. decodes.right_elsewhere i below is_kept (λ none. nonzero (sym (solution.3 (point i))
          ∙ none)),
    )
  where
    kept : ℕ
    kept = marked_below (λ i. not (erased i)) n

    kept-count : kept + e ≡ n
    kept-count = let count = unmarked-count erased n in omega (arith, count, all_erased)

    solution : (top bottom : List ℕ) × ((x : ℕ) → at times top x ≡ rest x) × ((x : ℕ) → at times bottom x ≡ factor x)
        × SolvesKey width times m (kept - m) n point word erased top bottom
    solution =
        euclid_stops width times wide field kept n point word erased d b before rest factor_before factor state m
        (kept - m) most
        (omega (arith, kept-count, short)) rest_count

    decodes : Decodes times k (kept - m) n point word erased solution.0 solution.1 f
    decodes =
        solutions_decode width times wide field k n e t m (kept - m) point word erased received short
        (omega (arith, kept-count, short, bounds)) f within
        solution.0 solution.1 solution.4
