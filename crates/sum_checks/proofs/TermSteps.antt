-- Steps over a list of terms, from the first on, and over the factors of one.
use Rattle.std.proofs.Common.{◌≡◌, ◌≢◌, ◌↔◌, ℕ, zero, suc, ◌+◌, ◌-◌, ◌^◌, ◌<◌, ◌≤◌, Bool, true, false, List, [], ◌∷◌, length, map, take, drop, get_or, refl, sym, ◌∙◌, ap, ap₂, subst, arith, lit<}
use Rattle.std.specs.Prelude.{IsTrue, bit_xor, max, slice_index}
use Rattle.std.proofs.Math.Nat.{le-max_left, le-max_right, lt_of_lt_of_le, two-pow-succ}
use Rattle.std.proofs.lemmas.Bool.{false≢true}
use Rattle.std.proofs.lemmas.List.{get_or-drop, get_or-take, take-map, take_rest}
use Rattle.field_slices.proofs.CubeTables.{drop-map}
use Rattle.field_base.specs.Basis.{product_below}
use Rattle.field_base.specs.Ring.{IsRing}
use Rattle.field_base.proofs.PowerLemmas.{one-times}
use Rattle.sum_checks.specs.Terms.{ArePairs, AreWithin, HaveFactors, FactorsAreWithin, Product, degree_of, product_value, terms_value}

-- a list that is not empty is its first element and the others
pub first-rest : {A : Type 0} (xs : List A) (x : A) (rest : List A) → 0 < length xs → x ≡ get_or xs 0 x
    → rest ≡ take (length xs - 1) (drop 1 xs) → xs ≡ x ∷ rest
first-rest [] x rest some read others = absurd (omega (arith, some))
first-rest (y ∷ ys) x rest some read others =
    ap₂ (λ (z : _) (zs : List _). z ∷ zs) (sym read) (sym (others ∙ take_rest (y ∷ ys) 1))

-- `first-rest` for a list of numbers
pub first-number : (ns rest : List ℕ) → 0 < length ns → rest ≡ take (length ns - 1) (drop 1 ns) → ns ≡ slice_index ns 0 ∷ rest
first-number [] rest some others = absurd (omega (arith, some))
first-number (n ∷ ns) rest some others = ap (λ (ms : List ℕ). n ∷ ms) (sym (others ∙ take_rest (n ∷ ns) 1))

-- ---- numbers below a bound

module _ (count : ℕ) where
  abbrev pub AreBelow : List ℕ → Type 0
  AreBelow ns = (k : ℕ) → k < length ns → slice_index ns k < count

  pub below-none : (ns : List ℕ) → length ns ≡ 0 → IsTrue true ↔ AreBelow ns
  below-none ns none = ((λ always k inside. absurd (omega (arith, none, inside))), λ all. refl)

  pub below-not : (ns rest : List ℕ) (n : ℕ) → ns ≡ n ∷ rest → count ≤ n → IsTrue false ↔ AreBelow ns
  below-not ns rest n is high = (
    (λ never. absurd (false≢true never)),
    λ all.
        let first : slice_index ns 0 < count = all 0 (let long : length ns ≡ suc (length rest) = ap length is in omega (arith, long)) in
        let same : slice_index ns 0 ≡ n = ap (λ (ms : List ℕ). slice_index ms 0) is in
        absurd (omega (arith, first, same, high)),
  )

  below-cons : (n : ℕ) (rest : List ℕ) → n < count → AreBelow rest → AreBelow (n ∷ rest)
  below-cons n rest low all zero inside = low
  below-cons n rest low all (suc k) inside = all k (omega (arith, inside))

  pub below-more : (ns rest : List ℕ) (n : ℕ) (holds : Bool) → ns ≡ n ∷ rest → n < count → IsTrue holds ↔ AreBelow rest → IsTrue holds ↔ AreBelow ns
  below-more ns rest n holds is low others =
      subst (λ (ms : List ℕ). IsTrue holds ↔ AreBelow ms) (sym is)
      ((λ true_now. below-cons n rest low (others.0 true_now)), λ all. others.1 (λ k inside. all (suc k) (omega (arith, inside))))

  -- the numbers behind the first
  pub below-rest : (ns rest : List ℕ) (n : ℕ) → ns ≡ n ∷ rest → AreBelow ns → AreBelow rest
  below-rest ns rest n is all k inside = subst AreBelow is all (suc k) (omega (arith, inside))

-- four numbers
pub below-four : (a b c d bound : ℕ) → a < bound → b < bound → c < bound → d < bound → AreBelow bound (a ∷ b ∷ c ∷ d ∷ [])
below-four a b c d bound a_below b_below c_below d_below zero inside = a_below
below-four a b c d bound a_below b_below c_below d_below (suc zero) inside = b_below
below-four a b c d bound a_below b_below c_below d_below (suc (suc zero)) inside = c_below
below-four a b c d bound a_below b_below c_below d_below (suc (suc (suc zero))) inside = d_below
below-four a b c d bound a_below b_below c_below d_below (suc (suc (suc (suc k)))) inside = absurd (omega (arith, inside))

-- a number is below the power of two with it as the exponent
pub below-power : (n : ℕ) → n < 2 ^ n
below-power zero = lit< tt
below-power (suc n) = let below = below-power n in let twice = two-pow-succ n in omega (arith, below, twice)

-- ---- terms

module _ {A : Type 0} (term_product : A → Product) (count : ℕ) where
  pub within-none : (terms : List A) → length terms ≡ 0 → IsTrue true ↔ AreWithin count (map term_product terms)
  unfolding AreWithin
  within-none [] none = ((λ always. tt), λ all. refl)
  within-none (term ∷ terms) none = absurd (omega (arith, none))

  pub within-not : (terms rest : List A) (term : A) (one : Bool) → terms ≡ term ∷ rest → IsTrue one ↔ FactorsAreWithin count (term_product term)
      → one ≡ false → IsTrue false ↔ AreWithin count (map term_product terms)
  unfolding AreWithin
  within-not terms rest term one is decides fails =
      subst (λ (ts : List A). IsTrue false ↔ AreWithin count (map term_product ts)) (sym is)
      ((λ never. absurd (false≢true never)), λ all. sym fails ∙ decides.1 all.0)

  pub within-more : (terms rest : List A) (term : A) (one others : Bool) → terms ≡ term ∷ rest → IsTrue one ↔ FactorsAreWithin count (term_product term)
      → one ≡ true → IsTrue others ↔ AreWithin count (map term_product rest) → IsTrue others ↔ AreWithin count (map term_product terms)
  unfolding AreWithin
  within-more terms rest term one others is decides passes more =
      subst (λ (ts : List A). IsTrue others ↔ AreWithin count (map term_product ts)) (sym is)
      ((λ holds. (decides.0 passes, more.0 holds)), λ all. more.1 all.1)

  -- the terms behind the first, and the first
  pub within-first : (terms rest : List A) (term : A) → terms ≡ term ∷ rest → AreWithin count (map term_product terms)
      → FactorsAreWithin count (term_product term)
  unfolding AreWithin
  within-first terms rest term is all = (subst (λ (ts : List A). AreWithin count (map term_product ts)) is all).0

  pub within-rest : (terms rest : List A) (term : A) → terms ≡ term ∷ rest → AreWithin count (map term_product terms)
      → AreWithin count (map term_product rest)
  unfolding AreWithin
  within-rest terms rest term is all = (subst (λ (ts : List A). AreWithin count (map term_product ts)) is all).1

-- a list of terms with two factors each
module _ {A : Type 0} (term_product : A → Product) where
  pub pairs-none : (terms : List A) → length terms ≡ 0 → IsTrue true ↔ ArePairs (map term_product terms)
  unfolding ArePairs
  pairs-none [] none = ((λ always. tt), λ all. refl)
  pairs-none (term ∷ terms) none = absurd (omega (arith, none))

  pub pairs-not : (terms rest : List A) (term : A) (n : ℕ) → terms ≡ term ∷ rest → n ≡ length (term_product term).factors → n ≢ 2
      → IsTrue false ↔ ArePairs (map term_product terms)
  unfolding ArePairs
  pairs-not terms rest term n is long other =
      subst (λ (ts : List A). IsTrue false ↔ ArePairs (map term_product ts)) (sym is)
      ((λ never. absurd (false≢true never)), λ all. absurd (other (long ∙ all.0)))

  pub pairs-more : (terms rest : List A) (term : A) (n : ℕ) (others : Bool) → terms ≡ term ∷ rest → n ≡ length (term_product term).factors → n ≡ 2
      → IsTrue others ↔ ArePairs (map term_product rest) → IsTrue others ↔ ArePairs (map term_product terms)
  unfolding ArePairs
  pairs-more terms rest term n others is long two more =
      subst (λ (ts : List A). IsTrue others ↔ ArePairs (map term_product ts)) (sym is)
      ((λ holds. (sym long ∙ two, more.0 holds)), λ all. more.1 all.1)

module _ {A : Type 0} (term_product : A → Product) where
  pub degree-none : (terms : List A) → length terms ≡ 0 → 1 ≡ degree_of (map term_product terms)
  unfolding degree_of
  degree-none [] none = refl
  degree-none (term ∷ terms) none = absurd (omega (arith, none))

  pub degree-more : (terms rest : List A) (term : A) → terms ≡ term ∷ rest
      → max (length (term_product term).factors) (degree_of (map term_product rest)) ≡ degree_of (map term_product terms)
  unfolding degree_of
  degree-more terms rest term is = ap (λ (ts : List A). degree_of (map term_product ts)) (sym is)

  pub terms_value-none : (times : ℕ → ℕ → ℕ) (terms : List A) (row : ℕ → ℕ) → length terms ≡ 0
      → 0 ≡ terms_value times (map term_product terms) row
  unfolding terms_value
  terms_value-none times [] row none = refl
  terms_value-none times (term ∷ terms) row none = absurd (omega (arith, none))

  pub terms_value-more : (times : ℕ → ℕ → ℕ) (terms rest : List A) (term : A) (row : ℕ → ℕ) → terms ≡ term ∷ rest
      → bit_xor (product_value times row (term_product term)) (terms_value times (map term_product rest) row)
      ≡ terms_value times (map term_product terms) row
  unfolding terms_value
  terms_value-more times terms rest term row is = ap (λ (ts : List A). terms_value times (map term_product ts) row) (sym is)

-- the degree is not 0
pub degree-some : (terms : List Product) → 0 < degree_of terms
unfolding degree_of
degree-some [] = omega arith
degree-some (term ∷ terms) = lt_of_lt_of_le (degree-some terms) (le-max_right (length term.factors) (degree_of terms))

-- no term has more factors than the degree
factors-more : (terms : List Product) (d e : ℕ) → d ≤ e → HaveFactors d terms → HaveFactors e terms
unfolding HaveFactors
factors-more [] d e more few = tt
factors-more (term ∷ terms) d e more few =
    let first = few.0 in (omega (arith, more, first), factors-more terms d e more few.1)

pub degree-most : (terms : List Product) → HaveFactors (degree_of terms) terms
unfolding degree_of HaveFactors
degree-most [] = tt
degree-most (term ∷ terms) = (
  le-max_left (length term.factors) (degree_of terms),
  factors-more terms (degree_of terms) (max (length term.factors) (degree_of terms)) (le-max_right (length term.factors) (degree_of terms))
      (degree-most terms),
)

-- ---- loops

pub product-none : (times : ℕ → ℕ → ℕ) (f : ℕ → ℕ) → 1 ≡ product_below times f 0
unfolding product_below
product-none times f = refl

-- the first factor is the product of one
pub product-first : (width : ℕ) (times : ℕ → ℕ → ℕ) → IsRing width 1 times → (f : ℕ → ℕ) → f 0 < 2 ^ width → f 0 ≡ product_below times f 1
unfolding product_below
product-first width times ring f fits = sym (one-times width 1 times ring (f 0) fits)

-- a product with a coefficient that is 1
pub one-scaled : (width : ℕ) (times : ℕ → ℕ → ℕ) → IsRing width 1 times → (coefficient value product : ℕ) → coefficient ≡ 1 → value < 2 ^ width
    → value ≡ product → value ≡ times coefficient product
one-scaled width times ring coefficient value product one fits is =
    sym (ap₂ times one (sym is) ∙ one-times width 1 times ring value fits)

pub product-more : (times : ℕ → ℕ → ℕ) (f : ℕ → ℕ) (n before after : ℕ) → before ≡ product_below times f n → after ≡ times before (f n)
    → after ≡ product_below times f (n + 1)
unfolding product_below
product-more times f n before after so_far is =
    is ∙ ap (λ (p : ℕ). times p (f n)) so_far ∙ ap (product_below times f) (next n)
  where
    next : (k : ℕ) → suc k ≡ k + 1
    next k = omega arith

-- the elements of a row of the values
pub row-value : {A : Type 0} (repr : A → ℕ) (values row : List A) (start n count j : ℕ) → row ≡ take n (drop start values) → n ≡ count → j < count
    → slice_index (map repr row) j ≡ slice_index (map repr values) (start + j)
row-value repr values row start n count j is size inside =
    ap (λ (xs : List _). slice_index (map repr xs) j) is
    ∙ ap (λ (ns : List ℕ). slice_index ns j) (sym (take-map repr n (drop start values)))
    ∙ get_or-take n (map repr (drop start values)) j 0 (subst (λ (k : ℕ). j < k) (sym size) inside)
    ∙ ap (λ (ns : List ℕ). slice_index ns j) (sym (drop-map repr start values))
    ∙ get_or-drop start (map repr values) j 0
