-- Numbers of which the sums with powers of different points are 0 are 0 themselves, where no more are not 0 than there
-- are sums (A.-T. Vandermonde).
use Rattle.std.proofs.Common.{◌≡◌, ◌≢◌, ◌⊎◌, ℕ, zero, suc, ◌+◌, ◌^◌, ◌<◌, ◌≤◌, inl, inr, List, [], ◌∷◌, length, Bool}
use Rattle.std.proofs.Common.{true, false, cond, refl, sym, ◌∙◌, ap, ap₂, arith}
use Rattle.std.specs.Prelude.{bit_xor, nat_eq, not, slice_index, ◌&&◌}
use Rattle.std.proofs.lemmas.Bool.Decides.{eqb_tells}
use lib.Bits.{xor_assoc, xor_zero_l, xor_zero_r}
use Rattle.field_base.specs.Basis.{sum_below}
use Rattle.field_base.specs.Field.{IsField}
use Rattle.field_base.specs.Powers.{power, terms_from}
use Rattle.field_base.proofs.PowerLemmas.{times-one}
use Rattle.field_base.proofs.RingLemmas.{times-mod, times-zero, zero-times}
use Rattle.field_base.proofs.FieldLemmas.{no_zero_divisors}
use Rattle.field_base.specs.PolynomialRoots.{AreDistinctBelow}
use Rattle.field_base.proofs.PolynomialCoefficients.{value_of-cons}
use Rattle.field_base.proofs.Polynomials.{IsPolynomial}
use Rattle.field_slices.specs.Marks.{marked_below, total}
use Rattle.error_codes.specs.Words.{at}
use Rattle.error_codes.proofs.Lists.{swap_middle}
use Rattle.error_codes.proofs.Products.{locator, locator-lt, locator-nonzero, locator-polynomial, locator-zero}
use Rattle.error_codes.proofs.Products.{polynomial-most}

-- ---- sums

pub sum-same : (f g : ℕ → ℕ) (n : ℕ) → ((i : ℕ) → i < n → f i ≡ g i) → sum_below f n ≡ sum_below g n
unfolding sum_below
sum-same f g zero same = refl
sum-same f g (suc n) same =
    ap₂ bit_xor (sum-same f g n (λ i below. same i (omega (arith, below)))) (same n (omega arith))

pub sum-none : (f : ℕ → ℕ) (n : ℕ) → ((i : ℕ) → i < n → f i ≡ 0) → sum_below f n ≡ 0
unfolding sum_below
sum-none f zero nothing = refl
sum-none f (suc n) nothing =
    ap₂ bit_xor (sum-none f n (λ i below. nothing i (omega (arith, below)))) (nothing n (omega arith))

pub sum-add : (f g : ℕ → ℕ) (n : ℕ) → sum_below (λ i. bit_xor (f i) (g i)) n ≡ bit_xor (sum_below f n) (sum_below g n)
unfolding sum_below
sum-add f g zero = refl
sum-add f g (suc n) =
    ap (λ (z : ℕ). bit_xor z (bit_xor (f n) (g n))) (sum-add f g n)
    ∙ swap_middle (sum_below f n) (sum_below g n) (f n) (g n)

pub sum-next : (f : ℕ → ℕ) (n : ℕ) → bit_xor (sum_below f n) (f n) ≡ sum_below f (n + 1)
unfolding sum_below
sum-next f n = let next : suc n ≡ n + 1 = omega arith in ap (sum_below f) next

pub sum-first : (f : ℕ → ℕ) (n : ℕ) → sum_below f (suc n) ≡ bit_xor (f 0) (sum_below (λ i. f (suc i)) n)
unfolding sum_below
sum-first f zero = xor_zero_l (f 0) ∙ sym (xor_zero_r (f 0))
sum-first f (suc n) = ap (λ (z : ℕ). bit_xor z (f (suc n))) (sum-first f n)
    ∙ xor_assoc (f 0) (sum_below (λ i. f (suc i)) n) (f (suc n))

pub sum-one : (f : ℕ → ℕ) (n i : ℕ) → i < n → ((j : ℕ) → j < n → j ≢ i → f j ≡ 0) → sum_below f n ≡ f i
unfolding sum_below
sum-one f zero i within others = absurd (omega (arith, within))
sum-one f (suc n) i within others =
    pick (eqb_tells n i) (λ below. sum-one f n i below (λ j j_below. others j (omega (arith, j_below))))
  where
    earlier : (i n : ℕ) → i < suc n → (n ≡ i → ⊥) → i < n
    earlier i n below other = omega (arith, below, other)

    pick : ((nat_eq n i ≡ true) × (n ≡ i)) ⊎ ((nat_eq n i ≡ false) × (n ≡ i → ⊥)) → (i < n → sum_below f n ≡ f i)
        → bit_xor (sum_below f n) (f n) ≡ f i
    pick (inl same) before =
        ap (λ (z : ℕ). bit_xor z (f n)) (sum-none f n (λ j below. others j (omega (arith, below))
        (λ e. absurd (omega (arith, below, e, same.1)))))
        ∙ xor_zero_l (f n) ∙ ap f same.1
    pick (inr other) before = ap₂ bit_xor (before (earlier i n within other.1)) (others n (omega arith) other.1)
        ∙ xor_zero_r (f i)

-- the marks but one are no more
all-but-one : (marked : ℕ → Bool) (i n : ℕ) → marked_below (λ j. marked j && not (nat_eq j i)) n ≤ marked_below marked n
unfolding total
all-but-one marked i zero = omega arith
all-but-one marked i (suc n) = let before = all-but-one marked i n in let last = less (marked n) (nat_eq n i) in
    omega (arith, before, last)
  where
    less : (a b : Bool) → cond (a && not b) 1 0 ≤ cond a 1 0
    less true true = omega arith
    less true false = omega arith
    less false b = omega arith

-- without one mark there is one fewer
pub without-one : (marked : ℕ → Bool) (n i : ℕ) → i < n → marked i ≡ true
    → suc (marked_below (λ j. marked j && not (nat_eq j i)) n) ≤ marked_below marked n
unfolding total
without-one marked zero i within is = absurd (omega (arith, within))
without-one marked (suc n) i within is = pick (eqb_tells n i) (marked n) refl (λ below. without-one marked n i below is)
  where
    earlier : (i n : ℕ) → i < suc n → (n ≡ i → ⊥) → i < n
    earlier i n below other = omega (arith, below, other)

    left : ℕ
    left = marked_below (λ j. marked j && not (nat_eq j i)) n

    pick : ((nat_eq n i ≡ true) × (n ≡ i)) ⊎ ((nat_eq n i ≡ false) × (n ≡ i → ⊥)) → (b : Bool) → marked n ≡ b
        → (i < n → suc left ≤ marked_below marked n)
        → suc (left + cond (marked n && not (nat_eq n i)) 1 0) ≤ marked_below marked n + cond (marked n) 1 0
    pick (inl same) b n_is before =
        let marks : marked n ≡ true = ap marked same.1 ∙ is in
        let one : cond (marked n) (suc zero) zero ≡ suc zero = ap (λ (b : Bool). cond b (suc zero) zero) marks in
        let none : cond (marked n && not (nat_eq n i)) (suc zero) zero ≡ zero =
        ap₂ (λ (a c : Bool). cond (a && not c) (suc zero) zero) marks same.0 in
        let all = all-but-one marked i n in
        omega (arith, one, none, all)
    pick (inr other) true n_is before =
        let one : cond (marked n) (suc zero) zero ≡ suc zero = ap (λ (b : Bool). cond b (suc zero) zero) n_is in
        let rest : cond (marked n && not (nat_eq n i)) (suc zero) zero ≡ suc zero =
        ap₂ (λ (a c : Bool). cond (a && not c) (suc zero) zero) n_is other.0 in
        let all = before (earlier i n within other.1) in
        omega (arith, one, rest, all)
    pick (inr other) false n_is before =
        let one : cond (marked n) (suc zero) zero ≡ zero = ap (λ (b : Bool). cond b (suc zero) zero) n_is in
        let rest : cond (marked n && not (nat_eq n i)) (suc zero) zero ≡ zero =
        ap₂ (λ (a c : Bool). cond (a && not c) (suc zero) zero) n_is other.0 in
        let all = before (earlier i n within other.1) in
        omega (arith, one, rest, all)

module _ (width : ℕ) (times : ℕ → ℕ → ℕ) (wide : 0 < width) (field : IsField width times) where
  pub sum-times : (s : ℕ) (f : ℕ → ℕ) (n : ℕ) → sum_below (λ i. times s (f i)) n ≡ times s (sum_below f n)
  unfolding sum_below
  sum-times s f zero = sym (times-zero width 1 times field.ring s)
  sum-times s f (suc n) = ap (λ (z : ℕ). bit_xor z (times s (f n))) (sum-times s f n)
      ∙ sym (field.ring.over_sum s (sum_below f n) (f n))

  -- x x^m = x^(m + 1), and b (x x^m) = (b x) x^m
  power-next : (b x m : ℕ) → times (times b x) (power 1 times x m) ≡ times b (power 1 times x (suc m))
  unfolding power
  power-next b x m = field.ring.assoc b x (power 1 times x m) ∙ ap (times b) (field.ring.comm x (power 1 times x m))

  pub power-none : (b x : ℕ) → b < 2 ^ width → times b (power 1 times x 0) ≡ b
  unfolding power
  power-none b x fits = times-one width 1 times field.ring b fits

  module _ (n : ℕ) (point : ℕ → ℕ) where
    -- the sums with all polynomials of M coefficients are 0, where those with M powers are
    pub moments : (M : ℕ) (g : ℕ → ℕ) → IsPolynomial times M g → (y : ℕ → ℕ) → ((i : ℕ) → i < n → y i < 2 ^ width)
        → ((m : ℕ) → m < M → sum_below (λ i. times (y i) (power 1 times (point i) m)) n ≡ 0)
        → sum_below (λ i. times (y i) (g (point i))) n ≡ 0
    unfolding IsPolynomial
    moments zero g p y fits sums =
        sum-none (λ i. times (y i) (g (point i))) n (λ i below. ap (times (y i)) (p (point i))
        ∙ times-zero width 1 times field.ring (y i))
    moments (suc M) g p y fits sums =
        sum-same (λ i. times (y i) (g (point i))) (λ i. bit_xor (times (times 1 p.0) (y i))
        (times (times (y i) (point i)) (p.1 (point i)))) n
        (λ i below.
        ap (times (y i)) (p.3 (point i)) ∙ field.ring.over_sum (y i) (times 1 p.0) (times (point i) (p.1 (point i)))
        ∙ ap₂ bit_xor (field.ring.comm (y i) (times 1 p.0)) (sym (field.ring.assoc (y i) (point i) (p.1 (point i)))))
        ∙ sum-add (λ i. times (times 1 p.0) (y i)) (λ i. times (times (y i) (point i)) (p.1 (point i))) n
        ∙ ap₂ bit_xor
        (sum-times (times 1 p.0) y n
        ∙ ap (times (times 1 p.0))
        (sum-same y (λ i. times (y i) (power 1 times (point i) 0)) n
        (λ i below. sym (power-none (y i) (point i) (fits i below))) ∙ sums 0 (omega arith))
        ∙ times-zero width 1 times field.ring (times 1 p.0))
        (moments M p.1 p.2 (λ i. times (y i) (point i)) (λ i below. field.ring.below (y i) (point i))
        (λ m below.
        sum-same (λ i. times (times (y i) (point i)) (power 1 times (point i) m))
        (λ i. times (y i) (power 1 times (point i) (suc m))) n
        (λ i i_below. power-next (y i) (point i) m) ∙ sums (suc m) (omega (arith, below))))

    -- so they are 0 themselves, where no more than M are not
    pub vandermonde : AreDistinctBelow n (2 ^ width) point → (M : ℕ) (y : ℕ → ℕ) (marked : ℕ → Bool)
        → ((i : ℕ) → i < n → y i < 2 ^ width)
        → marked_below marked n ≤ M → ((i : ℕ) → i < n → marked i ≡ false → y i ≡ 0)
        → ((m : ℕ) → m < M → sum_below (λ i. times (y i) (power 1 times (point i) m)) n ≡ 0)
        → (i : ℕ) → i < n → y i ≡ 0
    vandermonde points M y marked fits few unmarked sums i within = pick (marked i) refl
      where
        others : ℕ → Bool
        others j = marked j && not (nat_eq j i)

        g : ℕ → ℕ
        g = locator width times wide field point others n

        and-true : (a b : Bool) → a ≡ true → b ≡ false → (a && not b) ≡ true
        and-true true false a_is b_is = refl
        and-true true true a_is b_is = absurd (cc)
        and-true false b a_is b_is = absurd (cc)

        and-is : (a b : Bool) → (a && not b) ≡ true → b ≡ false
        and-is true true is = absurd (cc)
        and-is true false is = refl
        and-is false b is = absurd (cc)

        term : (j : ℕ) → j < n → (b : Bool) → marked j ≡ b → nat_eq j i ≡ false → times (y j) (g (point j)) ≡ 0
        term j below true is other =
            ap (times (y j)) (locator-zero width times wide field point others n j below
            (and-true (marked j) (nat_eq j i) is other))
            ∙ times-zero width 1 times field.ring (y j)
        term j below false is other =
            ap (λ (z : ℕ). times z (g (point j))) (unmarked j below is)
            ∙ zero-times width 1 times field.ring (g (point j))

        pick : (b : Bool) → marked i ≡ b → y i ≡ 0
        pick false is = unmarked i within is
        pick true is =
            elim (no_zero_divisors width times field.ring field.inverses (y i) (g (point i)) (fits i within)
            (locator-lt width times wide field point others n (point i))
            (sym (sum-one (λ j. times (y j) (g (point j))) n i within
            (λ j below other.
            elim (eqb_tells j i) [
              | inl same ↦ absurd (other same.1)
              | inr differs ↦ term j below (marked j) refl differs.0
            ]))
            ∙ moments M g
            (polynomial-most width times field.ring (suc (marked_below others n)) M g
            (let one = without-one marked n i within is in
            omega (arith, one, few)) (locator-polynomial width times wide field point others n))
            y fits sums)) [
              | inl none ↦ none
              | inr none ↦ absurd (locator-nonzero width times wide field point others n (point i)
                  (points.below i within) points.below
                  (λ j below marks same.
                  let one : i ≡ j = points.differ i j within below same in
                  elim (eqb_tells j i) [
                    | inl equal ↦ let no_mark = and-is (marked j) (nat_eq j i) marks in let yes = equal.0 in absurd (cc)
                    | inr differs ↦ differs.1 (sym one)
                  ])
                  none)
            ]

    -- the sum of coefficients times syndromes is that of values
    pub key-values : (cs : List ℕ) (y : ℕ → ℕ) (m : ℕ)
        → sum_below (λ j. times (slice_index cs j) (sum_below (λ i. times (y i) (power 1 times (point i) (m + j))) n))
        (length cs)
        ≡ sum_below (λ i. times (times (y i) (power 1 times (point i) m)) (at times cs (point i))) n
    unfolding terms_from power
    key-values [] y m =
        sum-none (λ j. times (slice_index [] j) (sum_below (λ i. times (y i) (power 1 times (point i) (m + j))) n)) 0
        (λ j below. absurd (omega (arith, below)))
        ∙ sym (sum-none (λ i. times (times (y i) (power 1 times (point i) m)) 0) n
        (λ i below. times-zero width 1 times field.ring (times (y i) (power 1 times (point i) m))))
    key-values (c ∷ cs) y m =
        sum-first (λ j. times (slice_index (c ∷ cs) j) (entry (m + j))) (length cs)
        ∙ ap₂ bit_xor
        (ap (λ (k : ℕ). times c (entry k)) (omega arith)
        ∙ sym (sum-times c (λ i. times (y i) (power 1 times (point i) m)) n))
        (sum-same (λ j. times (slice_index cs j) (entry (m + suc j)))
        (λ j. times (slice_index cs j) (entry (suc m + j))) (length cs)
        (λ j below. ap (λ (k : ℕ). times (slice_index cs j) (entry k)) (moved m j))
        ∙ key-values cs y (suc m))
        ∙ sym (sum-add (λ i. times c (times (y i) (power 1 times (point i) m)))
        (λ i. times (times (y i) (power 1 times (point i) (suc m))) (at times cs (point i))) n)
        ∙ sum-same (λ i. bit_xor (times c (times (y i) (power 1 times (point i) m)))
        (times (times (y i) (power 1 times (point i) (suc m))) (at times cs (point i))))
        (λ i. times (times (y i) (power 1 times (point i) m)) (at times (c ∷ cs) (point i))) n
        (λ i below. sym (term (times (y i) (power 1 times (point i) m)) (times (y i) (power 1 times (point i) (suc m)))
        (point i) (turned (y i) (point i))))
      where
        entry : ℕ → ℕ
        entry k = sum_below (λ i. times (y i) (power 1 times (point i) k)) n

        moved : (m j : ℕ) → m + suc j ≡ suc m + j
        moved m j = omega arith

        turned : (a x : ℕ) → times (times a (power 1 times x m)) x ≡ times a (power 1 times x (suc m))
        turned a x = field.ring.assoc a (power 1 times x m) x

        -- a (c + x v) = c a + (a x) v
        term : (a b x : ℕ) → times a x ≡ b
            → times a (at times (c ∷ cs) x) ≡ bit_xor (times c a) (times b (at times cs x))
        term a b x is =
            ap (times a) (value_of-cons width times field.ring c cs x)
            ∙ field.ring.over_sum a (times 1 c) (times x (at times cs x))
            ∙ ap₂ bit_xor
            (ap (times a) (field.ring.one c) ∙ times-mod width 1 times field.ring a c ∙ field.ring.comm a c)
            (sym (field.ring.assoc a x (at times cs x)) ∙ ap (λ (z : ℕ). times z (at times cs x)) is)
