-- The wrong shares of a column are those at whose indexes a shortest register of its syndromes, in reverse, is 0.
use Rattle.std.proofs.Common.{◌≡◌, ◌⊎◌, ℕ, zero, suc, ◌+◌, ◌-◌, ◌*◌, ◌^◌, ◌<◌, ◌≤◌, inl, inr, List, Bool, true, false, length, refl, sym, ◌∙◌, ap, subst, arith, lit<}
use Rattle.std.specs.Prelude.{nat_eq, not, ◌||◌}
use Rattle.std.proofs.lemmas.Bool.{cases_lt}
use Rattle.std.proofs.lemmas.Bool.Decides.{eqb_tells}
use Rattle.field_base.specs.Basis.{product_below}
use Rattle.field_base.specs.Field.{IsField}
use Rattle.field_base.specs.PolynomialRoots.{AreDistinctBelow}
use Rattle.field_base.specs.Powers.{power}
use Rattle.field_base.proofs.Polynomials.{polynomial-lt}
use Rattle.field_slices.specs.Marks.{marked_below}
use Rattle.field_slices.proofs.Counting.{total-zero}
use Rattle.error_codes.specs.Checks.{AreScaled, IsSent, dual_weight, syndrome}
use Rattle.error_codes.specs.Correcting.{code_value}
use Rattle.error_codes.specs.Filling.{marked_product, weighted_sum}
use Rattle.error_codes.specs.Registers.{IsShortest}
use Rattle.error_codes.specs.Words.{at}
use Rattle.error_codes.proofs.Checks.{values_are_checked}
use Rattle.error_codes.proofs.Duals.{weight-lt, weight-nonzero}
use Rattle.error_codes.proofs.Lists.{list-polynomial}
use Rattle.error_codes.proofs.Marking.{count-more, count-same}
use Rattle.error_codes.proofs.Marks.{fewer-marks}
use Rattle.error_codes.proofs.Moments.{sum-same}
use Rattle.error_codes.proofs.Products.{without-mark}
use Rattle.error_codes.proofs.Sifting.{sums-start}
use Rattle.error_codes.proofs.Suspects.{others-right, register-short, suspects-counted}

-- ---- marks

-- marks that are among others and no fewer are the same
pub same-marks : (a b : ℕ → Bool) (n : ℕ) → ((i : ℕ) → i < n → a i ≡ true → b i ≡ true)
    → marked_below b n ≤ marked_below a n → (i : ℕ) → i < n → a i ≡ b i
same-marks a b zero each many i below = absurd (omega (arith, below))
same-marks a b (suc n) each many i below =
    pick (same-marks a b n (λ j inside. each j (omega (arith, inside)))) (a n) (b n) refl refl (cases_lt i n)
  where
    before : marked_below a n ≤ marked_below b n
    before = fewer-marks a b n (λ j inside. each j (omega (arith, inside)))

    next : suc n ≡ n + 1
    next = omega arith

    last : (i : ℕ) → i < suc n → n ≤ i → i ≡ n
    last i below above = omega (arith, below, above)

    pick : (marked_below b n ≤ marked_below a n → (i : ℕ) → i < n → a i ≡ b i) → (x y : Bool) → a n ≡ x → b n ≡ y → (i < n) ⊎ (n ≤ i) → a i ≡ b i
    pick earlier true false x_is y_is where_is = let both : true ≡ false = sym (each n (omega arith) x_is) ∙ y_is in absurd (cc)
    pick earlier false true x_is y_is where_is =
        let fewer = count-same a n (marked_below a n) x_is refl in
        let more = count-more b n (marked_below b n) y_is refl in
        let one = ap (marked_below a) next in let two = ap (marked_below b) next in
        absurd (omega (arith, fewer, more, before, many, one, two))
    pick earlier true true x_is y_is (inl inside) =
        let first = count-more a n (marked_below a n) x_is refl in
        let second = count-more b n (marked_below b n) y_is refl in
        let one = ap (marked_below a) next in let two = ap (marked_below b) next in
        earlier (omega (arith, first, second, many, one, two)) i inside
    pick earlier true true x_is y_is (inr above) =
        let end = last i below above in ap a end ∙ x_is ∙ sym y_is ∙ ap b (sym end)
    pick earlier false false x_is y_is (inl inside) =
        let first = count-same a n (marked_below a n) x_is refl in
        let second = count-same b n (marked_below b n) y_is refl in
        let one = ap (marked_below a) next in let two = ap (marked_below b) next in
        earlier (omega (arith, first, second, many, one, two)) i inside
    pick earlier false false x_is y_is (inr above) =
        let end = last i below above in ap a end ∙ x_is ∙ sym y_is ∙ ap b (sym end)

or-true : (a : Bool) → true ≡ (a || true)
or-true true = refl
or-true false = refl

or-false : (a : Bool) → a ≡ (a || false)
or-false true = refl
or-false false = refl

-- some place is marked: of one place more
pub some-more : (marked : ℕ → Bool) (n : ℕ)
    → not (nat_eq (marked_below marked (n + 1)) 0) ≡ (not (nat_eq (marked_below marked n) 0) || marked n)
some-more marked n = pick (marked n) refl
  where
    pick : (b : Bool) → marked n ≡ b
        → not (nat_eq (marked_below marked (n + 1)) 0) ≡ (not (nat_eq (marked_below marked n) 0) || marked n)
    pick true is =
        let more = count-more marked n (marked_below marked n) is refl in
        elim (eqb_tells (marked_below marked (n + 1)) 0) [
          | inl none ↦ absurd (omega (arith, more, none.1))
          | inr some ↦ ap not some.0 ∙ or-true (not (nat_eq (marked_below marked n) 0))
              ∙ ap (λ (b : Bool). not (nat_eq (marked_below marked n) 0) || b) (sym is)
        ]
    pick false is =
        ap (λ (m : ℕ). not (nat_eq m 0)) (sym (count-same marked n (marked_below marked n) is refl))
        ∙ or-false (not (nat_eq (marked_below marked n) 0))
        ∙ ap (λ (b : Bool). not (nat_eq (marked_below marked n) 0) || b) (sym is)

-- where a place is marked, some is
pub some-marked : (marked : ℕ → Bool) (n j : ℕ) → j < n → marked j ≡ true → not (nat_eq (marked_below marked n) 0) ≡ true
some-marked marked zero j below is = absurd (omega (arith, below))
some-marked marked (suc n) j below is =
    ap (λ (k : ℕ). not (nat_eq (marked_below marked k) 0)) next ∙ some-more marked n
    ∙ elim (cases_lt j n) [
      | inl earlier ↦ ap (λ (b : Bool). b || marked n) (some-marked marked n j earlier is)
      | inr later ↦ ap (λ (b : Bool). not (nat_eq (marked_below marked n) 0) || b) (ap marked (last below later) ∙ is)
          ∙ sym (or-true (not (nat_eq (marked_below marked n) 0)))
    ]
  where
    next : suc n ≡ n + 1
    next = omega arith

    last : j < suc n → n ≤ j → n ≡ j
    last below above = omega (arith, below, above)

-- and where none is marked, each is not
pub each-unmarked : (marked : ℕ → Bool) (n : ℕ) → not (nat_eq (marked_below marked n) 0) ≡ false
    → (j : ℕ) → j < n → marked j ≡ false
each-unmarked marked n none j below = pick (marked j) refl
  where
    pick : (b : Bool) → marked j ≡ b → marked j ≡ false
    pick false is = is
    pick true is = let both : true ≡ false = sym (some-marked marked n j below is) ∙ none in absurd (cc)

pub nothing-marked : (n : ℕ) → marked_below (λ i. false) n ≡ 0
nothing-marked n = total-zero n

-- ---- a column

scaled : (times : ℕ → ℕ → ℕ) → IsField 8 times → (n : ℕ) (point scale : ℕ → ℕ) → AreDistinctBelow n (2 ^ 8) point
    → ((i : ℕ) → i < n → scale i ≡ dual_weight 8 times n point i) → AreScaled 8 n point scale
scaled times field zero point scale distinct are = record {
  points = distinct;
  scales = λ i below. absurd (omega (arith, below));
  nonzero = λ i below. absurd (omega (arith, below));
}
scaled times field (suc last) point scale distinct are = record {
  points = distinct;
  scales = λ i below. subst (λ (z : ℕ). z < 2 ^ 8) (sym (are i below)) (weight-lt 8 times (lit< tt) field last point distinct i);
  nonzero = λ i below none. weight-nonzero 8 times (lit< tt) field last point distinct i below (sym (are i below) ∙ none);
}

module _ (times : ℕ → ℕ → ℕ) (field : IsField 8 times) (k n : ℕ) (point word scale : ℕ → ℕ) (cs : List ℕ)
    (count : length cs ≡ k) (some : 0 < k) (enough : k ≤ n) (distinct : AreDistinctBelow n (2 ^ 8) point)
    (fits : (i : ℕ) → word i < 2 ^ 8) (scale_is : (i : ℕ) → i < n → scale i ≡ dual_weight 8 times n point i) where
  -- a symbol is another than the value of the polynomial
  abbrev wrong : ℕ → Bool
  wrong i = not (nat_eq (word i) (at times cs (point i)))

  abbrev none : ℕ → Bool
  none i = false

  abbrev sent : ℕ → ℕ
  sent i = at times cs (point i)

  is-sent : IsSent 8 times (n - k) n (marked_below wrong n) point scale word none sent
  is-sent = record {
    checked = record {
      symbols = λ i below. polynomial-lt 8 times field.ring k (at times cs) (list-polynomial 8 times field k cs count) (point i);
      sums = values_are_checked 8 times (lit< tt) field k (n - k) n point scale sent cs distinct count (omega (arith, enough))
          (λ i below. ap (λ (z : ℕ). times z (sent i)) (scale_is i below));
    };
    few_wrong = omega arith;
  }

  product-none : (m x : ℕ) → marked_product times point none m x ≡ 1
  unfolding product_below
  product-none zero x = refl
  product-none (suc m) x = without-mark 8 times (lit< tt) field point none m refl x ∙ product-none m x

  module _ (few : 2 * marked_below wrong n + k ≤ n) (sums : ℕ → ℕ)
      (sums_are : (m : ℕ) → m < n - k → sums m ≡ syndrome times n point scale word m)
      (L : ℕ) (c : ℕ → ℕ) (shortest : IsShortest times sums L (n - k) c) where
    weighted : (m : ℕ) → m < n - k
        → sums m ≡ weighted_sum times n point (λ i. times (scale i) (word i)) (marked_product times point none n) m
    weighted m below =
        sums-start 8 times (lit< tt) field n point (λ i. times (scale i) (word i)) none m (sums m) (sums_are m below)
        ∙ sum-same (λ i. times (times (times (scale i) (word i)) (power 1 times (point i) m)) (marked_product times point none 0 (point i)))
        (λ i. times (times (times (scale i) (word i)) (power 1 times (point i) m)) (marked_product times point none n (point i))) n
        (λ i inside. ap (times (times (times (scale i) (word i)) (power 1 times (point i) m)))
        (product-none 0 (point i) ∙ sym (product-none n (point i))))

    few-checks : 2 * marked_below wrong n + marked_below none n ≤ n - k
    few-checks = let nothing = nothing-marked n in omega (arith, nothing, few)

    all-left : n - k + marked_below none n ≡ n - k
    all-left = let nothing = nothing-marked n in omega (arith, nothing)

    -- the register is no longer than there are wrong symbols
    pub register-counts : L ≤ marked_below wrong n
    register-counts =
        register-short 8 times (lit< tt) field (n - k) n (marked_below wrong n) point scale word none (scaled times field n point scale distinct scale_is)
        (λ i below. fits i) few-checks (omega (arith, some, enough)) sent is-sent sums (n - k) all-left weighted L c shortest

    abbrev roots : ℕ → Bool
    roots i = nat_eq (code_value times (L + 1) c (point i)) 0

    few-roots : marked_below roots n ≤ marked_below none n + L
    few-roots =
        suspects-counted 8 times (lit< tt) field (n - k) n (marked_below wrong n) point scale word none (scaled times field n point scale distinct scale_is)
        (λ i below. fits i) few-checks (omega (arith, some, enough)) sent is-sent sums (n - k) all-left weighted L c shortest roots (λ i below. refl)

    right-elsewhere : (i : ℕ) → i < n → roots i ≡ false → word i ≡ sent i
    right-elsewhere =
        others-right 8 times (lit< tt) field (n - k) n (marked_below wrong n) point scale word none (scaled times field n point scale distinct scale_is)
        (λ i below. fits i) few-checks (omega (arith, some, enough)) sent is-sent sums (n - k) all-left weighted L c shortest roots (λ i below. refl)

    wrong-root : (i : ℕ) → i < n → wrong i ≡ true → roots i ≡ true
    wrong-root i below is = pick (roots i) refl
      where
        pick : (b : Bool) → roots i ≡ b → roots i ≡ true
        pick true root = root
        pick false other = elim (eqb_tells (word i) (sent i)) [
          | inl same ↦ let right : not (nat_eq (word i) (sent i)) ≡ false = ap not same.0 in absurd (cc)
          | inr differs ↦ absurd (differs.1 (right-elsewhere i below other))
        ]

    -- and is 0 at the wrong symbols and nowhere else
    pub roots-wrong : (i : ℕ) → i < n → wrong i ≡ roots i
    roots-wrong = same-marks wrong roots n wrong-root (let nothing = nothing-marked n in omega (arith, nothing, few-roots, register-counts))
