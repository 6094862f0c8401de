-- Columns of a strip that are restored: what two transforms leave of each is the word's polynomial at each lost point.
use Rattle.std.proofs.Common.{◌≡◌, inl, inr, ℕ, ◌+◌, ◌-◌, ◌*◌, ◌%◌, ◌^◌, ◌<◌, ◌≤◌, Bool, true, false, List, ◌++◌, length, get_or, map, lit<, sym, ◌∙◌, ap, subst, arith}
use Rattle.std.specs.Prelude.{slice_index}
use Rattle.std.proofs.lemmas.Bool.{cases_Bool, cases_lt, true≢false}
use Rattle.std.proofs.lemmas.Bool.Decides.{nat_tests}
use Rattle.std.proofs.lemmas.List.{get_or_append_left}
use Rattle.std.proofs.lemmas.Nat.{pow_pos}
use Rattle.std.proofs.Math.Nat.{pow-le-pow_right}
use Rattle.std.proofs.Math.Pow.{pow-lt}
use native.Mathlib.Nat.{mod-eq_of_lt}
use Rattle.additive_transforms.specs.Columns.{column_of}
use Rattle.additive_transforms.proofs.BasisPolynomials.{value-polynomial}
use Rattle.field_base.proofs.RingLemmas.{mod-times, times-zero}
use Rattle.field_base.proofs.TowerLaws.{tower_field}
use Rattle.field_base.proofs.TowerRing.{tower_ring}
use Rattle.field_base.specs.Tower.{tower_mul}
use Rattle.field_base.proofs.Polynomials.{polynomial-lt}
use Rattle.ghash_slices.specs.Cantor.{point, polynomial_value}
use Rattle.additive_transforms.specs.Words.{level_element}
use Rattle.word_tables.specs.Cantor.{cantor_vector}
use Rattle.reed_solomon.specs.Codes.{IsCodedColumn, shard_symbol, value_at}
use Rattle.reed_solomon.specs.Columns.{AreFirstDerivedRows, AreRowProducts, HoldWordValues}
use Rattle.reed_solomon.specs.Locators.{lost_count}
use Rattle.reed_solomon.specs.Restoring.{AreFactors, FitRestoring, IsAtHand, is_lost, is_missing, missing_locator, other_locator, word_at}
use Rattle.reed_solomon.specs.TransformSizes.{CanRebuild}
use Rattle.reed_solomon.proofs.CodedColumns.{held}
use Rattle.reed_solomon.proofs.Decoding.{lost_symbols_are_located, quotient_is}
use Rattle.reed_solomon.proofs.DerivedColumns.{derived_values}
use Rattle.reed_solomon.proofs.LocatorFacts.{locator-root}
use Rattle.reed_solomon.proofs.LostCounts.{enough_left}
use Rattle.reed_solomon.proofs.StripWords.{word_at-behind, word_at-first, word_at-padding}
use lib.Arith.{digits_lt}

module _ {W : Type 0} (number : W → ℕ) (zero : W) (nothing : number zero ≡ 0) (level k n m r : ℕ) (present : List Bool) (low : level ≤ 7)
    (room : r ≤ 2 ^ level) (enough : lost_count (is_lost k n m present) (2 ^ r) + 2 ^ n ≤ 2 ^ r) (coefficients : ℕ → ℕ) where
  abbrev element : W → ℕ
  element = level_element number level

  abbrev at : ℕ → ℕ
  at p = point (2 ^ level) cantor_vector 0 p

  abbrev f : ℕ → ℕ
  f = polynomial_value (tower_mul level) n coefficients

  -- the element of a product
  of_product : (w : W) (a b : ℕ) → number w ≡ tower_mul level a b → element w ≡ tower_mul level (a % 2 ^ 2 ^ level) b
  of_product w a b is =
      ap (λ (x : ℕ). x % 2 ^ 2 ^ level) is ∙ mod-eq_of_lt ((tower_ring level).below a b)
      ∙ sym (mod-times (2 ^ level) 1 (tower_mul level) (tower_ring level) a b)

  module _ (width c few : ℕ) (fewer : few ≤ r) (inside : c < width) (word : ℕ → W) (factors words products first slopes values symbols : List W) (y z : ℕ)
      (origin : y ≡ 0) (origin_too : z ≡ 0) (factors_are : AreFactors number zero level k n m present (2 ^ r) factors)
      (products_long : length products ≡ 2 ^ r * width) (first_long : length first ≡ 2 ^ r * width)
      (slopes_long : length slopes ≡ 2 ^ few * width) (values_long : length values ≡ 2 ^ few * width)
      (words_are : (p : ℕ) → p < 2 ^ r → get_or words (p * width + c) zero ≡ word p)
      (products_are : AreRowProducts number zero level width (2 ^ r) (is_lost k n m present) false factors words products)
      (first_is : HoldWordValues element level y width c first products)
      (slopes_are : AreFirstDerivedRows number zero r few width first slopes)
      (values_are : HoldWordValues element level z width c slopes values)
      (symbols_are : AreRowProducts number zero level width (2 ^ few) (is_lost k n m present) true factors values symbols)
      (known : (p : ℕ) → p < 2 ^ r → is_lost k n m present p ≡ false → element (word p) ≡ f (at p)) where
    abbrev of_first : ℕ → ℕ
    of_first = slice_index (column_of width c (map element first))

    -- a product of a word and the locator, which is 0 where the word is lost
    product_at : (p : ℕ) → p < 2 ^ r → element (get_or products (p * width + c) zero)
        ≡ tower_mul level (element (word p)) (missing_locator level k n m present (2 ^ r) (at p))
    product_at p below =
        elim (cases_Bool (is_lost k n m present p)) [
          | inl absent ↦
              ap element (products_are.nothing p c below inside (λ here. true≢false (sym absent ∙ here)))
              ∙ ap (λ (v : ℕ). v % 2 ^ 2 ^ level) nothing ∙ mod-eq_of_lt (pow_pos (2 ^ level))
              ∙ sym (ap (tower_mul level (element (word p)))
              (locator-root (2 ^ level) (tower_mul level) (pow_pos level) (tower_field level) at (is_lost k n m present) (2 ^ r) p below absent)
              ∙ times-zero (2 ^ level) 1 (tower_mul level) (tower_ring level) (element (word p)))
          | inr here ↦
              of_product (get_or products (p * width + c) zero) (number (word p)) (number (get_or factors p zero))
              (products_are.product p c below inside here
              ∙ ap (λ (w : W). tower_mul level (number w) (number (get_or factors p zero))) (words_are p below))
              ∙ ap (tower_mul level (element (word p))) ((factors_are p below).known here)
        ]

    -- the coefficients of the product
    value_in : (p : ℕ) → p < 2 ^ r → polynomial_value (tower_mul level) r of_first (at p) ≡ element (get_or products (p * width + c) zero)
    value_in p below =
        sym (held element zero level r width c inside y first products first_long products_long first_is p below
        ∙ ap (λ (x : ℕ). polynomial_value (tower_mul level) r of_first (point (2 ^ level) cantor_vector x p)) origin)

    -- the lost symbols are those of the word's polynomial
    pub restored_symbols : (p : ℕ) → p < 2 ^ few → is_lost k n m present p ≡ true
        → element (get_or symbols (p * width + c) zero) ≡ f (at p)
    restored_symbols p within absent =
        let more : 2 ^ few ≤ 2 ^ r = pow-le-pow_right (lit< tt) fewer in
        let below : p < 2 ^ r = omega (arith, within, more) in
        let factor : ℕ = number (get_or factors p zero) in
        let located = lost_symbols_are_located level n r (is_lost k n m present) low room enough in
        let fits = polynomial-lt (2 ^ level) (tower_mul level) (tower_ring level) (2 ^ n) f
        (value-polynomial (2 ^ level) (tower_mul level) (pow_pos level) (tower_ring level) n coefficients) (at p) in
        of_product (get_or symbols (p * width + c) zero) (number (get_or values (p * width + c) zero)) factor
        (symbols_are.product p c within inside absent)
        ∙ ap (λ (v : ℕ). tower_mul level v factor)
        (derived_values number zero level r width c inside low few fewer room first slopes first_long slopes_long
        (λ k less. slopes_are k c less inside) z values origin_too values_long values_are p within
        ∙ located.decoded coefficients of_first (λ q. element (word q)) known (λ q less. value_in q less ∙ product_at q less) p below absent)
        ∙ quotient_is level (f (at p)) (other_locator level k n m present (2 ^ r) p) factor fits ((factors_are p below).lost absent)

    -- also where other rows stand behind them
    pub restored_front : (others : List W) → length symbols ≡ length values → (p : ℕ) → p < 2 ^ few → is_lost k n m present p ≡ true
        → element (get_or (symbols ++ others) (p * width + c) zero) ≡ f (at p)
    restored_front others same p within absent =
        let place = digits_lt within inside in
        ap element (get_or_append_left symbols others zero (p * width + c) (omega (arith, place, same, values_long)))
        ∙ restored_symbols p within absent

-- ---- what is known of a word

module _ {W : Type 0} (number : W → ℕ) (zero : W) (nothing : number zero ≡ 0) (level k n m size column : ℕ) (present : List Bool)
    (shards parity : List W) (symbol word_parity : ℕ → ℕ) (word : IsCodedColumn level n k m symbol word_parity)
    (data_known : (i : ℕ) → i < k → IsAtHand present i → shard_symbol (level_element number level) zero size shards column i ≡ symbol i)
    (parity_known : (t : ℕ) → t < m → IsAtHand present (k + t)
    → shard_symbol (level_element number level) zero size parity column t ≡ word_parity t) where
  lost-first : (p : ℕ) → p < k → is_lost k n m present p ≡ false → IsAtHand present p
  lost-first p below is = elim (cases_Bool (get_or present p false)) [ inl here ↦ here | inr absent ↦ grind (arith, nat_tests) ]

  lost-behind : (p : ℕ) → k ≤ p → 2 ^ n ≤ p → p < 2 ^ n + m → is_lost k n m present p ≡ false → IsAtHand present (k + (p - 2 ^ n))
  lost-behind p past late below is =
      elim (cases_Bool (get_or present (k + (p - 2 ^ n)) false)) [ inl here ↦ here | inr absent ↦ grind (arith, nat_tests) ]

  lost-past : (p : ℕ) → k ≤ p → 2 ^ n ≤ p → 2 ^ n + m ≤ p → is_lost k n m present p ≡ true
  lost-past p past late far = grind (arith, nat_tests)

  none : level_element number level zero ≡ 0
  none = ap (λ (x : ℕ). x % 2 ^ 2 ^ level) nothing ∙ mod-eq_of_lt (pow_pos (2 ^ level))

  -- what is not lost is a value of the word's polynomial
  pub known_words : k ≤ 2 ^ n → (p : ℕ) → is_lost k n m present p ≡ false
      → level_element number level (word_at zero k n m size column shards parity p) ≡ value_at level n word.coefficients p
  known_words padded p is =
      elim (cases_lt p k) [
        | inl lower ↦
            ap (level_element number level) (word_at-first zero k n m size column shards parity p lower)
            ∙ data_known p lower (lost-first p lower is) ∙ word.of_data.values p lower
        | inr past ↦ elim (cases_lt p (2 ^ n)) [
          | inl below ↦ ap (level_element number level) (word_at-padding zero k n m size column shards parity p past below) ∙ none ∙ sym (word.of_data.padding p past below)
          | inr late ↦ elim (cases_lt p (2 ^ n + m)) [
            | inl within ↦ of_parity past late within
            | inr far ↦ absurd (true≢false (sym (lost-past p past late far) ∙ is))
          ]
        ]
      ]
    where
      of_parity : k ≤ p → 2 ^ n ≤ p → p < 2 ^ n + m
          → level_element number level (word_at zero k n m size column shards parity p) ≡ value_at level n word.coefficients p
      of_parity past late within =
          let t_below : p - 2 ^ n < m = omega (arith, late, within) in
          let place : 2 ^ n + (p - 2 ^ n) ≡ p = omega (arith, late) in
          ap (level_element number level) (word_at-behind zero k n m size column shards parity p past late within)
          ∙ parity_known (p - 2 ^ n) t_below (lost-behind p past late within is)
          ∙ word.of_parity (p - 2 ^ n) t_below ∙ ap (value_at level n word.coefficients) place

-- ---- what restored columns need

-- a level that has 2 ^ r points has no fewer than r bits
pub bits_left : (r bits : ℕ) → 2 ^ r ≤ 2 ^ bits → r ≤ bits
bits_left r bits points =
    elim (cases_lt bits r) [
      | inl past ↦ absurd (omega (arith, points, pow-lt past))
      | inr below ↦ below
    ]

-- so many symbols are known of shards that can be restored
pub enough_known : (level k n m r words parity_words space : ℕ) (present : List Bool) → CanRebuild level r k m words parity_words space present
    → k ≤ 2 ^ n → 2 ^ n + m ≤ 2 ^ r → lost_count (is_lost k n m present) (2 ^ r) + 2 ^ n ≤ 2 ^ r
enough_known level k n m r words parity_words space present can padded room =
    enough_left k n m present padded (2 ^ r) room (subst (λ (s : ℕ). lost_count (is_missing present) s ≤ m) can.flags can.enough)

-- it is there once words were found to be those of shards that can be restored, and the factors were set
pub fits_restoring : {W : Type 0} (number : W → ℕ) (zero : W) (level n k m size r old old_parity space words parity_words : ℕ)
    (present : List Bool) (factors : List W)
    → CanRebuild level r k m old old_parity space present → k ≤ 2 ^ n → 2 ^ n + m ≤ 2 ^ r → r ≤ 16
    → words ≡ k * size → parity_words ≡ m * size
    → AreFactors number zero level k n m present (2 ^ r) factors → length factors ≡ 2 ^ r
    → FitRestoring number zero level n k m size r present words parity_words factors
fits_restoring number zero level n k m size r old old_parity space words parity_words present factors can padded room few whole parity_whole
    are_factors long =
    record {
      flags = can.flags;
      whole = whole;
      parity_whole = parity_whole;
      few = few;
      points = bits_left r (2 ^ level) can.points;
      room = room;
      enough = enough_known level k n m r old old_parity space present can padded room;
      factors_long = long;
      all = are_factors;
    }
