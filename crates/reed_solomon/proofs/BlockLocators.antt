-- Locators of blocks of places: that of two blocks, one behind the other, is the product of theirs, and its values at as many points as it has
-- coefficients determine those at all others.
use Rattle.std.proofs.Common.{◌≡◌, inl, inr, ℕ, zero, suc, ◌+◌, ◌-◌, ◌*◌, ◌%◌, ◌^◌, ◌<◌, ◌≤◌, Bool, true, false, List, ◌++◌, lit<, length, get_or, map, refl, sym, ◌∙◌, ap, ap₂, subst, arith, if◌then◌else◌}
use Rattle.std.specs.Prelude.{bit_xor, slice_index}
use Rattle.std.proofs.lemmas.Bool.{cases_lt}
use Rattle.std.proofs.lemmas.List.{get_or-append-add, get_or_append_left, length-append}
use Rattle.std.proofs.lemmas.Nat.{pow_pos}
use Rattle.std.proofs.Math.Nat.{pow-le-pow_right, two-pow-succ}
use native.Mathlib.Numerals.{add-one}
use native.Mathlib.Nat.{mod-eq_of_lt}
use Rattle.field_base.specs.Field.{IsField}
use Rattle.field_base.specs.Tower.{tower_mul}
use Rattle.field_base.proofs.RingLemmas.{mod-times, times-mod}
use Rattle.field_base.proofs.TowerLaws.{tower_field}
use Rattle.field_base.proofs.TowerRing.{tower_ring}
use Rattle.field_base.proofs.Polynomials.{IsPolynomial, polynomial-unique}
use Rattle.ghash_slices.specs.Cantor.{point, polynomial_value}
use Rattle.ghash_slices.proofs.CantorValues.{points_are_distinct}
use Rattle.additive_transforms.specs.lemmas.LevelVector.{level_vectors}
use Rattle.additive_transforms.specs.Words.{level_element}
use Rattle.word_tables.specs.Cantor.{cantor_vector}
use Rattle.word_tables.proofs.LevelLaws.{level_cantor}
use Rattle.additive_transforms.specs.Columns.{column_of}
use Rattle.field_base.proofs.PolynomialProducts.{polynomial-widen}
use Rattle.additive_transforms.proofs.BasisPolynomials.{value-polynomial}
use Rattle.additive_transforms.proofs.BlockPoints.{point-joined, point-lt}
use Rattle.reed_solomon.specs.Blocks.{AreDifferences, AreExtended, AreInverted, AreSlopes, HoldLocator, block_locator}
use Rattle.reed_solomon.specs.Columns.{HoldWordValues}
use Rattle.reed_solomon.specs.Located.{AreLocated}
use Rattle.reed_solomon.specs.Locators.{locator, lost_count}
use Rattle.reed_solomon.specs.Restoring.{AreFactors, is_lost, missing_locator, other_locator}
use Rattle.reed_solomon.proofs.CodedColumns.{held}
use Rattle.reed_solomon.proofs.Decoding.{lost_symbols_are_located}
use Rattle.reed_solomon.proofs.LocatorFacts.{locator-hit, locator-lt, locator-miss, locator-polynomial, locator-start}
use Rattle.reed_solomon.proofs.LostCounts.{lost_count-most}

-- twice a power of two is the next
pub doubled : (n : ℕ) → 2 ^ (n + 1) ≡ 2 ^ n + 2 ^ n
doubled n = ap (λ (k : ℕ). 2 ^ k) (add-one n) ∙ two-pow-succ n

-- and twice that
pub doubled_again : (n : ℕ) → 2 ^ (n + 2) ≡ 2 ^ (n + 1) + 2 ^ (n + 1)
doubled_again n = let next : n + 2 ≡ n + 1 + 1 = omega arith in ap (λ (k : ℕ). 2 ^ k) next ∙ doubled (n + 1)

-- ---- products

module _ (times : ℕ → ℕ → ℕ) (x : ℕ) where
  -- one place more
  abbrev step : Bool → ℕ → ℕ → ℕ
  step b d before = if b then times (bit_xor x d) before else before

  -- a locator is determined by its points and by which of them are lost
  pub locator-same : (at other : ℕ → ℕ) (lost also : ℕ → Bool) → ((p : ℕ) → at p ≡ other p) → ((p : ℕ) → lost p ≡ also p)
      → (n : ℕ) → locator times at lost n x ≡ locator times other also n x
  unfolding locator
  locator-same at other lost also points_same lost_same zero = refl
  locator-same at other lost also points_same lost_same (suc n) =
      ap (λ (b : Bool). step b (at n) (locator times at lost n x)) (lost_same n)
      ∙ ap (λ (d : ℕ). step (also n) d (locator times at lost n x)) (points_same n)
      ∙ ap (step (also n) (other n)) (locator-same at other lost also points_same lost_same n)

module _ (width : ℕ) (times : ℕ → ℕ → ℕ) (wide : 0 < width) (field : IsField width times) (at : ℕ → ℕ) (lost : ℕ → Bool) (a x : ℕ) where
  abbrev first : ℕ
  first = locator times at lost a x

  abbrev behind : ℕ → ℕ
  behind b = locator times (λ p. at (a + p)) (λ p. lost (a + p)) b x

  step_times : (b : Bool) (d u v : ℕ) → step times x b d (times u v) ≡ times (step times x b d u) v
  step_times true d u v = sym (field.ring.assoc (bit_xor x d) u v)
  step_times false d u v = refl

  -- that of two blocks is the product of theirs
  pub locator-append : (b : ℕ) → locator times at lost (a + b) x ≡ times (behind b) first
  unfolding locator
  locator-append zero =
      let none : a + 0 ≡ a = omega arith in
      ap (λ (k : ℕ). locator times at lost k x) none
      ∙ sym (field.ring.one first ∙ mod-eq_of_lt (locator-lt width times wide field at lost a x))
  locator-append (suc b) =
      let next : a + suc b ≡ suc (a + b) = omega arith in
      ap (λ (k : ℕ). locator times at lost k x) next
      ∙ ap (step times x (lost (a + b)) (at (a + b))) (locator-append b)
      ∙ step_times (lost (a + b)) (at (a + b)) (behind b) first

-- ---- values at the next points

-- what two transforms of one column leave: from the values at the first points the coefficients, and from these the values at the next
pub extended_values : {W : Type 0} (element : W → ℕ) (nil : W) (level n : ℕ) (known coefficients others : List W) (y z : ℕ) → y ≡ 0
    → z ≡ point (2 ^ level) cantor_vector 0 (2 ^ n)
    → length known ≡ 2 ^ n → length coefficients ≡ 2 ^ n → length others ≡ 2 ^ n
    → HoldWordValues element level y 1 0 coefficients known → HoldWordValues element level z 1 0 coefficients others
    → AreExtended element nil level n known others
extended_values element nil level n known coefficients others y z origin shift long count same known_are others_are =
    record {
      coefficients = column_of 1 0 (map element coefficients);
      first = λ p below.
          at_place p known
          (held element nil level n 1 0 (lit< tt) y coefficients known (rows count) (rows long) known_are p below
          ∙ ap (λ (x : ℕ). value (point (2 ^ level) cantor_vector x p)) origin);
      next = λ p below.
          let once : 1 * 2 ^ n ≡ 2 ^ n = omega arith in
          at_place p others
          (held element nil level n 1 0 (lit< tt) z coefficients others (rows count) (rows same) others_are p below
          ∙ ap (λ (x : ℕ). value (point (2 ^ level) cantor_vector x p)) (shift ∙ ap (point (2 ^ level) cantor_vector 0) (sym once))
          ∙ ap value (point-joined cantor_vector n 1 p below (2 ^ level) 0)
          ∙ ap (λ (x : ℕ). value (point (2 ^ level) cantor_vector 0 (x + p))) once);
    }
  where
    value : ℕ → ℕ
    value = polynomial_value (tower_mul level) n (slice_index (column_of 1 0 (map element coefficients)))

    rows : {words : ℕ} → words ≡ 2 ^ n → words ≡ 2 ^ n * 1
    rows is = omega (arith, is)

    at_place : (p : ℕ) {v : ℕ} (list : List _) → element (get_or list (p * 1 + 0) nil) ≡ v → element (get_or list p nil) ≡ v
    at_place p list is = let place : p ≡ p * 1 + 0 = omega arith in ap (λ (s : ℕ). element (get_or list s nil)) place ∙ is

-- ---- blocks of a level

module _ (level k n m : ℕ) (present : List Bool) where
  abbrev at : ℕ → ℕ
  at p = point (2 ^ level) cantor_vector 0 p

  abbrev of_block : ℕ → ℕ → ℕ → ℕ
  of_block start count x = block_locator level k n m present start count x

  of_block-lt : (start count x : ℕ) → of_block start count x < 2 ^ 2 ^ level
  of_block-lt start count x =
      locator-lt (2 ^ level) (tower_mul level) (pow_pos level) (tower_field level) (λ p. at (start + p)) (λ p. is_lost k n m present (start + p)) count x

  -- a block is its halves
  of_halves : (start half x : ℕ) → of_block start (half + half) x ≡ tower_mul level (of_block start half x) (of_block (start + half) half x)
  of_halves start half x =
      let place : (p : ℕ) → start + (half + p) ≡ start + half + p = λ p. omega arith in
      locator-append (2 ^ level) (tower_mul level) (pow_pos level) (tower_field level) (λ p. at (start + p)) (λ p. is_lost k n m present (start + p)) half
      x half
      ∙ ap (λ (a : ℕ). tower_mul level a (of_block start half x))
      (locator-same (tower_mul level) x (λ p. at (start + (half + p))) (λ p. at (start + half + p)) (λ p. is_lost k n m present (start + (half + p)))
      (λ p. is_lost k n m present (start + half + p)) (λ p. ap at (place p)) (λ p. ap (is_lost k n m present) (place p)) half)
      ∙ (tower_ring level).comm (of_block (start + half) half x) (of_block start half x)

  module _ {W : Type 0} (number : W → ℕ) (zero : W) where
    abbrev element : W → ℕ
    element = level_element number level

    -- values of both halves, multiplied word by word
    pub halves_multiplied : (start half : ℕ) (one other values : List W)
        → HoldLocator element zero level k n m present start half one → HoldLocator element zero level k n m present (start + half) half other
        → length values ≡ length one → length one ≡ length other
        → ((i : ℕ) → i < length one → number (get_or values i zero) ≡ tower_mul level (number (get_or one i zero)) (number (get_or other i zero)))
        → HoldLocator number zero level k n m present start (half + half) values
    halves_multiplied start half one other values one_is other_is long same products i below =
        products i (omega (arith, below, long))
        ∙ sym (times-mod (2 ^ level) 1 (tower_mul level) (tower_ring level) (number (get_or one i zero)) (number (get_or other i zero)))
        ∙ sym (mod-times (2 ^ level) 1 (tower_mul level) (tower_ring level) (number (get_or one i zero)) (element (get_or other i zero)))
        ∙ ap₂ (tower_mul level) (one_is i (omega (arith, below, long))) (other_is i (omega (arith, below, long, same)))
        ∙ sym (of_halves start half (at i))

    -- the product of no differences
    pub locator_of_none : (start : ℕ) (values : List W) → ((i : ℕ) → i < length values → number (get_or values i zero) ≡ 1)
        → HoldLocator number zero level k n m present start 0 values
    locator_of_none start values ones i below =
        ones i below ∙ sym (locator-start (tower_mul level) (λ p. at (start + p)) (λ p. is_lost k n m present (start + p)) 0 (at i))

    -- one place more, which is not lost
    pub locator_passed : (start count : ℕ) (values : List W) → is_lost k n m present (start + count) ≡ false
        → HoldLocator number zero level k n m present start count values → HoldLocator number zero level k n m present start (count + 1) values
    locator_passed start count values is before i below =
        before i below ∙ sym (locator-miss (tower_mul level) (λ p. at (start + p)) (λ p. is_lost k n m present (start + p)) count (at i) is)

    -- or is lost
    pub locator_multiplied : (start count x : ℕ) (points values next : List W) → is_lost k n m present (start + count) ≡ true
        → x ≡ at (start + count) → length values ≤ length points → length next ≡ length values
        → ((p : ℕ) → p < length points → number (get_or points p zero) ≡ at p)
        → AreDifferences number zero level x (length values) points values next
        → HoldLocator number zero level k n m present start count values → HoldLocator number zero level k n m present start (count + 1) next
    locator_multiplied start count x points values next is x_is table long points_are products before i below =
        let within : i < length values = omega (arith, below, long) in
        products.multiplied i within
        ∙ ap₂ (tower_mul level) (ap₂ bit_xor (points_are i (omega (arith, within, table))) x_is) (before i within)
        ∙ sym (locator-hit (tower_mul level) (λ p. at (start + p)) (λ p. is_lost k n m present (start + p)) count (at i) is)

    -- the elements of such words are the values too
    pub locator_elements : (start count : ℕ) (values : List W) → HoldLocator number zero level k n m present start count values
        → HoldLocator element zero level k n m present start count values
    locator_elements start count values held i below =
        ap (λ (v : ℕ). v % 2 ^ 2 ^ level) (held i below) ∙ mod-eq_of_lt (of_block-lt start count (at i))

    -- ---- values at the next points

    module _ (low : level ≤ 7) (size start count : ℕ) (few : count < 2 ^ size) (room : suc size ≤ 2 ^ level) (known others : List W)
        (long : length known ≡ 2 ^ size) (same : length others ≡ 2 ^ size)
        (known_is : HoldLocator number zero level k n m present start count known)
        (extended : AreExtended element zero level size known others) where
      field : IsField (2 ^ level) (tower_mul level)
      field = tower_field level

      points : 2 ^ size ≤ 2 ^ 2 ^ level
      points = pow-le-pow_right (lit< tt) (omega (arith, room))

      found : IsPolynomial (tower_mul level) (2 ^ size) (of_block start count)
      found =
          let lost : ℕ → Bool = λ p. is_lost k n m present (start + p) in
          let most = lost_count-most lost count in
          let all : (2 ^ size - suc (lost_count lost count)) + suc (lost_count lost count) ≡ 2 ^ size = omega (arith, most, few) in
          subst (λ (c : ℕ). IsPolynomial (tower_mul level) c (of_block start count)) all
          (polynomial-widen (2 ^ level) (tower_mul level) (pow_pos level) field.ring (2 ^ size - suc (lost_count lost count)) (suc (lost_count lost count))
          (of_block start count)
          (locator-polynomial (2 ^ level) (tower_mul level) (pow_pos level) field (λ p. at (start + p)) lost count))

      at_known : (i : ℕ) → i < 2 ^ size → element (get_or known i zero) ≡ of_block start count (at i)
      at_known i below = locator_elements start count known known_is i (omega (arith, below, long))

      -- the polynomial of the known values is the locator
      everywhere : (x : ℕ) → polynomial_value (tower_mul level) size (slice_index extended.coefficients) x ≡ of_block start count x
      everywhere =
          polynomial-unique (2 ^ level) (tower_mul level) field.ring field.inverses (2 ^ size)
          (polynomial_value (tower_mul level) size (slice_index extended.coefficients)) (of_block start count)
          (value-polynomial (2 ^ level) (tower_mul level) (pow_pos level) field.ring size (slice_index extended.coefficients)) found at
          (λ i below. point-lt (2 ^ level) cantor_vector (level_cantor level low).below i)
          (λ i j i_below j_below is.
          points_are_distinct (2 ^ level) (tower_mul level) cantor_vector (pow_pos level) field.ring (level_vectors level low) 0 i j
          (omega (arith, i_below, points)) (omega (arith, j_below, points)) is)
          (λ i below. sym (extended.first i below) ∙ at_known i below)

      -- so the words have its values at all points
      pub locator_extended : HoldLocator element zero level k n m present start count (known ++ others)
      locator_extended i below =
          elim (cases_lt i (2 ^ size)) [
            | inl early ↦ ap element (get_or_append_left known others zero i (omega (arith, early, long))) ∙ at_known i early
            | inr late ↦
                let place : length known + (i - 2 ^ size) ≡ i = omega (arith, late, long) in
                let next : 2 ^ size + (i - 2 ^ size) ≡ i = omega (arith, late) in
                let all = length-append known others in
                ap (λ (p : ℕ). element (get_or (known ++ others) p zero)) (sym place)
                ∙ ap element (get_or-append-add known others (i - 2 ^ size) zero)
                ∙ extended.next (i - 2 ^ size) (omega (arith, below, late, all, long, same))
                ∙ everywhere (at (2 ^ size + (i - 2 ^ size)))
                ∙ ap (λ (p : ℕ). of_block start count (at p)) next
          ]

    -- ---- factors

    -- the locator of all places is that of a block
    whole : (count x : ℕ) → of_block 0 count x ≡ missing_locator level k n m present count x
    whole count x =
        let place : (p : ℕ) → 0 + p ≡ p = λ p. omega arith in
        locator-same (tower_mul level) x (λ p. at (0 + p)) at (λ p. is_lost k n m present (0 + p)) (is_lost k n m present) (λ p. ap at (place p))
        (λ p. ap (is_lost k n m present) (place p)) count

    -- the values where symbols are known, and elsewhere the inverses of what the derivative has there
    pub factors_of_locator : (r : ℕ) → level ≤ 7 → r ≤ 2 ^ level → lost_count (is_lost k n m present) (2 ^ r) + 2 ^ n ≤ 2 ^ r
        → (values slopes factors : List W) → length values ≡ 2 ^ r → HoldLocator number zero level k n m present 0 (2 ^ r) values
        → AreSlopes element zero level r values slopes
        → AreInverted element number zero level (is_lost k n m present) (length values) slopes values factors
        → AreFactors number zero level k n m present (2 ^ r) factors
    factors_of_locator r low room enough values slopes factors long locators are_slopes inverted p below =
        record {
          known = λ here. ap number (inverted.kept p (inl here)) ∙ value p below;
          lost = λ absent.
              ap (λ (v : ℕ). tower_mul level v (number (get_or factors p zero))) (sym (slope absent))
              ∙ inverted.inverse p (omega (arith, below, long)) absent
              (λ none. located.invertible p below absent (sym (slope absent) ∙ none));
        }
      where
        located : AreLocated level n r (is_lost k n m present)
        located = lost_symbols_are_located level n r (is_lost k n m present) low room enough

        value : (q : ℕ) → q < 2 ^ r → number (get_or values q zero) ≡ missing_locator level k n m present (2 ^ r) (at q)
        value q less = locators q (omega (arith, less, long)) ∙ whole (2 ^ r) (at q)

        element_value : (q : ℕ) → q < 2 ^ r → element (get_or values q zero) ≡ missing_locator level k n m present (2 ^ r) (at q)
        element_value q less =
            ap (λ (v : ℕ). v % 2 ^ 2 ^ level) (value q less)
            ∙ mod-eq_of_lt (locator-lt (2 ^ level) (tower_mul level) (pow_pos level) (tower_field level) at (is_lost k n m present) (2 ^ r) (at q))

        slope : is_lost k n m present p ≡ true → element (get_or slopes p zero) ≡ other_locator level k n m present (2 ^ r) p
        slope absent =
            are_slopes.derivative p below
            ∙ located.slopes (slice_index are_slopes.coefficients) (λ q less. sym (are_slopes.values q less) ∙ element_value q less) p below absent
