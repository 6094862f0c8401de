-- Values that are 0 from some row on: their coefficients, by halves of the rows.
use Rattle.std.proofs.Common.{◌≡◌, inl, inr, ℕ, suc, ◌+◌, ◌-◌, ◌*◌, ◌^◌, ◌<◌, ◌≤◌, List, ◌++◌, length, get_or, map, lit<, refl, sym, ◌∙◌, ap, ap₂, subst, arith}
use Rattle.std.specs.Prelude.{bit_xor, slice_index}
use Rattle.std.specs.Int.{bit_at}
use Rattle.std.proofs.Math.Nat.{two-pow-succ}
use Rattle.std.proofs.lemmas.Bool.{cases_lt}
use Rattle.std.proofs.lemmas.List.{get_or-append-add, get_or_append_left}
use Rattle.std.proofs.lemmas.Nat.{pow_pos}
use native.Mathlib.Nat.{mod-lt}
use lib.Arith.{digits_lt}
use lib.Bits.{xor_comm, xor_zero_r}
use Rattle.additive_transforms.specs.Columns.{column_of}
use Rattle.additive_transforms.specs.lemmas.LevelVector.{level_vectors}
use Rattle.additive_transforms.specs.Words.{level_element}
use Rattle.additive_transforms.proofs.BlockPoints.{point-joined}
use Rattle.additive_transforms.proofs.CantorSums.{value-none, value-same}
use Rattle.additive_transforms.proofs.ColumnStages.{column-fits}
use Rattle.additive_transforms.proofs.Counts.{one_exponent}
use Rattle.additive_transforms.proofs.ElementStages.{the_numbers}
use Rattle.field_base.specs.Basis.{sum_below}
use Rattle.field_base.specs.Tower.{tower_mul}
use Rattle.field_base.proofs.TowerRing.{tower_ring}
use Rattle.field_base.proofs.WordValues.{values_fit}
use Rattle.ghash_slices.specs.Cantor.{point, polynomial_value, subspace_value}
use Rattle.word_tables.specs.Cantor.{cantor_vector}
use Rattle.reed_solomon.specs.Columns.{AreWordCoefficients, HoldWordValues, HoldZeros}
use Rattle.reed_solomon.proofs.CodedColumns.{column_long, column_word, held}
use Rattle.reed_solomon.proofs.FirstValues.{folded, half_coefficient, next_value, scalar_of_first, scalar_of_second}

-- the point 2 ^ j places behind z is the sum of z and that behind 0
pub point_behind : (width : ℕ) (vector : ℕ → ℕ) (z j rows there next : ℕ) → rows ≡ 2 ^ j → there ≡ point width vector 0 rows
    → next ≡ bit_xor z there → next ≡ point width vector z (2 ^ j)
unfolding point
point_behind width vector z j rows there next power of_rows is =
    let sum : ℕ = sum_below (λ b. bit_at (2 ^ j) b * vector b) width in
    is
    ∙ ap (bit_xor z) (of_rows ∙ ap (point width vector 0) power)
    ∙ ap (bit_xor z) (xor_comm 0 sum ∙ xor_zero_r sum)

-- rows of zeros of the upper half
module _ {W : Type 0} (nil : W) (j columns known below : ℕ) (words lower upper : List W) (parts : words ≡ lower ++ upper)
    (long : length lower ≡ 2 ^ j * columns) (zeros : HoldZeros nil columns known (2 ^ suc j) words) where
  pub upper_zeros : (rows : ℕ) → rows ≡ 2 ^ j → below ≤ rows → HoldZeros nil columns (known - below) (2 ^ j) upper
  upper_zeros rows half most i c past less inside =
      let twice = two-pow-succ j in
      let place : length lower + (i * columns + c) ≡ (2 ^ j + i) * columns + c = omega (arith, long) in
      sym (get_or-append-add lower upper (i * columns + c) nil)
      ∙ ap₂ (λ (l : List W) (s : ℕ). get_or l s nil) (sym parts) place
      ∙ zeros (2 ^ j + i) c (omega (arith, past, most, half)) (omega (arith, less, twice)) inside

module _ (level : ℕ) (low : level ≤ 7) {W : Type 0} (number : W → ℕ) (nil : W) where
  abbrev element : W → ℕ
  element = level_element number level

  abbrev times : ℕ → ℕ → ℕ
  times = tower_mul level

  abbrev at : ℕ → ℕ → ℕ
  at z p = point (2 ^ level) cantor_vector z p

  wide : 0 < 2 ^ level
  wide = pow_pos level

  -- coefficients with such values are the only ones
  are_coefficients : (n columns z : ℕ) (old new : List W) → n ≤ 40 → n ≤ 2 ^ level → length old ≡ 2 ^ n * columns
      → length new ≡ 2 ^ n * columns → (c : ℕ) → c < columns → HoldWordValues element level z columns c new old → AreWordCoefficients element level z columns c old new
  are_coefficients n columns z old new few staged count same c inside =
      let values = column_long element nil level n columns c inside old count in
      the_numbers wide (tower_ring level) (level_vectors level low) z (column_of columns c (map element old))
      (column_of columns c (map element new)) (n, (few, values), staged) (column_long element nil level n columns c inside new same ∙ sym values)
      (column-fits columns c (map element new) (2 ^ level)
      (values_fit (2 ^ level) element (λ w. mod-lt (number w) (pow_pos (2 ^ level))) new))

  -- zeros are the values of zeros
  pub zeros_of_zeros : element nil ≡ 0 → (n columns z : ℕ) (words : List W) → n ≤ 40 → n ≤ 2 ^ level → length words ≡ 2 ^ n * columns
      → HoldZeros nil columns 0 (2 ^ n) words → (c : ℕ) → c < columns → AreWordCoefficients element level z columns c words words
  zeros_of_zeros none n columns z words few staged count zeros c inside =
      are_coefficients n columns z words words few staged count count c inside hold
    where
      coefficient : ℕ → ℕ
      coefficient = slice_index (column_of columns c (map element words))

      nothing : (k : ℕ) → k < 2 ^ n → coefficient k ≡ 0
      nothing k less =
          column_word element nil level n columns c inside words count k less ∙ ap element (zeros k c (omega arith) less inside) ∙ none

      hold : HoldWordValues element level z columns c words words
      hold m long p below =
          let same : n ≡ m = one_exponent n m (sym (column_long element nil level n columns c inside words count) ∙ long) in
          nothing p (subst (λ (e : ℕ). p < 2 ^ e) (sym same) below)
          ∙ sym
          (value-same (2 ^ level) times wide (tower_ring level) m coefficient (λ k. 0) (at z p)
          (λ k less. nothing k (subst (λ (e : ℕ). k < 2 ^ e) (sym same) less))
          ∙ value-none (2 ^ level) times wide (tower_ring level) m (λ k. 0) (at z p) (λ k. refl))

  -- ---- both halves

  module _ (j columns half : ℕ) (half_is : half ≡ 2 ^ j * columns) (staged : j < 2 ^ level) (t z next : ℕ)
      (is : t ≡ subspace_value times j z) (next_is : next ≡ at z (2 ^ j)) (old lower upper first second new : List W) (count : length old ≡ 2 ^ suc j * columns)
      (old_parts : old ≡ lower ++ upper) (lower_long : length lower ≡ half) (upper_long : length upper ≡ half)
      (first_long : length first ≡ half) (second_long : length second ≡ half) (whole : length new ≡ 2 ^ suc j * columns)
      (same : length new ≡ length (first ++ second))
      (holds : (i : ℕ) → i < half → HoldWordValues element level t half i new (first ++ second)) (c : ℕ) (inside : c < columns) where
    abbrev a : ℕ → ℕ
    a = slice_index (column_of columns c (map element new))

    is_first : (i : ℕ) → i < half → get_or first i nil ≡ get_or (first ++ second) (0 * half + i) nil
    is_first i within =
        let place : i ≡ 0 * half + i = omega arith in
        sym (get_or_append_left first second nil i (omega (arith, within, first_long)))
        ∙ ap (λ (s : ℕ). get_or (first ++ second) s nil) place

    is_second : (i : ℕ) → i < half → get_or second i nil ≡ get_or (first ++ second) (1 * half + i) nil
    is_second i within =
        let place : length first + i ≡ 1 * half + i = omega (arith, first_long) in
        sym (get_or-append-add first second i nil) ∙ ap (λ (s : ℕ). get_or (first ++ second) s nil) place

    in_lower : HoldWordValues element level z columns c first lower → (p : ℕ) → p < 2 ^ j
        → element (get_or old (p * columns + c) nil) ≡ polynomial_value times (suc j) a (at z p)
    in_lower lower_is p less =
        let here = digits_lt less inside in
        ap element
        (ap (λ (l : List W). get_or l (p * columns + c) nil) old_parts
        ∙ get_or_append_left lower upper nil (p * columns + c) (omega (arith, here, lower_long, half_is)))
        ∙ held element nil level j columns c inside z first lower (first_long ∙ half_is) (lower_long ∙ half_is) lower_is p less
        ∙ value-same (2 ^ level) times wide (tower_ring level) j (slice_index (column_of columns c (map element first)))
        (λ k. bit_xor (a k) (times t (a (2 ^ j + k)))) (at z p)
        (half_coefficient level low number nil j columns half half_is t new (first ++ second) whole (sym same) holds 0 (lit< tt) first first_long
        is_first t (scalar_of_first level low t) c inside)
        ∙ folded level low j a z p t staged less is

    in_upper : HoldWordValues element level next columns c second upper → (p : ℕ) → p < 2 ^ j
        → element (get_or old ((2 ^ j + p) * columns + c) nil) ≡ polynomial_value times (suc j) a (at z (2 ^ j + p))
    in_upper upper_is p less =
        let place : (2 ^ j + p) * columns + c ≡ length lower + (p * columns + c) = omega (arith, lower_long, half_is) in
        let more : ℕ = bit_xor t 1 in
        ap element
        (ap₂ (λ (l : List W) (s : ℕ). get_or l s nil) old_parts place ∙ get_or-append-add lower upper (p * columns + c) nil)
        ∙ held element nil level j columns c inside next second upper (second_long ∙ half_is) (upper_long ∙ half_is) upper_is p less
        ∙ value-same (2 ^ level) times wide (tower_ring level) j (slice_index (column_of columns c (map element second)))
        (λ k. bit_xor (a k) (times more (a (2 ^ j + k)))) (at next p)
        (half_coefficient level low number nil j columns half half_is t new (first ++ second) whole (sym same) holds 1 (lit< tt) second second_long
        is_second more (scalar_of_second level low t) c inside)
        ∙ folded level low j a next p more staged less
        (ap (λ (s : ℕ). bit_xor s 1) is ∙ sym (next_value level low j z staged) ∙ ap (subspace_value times j) (sym next_is))
        ∙ ap (polynomial_value times (suc j) a) next_point
      where
        next_point : at next p ≡ at z (2 ^ j + p)
        next_point =
            let once : 2 ^ j ≡ 1 * 2 ^ j = omega arith in
            let behind : 1 * 2 ^ j + p ≡ 2 ^ j + p = omega arith in
            ap (λ (y : ℕ). at y p) (next_is ∙ ap (at z) once) ∙ point-joined cantor_vector j 1 p less (2 ^ level) z ∙ ap (at z) behind

    at_place : HoldWordValues element level z columns c first lower → HoldWordValues element level next columns c second upper → (p : ℕ)
        → p < 2 ^ suc j → element (get_or old (p * columns + c) nil) ≡ polynomial_value times (suc j) a (at z p)
    at_place lower_is upper_is p within =
        elim (cases_lt p (2 ^ j)) [
          | inl early ↦ in_lower lower_is p early
          | inr late ↦
              let twice = two-pow-succ j in
              let back : 2 ^ j + (p - 2 ^ j) ≡ p = omega (arith, late) in
              subst (λ (q : ℕ). element (get_or old (q * columns + c) nil) ≡ polynomial_value times (suc j) a (at z q)) back
              (in_upper upper_is (p - 2 ^ j) (omega (arith, within, late, twice)))
        ]

    -- so the coefficients of both halves, and a transform of them as two rows, leave those of all
    pub known_step : suc j ≤ 40 → HoldWordValues element level z columns c first lower
        → HoldWordValues element level next columns c second upper
        → AreWordCoefficients element level z columns c old new
    known_step few lower_is upper_is = are_coefficients (suc j) columns z old new few (omega (arith, staged)) count whole c inside hold
      where
        hold : HoldWordValues element level z columns c new old
        hold m long p below =
            let stages : suc j ≡ m =
            one_exponent (suc j) m (sym (column_long element nil level (suc j) columns c inside new whole) ∙ long) in
            let within : p < 2 ^ suc j = subst (λ (e : ℕ). p < 2 ^ e) (sym stages) below in
            column_word element nil level (suc j) columns c inside old count p within
            ∙ at_place lower_is upper_is p within
            ∙ ap (λ (e : ℕ). polynomial_value times e a (at z p)) stages
