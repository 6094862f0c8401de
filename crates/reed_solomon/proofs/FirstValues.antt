-- Values at the first 2 ^ n points: as many coefficients have them, once those of the upper halves are added to the lower ones.
use Rattle.std.proofs.Common.{◌≡◌, ℕ, zero, suc, ◌+◌, ◌-◌, ◌*◌, ◌/◌, ◌^◌, ◌<◌, ◌≤◌, List, ◌++◌, length, get_or, map, lit<, sym, ◌∙◌, ap, ap₂, subst, arith}
use Rattle.std.specs.Prelude.{bit_xor, slice_index}
use Rattle.std.specs.Int.{bit_at}
use Rattle.std.proofs.Math.Nat.{mul-le-mul, pow-le-pow_right, two-pow-succ}
use Rattle.std.proofs.lemmas.List.{get_or_append_left}
use Rattle.std.proofs.lemmas.Nat.{pow_pos}
use Rattle.std.proofs.lemmas.Nat.Bits.{bit_at-pow_same, bit_at_above}
use native.Mathlib.Nat.{div-eq_of_lt, mod-lt}
use lib.Bits.{xor_zero_r}
use Rattle.additive_transforms.specs.Columns.{column_of, FitsColumns}
use Rattle.additive_transforms.specs.Elements.{level_shifts, twiddle_basis}
use Rattle.additive_transforms.proofs.CantorSums.{value-halves, value-one, value-same}
use Rattle.additive_transforms.proofs.Carries.{no_image}
use Rattle.additive_transforms.proofs.ElementStages.{basis_length, level_twiddles, shift_at}
use Rattle.additive_transforms.proofs.SubspaceSteps.{first_subspace_value}
use Rattle.field_base.proofs.AdditiveMaps.{keeps_zero}
use Rattle.field_base.proofs.RingLemmas.{zero-times}
use Rattle.field_base.proofs.TowerRing.{tower_ring}
use Rattle.field_base.specs.Tower.{tower_mul}
use Rattle.ghash_slices.specs.Cantor.{point, polynomial_value, subspace_value}
use Rattle.ghash_slices.specs.Stages.{factor}
use Rattle.ghash_slices.proofs.CantorValues.{factors_are_subspace_values, subspace_value-sum}
use Rattle.ghash_slices.proofs.StageSums.{sum_of_factors-next}
use Rattle.additive_transforms.specs.lemmas.LevelVector.{level_vectors}
use Rattle.additive_transforms.specs.Words.{level_element}
use Rattle.word_tables.specs.Cantor.{cantor_vector}
use Rattle.reed_solomon.specs.Columns.{HoldFirstValues, HoldWordValues}
use Rattle.reed_solomon.proofs.CodedColumns.{column_word, held}
use lib.Arith.{digits_lt}

-- the halves of 2 ^ (j + 1) rows are two rows
pub halves_fit : (bits j columns words half : ℕ) → 0 < columns → 0 < bits → words ≡ 2 ^ suc j * columns → half ≡ 2 ^ j * columns
    → FitsColumns bits half words
halves_fit bits j columns words half some positive all half_is =
    let least : 1 * 1 ≤ 2 ^ j * columns = mul-le-mul (pow_pos j) some in
    let twice = ap (λ (n : ℕ). n * columns) (two-pow-succ j) in
    (1, (omega arith, omega (arith, least, half_is), omega (arith, all, twice, half_is)), omega (arith, positive))

module _ (level : ℕ) (low : level ≤ 7) where
  abbrev times : ℕ → ℕ → ℕ
  times = tower_mul level

  abbrev at : ℕ → ℕ → ℕ
  at z p = point (2 ^ level) cantor_vector z p

  wide : 0 < 2 ^ level
  wide = pow_pos level

  -- ---- polynomials

  -- at the first 2 ^ (j + 1) points s_j is the same, but for bit j of the point's number
  values_by_bit : (j z p : ℕ) → j < 2 ^ level → p < 2 ^ suc j → subspace_value times j (at z p) ≡ bit_xor (subspace_value times j z) (bit_at p j)
  unfolding factor
  values_by_bit j z p staged small =
      sym
      (factors_are_subspace_values (2 ^ level) times cantor_vector wide (tower_ring level) (level_vectors level low) z (2 ^ level) shifts basis
      (level_twiddles wide z) j p staged fits)
      ∙ ap (λ (v : ℕ). bit_xor v (bit_at p j))
      (sym (no_image basis (p / 2 ^ suc j) (slice_index shifts j) (div-eq_of_lt small)) ∙ shift_at (2 ^ level) times z j staged)
    where
      shifts : List ℕ
      shifts = level_shifts (2 ^ level) times z

      basis : List ℕ
      basis = twiddle_basis (2 ^ level) cantor_vector

      fits : p < 2 ^ suc (length basis)
      fits =
          let more : 2 ^ suc j ≤ 2 ^ 2 ^ level = pow-le-pow_right (lit< tt) staged in
          subst (λ (b : ℕ). p < 2 ^ b) (sym (basis_length (2 ^ level) cantor_vector wide)) (omega (arith, small, more))

  -- so at the first 2 ^ j
  pub first_values : (j z p : ℕ) → j < 2 ^ level → p < 2 ^ j → subspace_value times j (at z p) ≡ subspace_value times j z
  first_values j z p staged small =
      let twice = two-pow-succ j in
      values_by_bit j z p staged (omega (arith, small, twice))
      ∙ ap (bit_xor (subspace_value times j z)) (bit_at_above p j j small (omega arith)) ∙ xor_zero_r (subspace_value times j z)

  -- and at the next it is 1 more
  pub next_value : (j z : ℕ) → j < 2 ^ level → subspace_value times j (at z (2 ^ j)) ≡ bit_xor (subspace_value times j z) 1
  next_value j z staged =
      let twice = two-pow-succ j in
      let some = pow_pos j in
      values_by_bit j z (2 ^ j) staged (omega (arith, some, twice)) ∙ ap (bit_xor (subspace_value times j z)) (bit_at-pow_same j)

  -- the scalars of two rows
  pub scalar_of_first : (t : ℕ) → t ≡ subspace_value times 0 (at t 0)
  scalar_of_first t = first_subspace_value (tower_mul level) t ∙ sym (first_values 0 t 0 wide (lit< tt))

  pub scalar_of_second : (t : ℕ) → bit_xor t 1 ≡ subspace_value times 0 (at t 1)
  scalar_of_second t = ap (λ (s : ℕ). bit_xor s 1) (first_subspace_value (tower_mul level) t) ∙ sym (next_value 0 t wide)

  -- so they are the values of half as many coefficients
  pub folded : (j : ℕ) (c : ℕ → ℕ) (z p t : ℕ) → j < 2 ^ level → p < 2 ^ j → t ≡ subspace_value times j z
      → polynomial_value times j (λ k. bit_xor (c k) (times t (c (2 ^ j + k)))) (at z p) ≡ polynomial_value times (suc j) c (at z p)
  unfolding polynomial_value
  folded j c z p t staged small is =
      ap (λ (s : ℕ). polynomial_value times j (λ k. bit_xor (c k) (times s (c (2 ^ j + k)))) (at z p)) (is ∙ sym (first_values j z p staged small))
      ∙ sym (sum_of_factors-next (2 ^ level) times wide (tower_ring level) (λ i. subspace_value times i (at z p)) j c)

  -- from point 0 on the lower half of the coefficients has them
  lower_only : (j : ℕ) (c : ℕ → ℕ) (p : ℕ) → j < 2 ^ level → p < 2 ^ j → polynomial_value times j c (at 0 p) ≡ polynomial_value times (suc j) c (at 0 p)
  lower_only j c p staged small =
      let x : ℕ = at 0 p in
      let upper : ℕ = polynomial_value times j (λ k. c (2 ^ j + k)) x in
      sym
      (value-halves (2 ^ level) times wide (tower_ring level) j c x
      ∙ ap (λ (s : ℕ). bit_xor (polynomial_value times j c x) (times s upper))
      (first_values j 0 p staged small ∙ keeps_zero (subspace_value times j) (subspace_value-sum (2 ^ level) times wide (tower_ring level) j))
      ∙ ap (bit_xor (polynomial_value times j c x)) (zero-times (2 ^ level) 1 times (tower_ring level) upper)
      ∙ xor_zero_r (polynomial_value times j c x))

  -- or the lowest 2 ^ few
  pub lowest_only : (few n : ℕ) (c : ℕ → ℕ) (p : ℕ) → few ≤ n → n ≤ 2 ^ level → p < 2 ^ few
      → polynomial_value times few c (at 0 p) ≡ polynomial_value times n c (at 0 p)
  lowest_only few n c p fewer staged small =
      let all : few + (n - few) ≡ n = omega (arith, fewer) in
      subst (λ (m : ℕ). polynomial_value times few c (at 0 p) ≡ polynomial_value times m c (at 0 p)) all
      (by_steps (n - few) (omega (arith, fewer, staged)))
    where
      by_steps : (d : ℕ) → few + d ≤ 2 ^ level → polynomial_value times few c (at 0 p) ≡ polynomial_value times (few + d) c (at 0 p)
      by_steps zero inside = let same : few ≡ few + 0 = omega arith in ap (λ (m : ℕ). polynomial_value times m c (at 0 p)) same
      by_steps (suc d) inside =
          let next : suc (few + d) ≡ few + suc d = omega arith in
          let more : 2 ^ few ≤ 2 ^ (few + d) = pow-le-pow_right (lit< tt) (omega arith) in
          by_steps d (omega (arith, inside))
          ∙ lower_only (few + d) c p (omega (arith, inside)) (omega (arith, small, more))
          ∙ ap (λ (m : ℕ). polynomial_value times m c (at 0 p)) next

  -- ---- rows

  module _ {W : Type 0} (number : W → ℕ) (nil : W) where
    abbrev element : W → ℕ
    element = level_element number level

    element-lt : (w : W) → element w < 2 ^ 2 ^ level
    element-lt w = mod-lt (number w) (pow_pos (2 ^ level))

    module _ (j columns half : ℕ) (half_is : half ≡ 2 ^ j * columns) (t : ℕ) (old mid : List W) (count : length old ≡ 2 ^ suc j * columns)
        (same : length mid ≡ length old) (holds : (i : ℕ) → i < half → HoldWordValues element level t half i old mid) where
      halves : (l : List W) → length l ≡ 2 ^ suc j * columns → length l ≡ 2 ^ 1 * half
      halves l long =
          let twice = ap (λ (n : ℕ). n * columns) (two-pow-succ j) in
          omega (arith, long, twice, half_is)

      -- a transform of these two rows adds a multiple of the upper one to the lower one
      two_rows : (r : ℕ) → r < 2 ^ 1 → (i : ℕ) → i < half → element (get_or mid (r * half + i) nil)
          ≡ bit_xor (element (get_or old i nil)) (times (subspace_value times 0 (at t r)) (element (get_or old (half + i) nil)))
      two_rows r few i within =
          let first : 0 * half + i ≡ i = omega arith in
          let second : 1 * half + i ≡ half + i = omega arith in
          let x : ℕ = at t r in
          let d : ℕ → ℕ = slice_index (column_of half i (map element old)) in
          held element nil level 1 half i within t old mid (halves old count) (halves mid (same ∙ count)) (holds i within) r few
          ∙ value-halves (2 ^ level) times wide (tower_ring level) 0 d x
          ∙ ap₂ (λ (u v : ℕ). bit_xor u (times (subspace_value times 0 x) v))
          (value-one (2 ^ level) times wide (tower_ring level) d x (fits 0 (lit< tt)) ∙ row 0 (lit< tt)
          ∙ ap (λ (s : ℕ). element (get_or old s nil)) first)
          (value-one (2 ^ level) times wide (tower_ring level) (λ n. d (1 + n)) x (fits 1 (lit< tt)) ∙ row 1 (lit< tt)
          ∙ ap (λ (s : ℕ). element (get_or old s nil)) second)
        where
          row : (q : ℕ) → q < 2 ^ 1 → slice_index (column_of half i (map element old)) q ≡ element (get_or old (q * half + i) nil)
          row q small = column_word element nil level 1 half i within old (halves old count) q small

          fits : (q : ℕ) → q < 2 ^ 1 → slice_index (column_of half i (map element old)) q < 2 ^ 2 ^ level
          fits q small = subst (λ (v : ℕ). v < 2 ^ 2 ^ level) (sym (row q small)) (element-lt (get_or old (q * half + i) nil))

      -- in each column a half of the rows has sums of coefficients and multiples
      pub half_coefficient : (r : ℕ) → r < 2 ^ 1 → (part : List W) → length part ≡ half
          → ((i : ℕ) → i < half → get_or part i nil ≡ get_or mid (r * half + i) nil) → (s : ℕ) → s ≡ subspace_value times 0 (at t r)
          → (c : ℕ) → c < columns → (k : ℕ) → k < 2 ^ j → slice_index (column_of columns c (map element part)) k
          ≡ bit_xor (slice_index (column_of columns c (map element old)) k)
          (times s (slice_index (column_of columns c (map element old)) (2 ^ j + k)))
      half_coefficient r few part long is_part s scalar c inside k less =
          let twice = two-pow-succ j in
          let here = digits_lt less inside in
          let behind : half + (k * columns + c) ≡ (2 ^ j + k) * columns + c = omega (arith, half_is) in
          column_word element nil level j columns c inside part (long ∙ half_is) k less
          ∙ ap element (is_part (k * columns + c) (omega (arith, here, half_is)))
          ∙ two_rows r few (k * columns + c) (omega (arith, here, half_is))
          ∙ ap₂ (λ (u p : ℕ). bit_xor (element (get_or old (k * columns + c) nil)) (times u (element (get_or old p nil)))) (sym scalar)
          behind
          ∙ ap₂ (λ (u v : ℕ). bit_xor u (times s v))
          (sym (column_word element nil level (suc j) columns c inside old count k (omega (arith, less, twice))))
          (sym (column_word element nil level (suc j) columns c inside old count (2 ^ j + k) (omega (arith, less, twice))))

      -- so the values of the polynomials of the lower half are those of the whole
      pub first_step : (few z : ℕ) → few ≤ j → j < 2 ^ level → t ≡ subspace_value times j z → (lower rest new others : List W)
          → mid ≡ lower ++ rest → length lower ≡ half → length new ≡ length lower → (c : ℕ) → c < columns
          → HoldFirstValues element nil level j few z columns c lower new → HoldFirstValues element nil level (suc j) few z columns c old (new ++ others)
      first_step few z fewer staged is lower rest new others parts long also c inside values p below =
          ap element (get_or_append_left new others nil (p * columns + c) (omega (arith, place, also, long, half_is)))
          ∙ values p below
          ∙ value-same (2 ^ level) times wide (tower_ring level) j (slice_index (column_of columns c (map element lower)))
          (λ k. bit_xor (a k) (times t (a (2 ^ j + k)))) (at z p)
          (half_coefficient 0 (lit< tt) lower long is_lower t (scalar_of_first t) c inside)
          ∙ folded j a z p t staged small is
        where
          small : p < 2 ^ j
          small = let more : 2 ^ few ≤ 2 ^ j = pow-le-pow_right (lit< tt) fewer in omega (arith, below, more)

          place : p * columns + c < 2 ^ j * columns
          place = digits_lt small inside

          a : ℕ → ℕ
          a = slice_index (column_of columns c (map element old))

          is_lower : (i : ℕ) → i < half → get_or lower i nil ≡ get_or mid (0 * half + i) nil
          is_lower i within =
              let first : i ≡ 0 * half + i = omega arith in
              sym (ap (λ (l : List W). get_or l i nil) parts ∙ get_or_append_left lower rest nil i (omega (arith, within, long)))
              ∙ ap (λ (s : ℕ). get_or mid s nil) first

    -- where no stage is left out
    pub first_all : (n few columns z : ℕ) (old new : List W) → n ≡ few → length old ≡ 2 ^ n * columns → length new ≡ length old
        → (c : ℕ) → c < columns → HoldWordValues element level z columns c old new → HoldFirstValues element nil level n few z columns c old new
    first_all n few columns z old new all count same c inside holds p below =
        held element nil level n columns c inside z old new count (same ∙ count) holds p (subst (λ (m : ℕ). p < 2 ^ m) (sym all) below)
