-- As many symbols as there are data determine a code word.
use Rattle.std.proofs.Common.{◌≡◌, ◌⊎◌, inl, inr, ℕ, ◌+◌, ◌-◌, ◌^◌, ◌<◌, ◌≤◌, List, sym, ◌∙◌, arith, if◌then◌else◌, nat_lt}
use Rattle.std.specs.Prelude.{slice_index}
use Rattle.std.proofs.lemmas.Bool.{cases_lt}
use Rattle.std.proofs.lemmas.Bool.Decides.{nat_tests}
use Rattle.std.proofs.lemmas.Nat.{pow_pos}
use Rattle.field_base.specs.Tower.{tower_mul}
use Rattle.field_base.specs.Field.{IsField}
use Rattle.field_base.proofs.TowerLaws.{tower_field}
use Rattle.field_base.proofs.Polynomials.{polynomial-unique}
use Rattle.ghash_slices.specs.Cantor.{point, polynomial_value}
use Rattle.ghash_slices.proofs.CantorValues.{points_are_distinct}
use Rattle.additive_transforms.specs.lemmas.LevelVector.{level_vectors}
use Rattle.word_tables.specs.Cantor.{cantor_vector}
use Rattle.word_tables.proofs.LevelLaws.{level_cantor}
use Rattle.reed_solomon.specs.Codes.{IsCodedColumn, value_at}
use Rattle.reed_solomon.specs.Determined.{ShardsDetermine, symbol_of}
use Rattle.additive_transforms.proofs.BasisPolynomials.{value-polynomial}
use Rattle.additive_transforms.proofs.BlockPoints.{point-lt}

-- the place of shard i among the points
abbrev pub place_of : ℕ → ℕ → ℕ → ℕ
place_of n k i = if nat_lt i k then i else 2 ^ n + (i - k)

place-lt : (n k m i : ℕ) → k ≤ 2 ^ n → i < k + m → place_of n k i < 2 ^ n + m
place-lt n k m i padded below = grind (arith, nat_tests)

place-same : (n k i j : ℕ) → k ≤ 2 ^ n → place_of n k i ≡ place_of n k j → i ≡ j
place-same n k i j padded same = grind (arith, nat_tests)

-- a shard has no padding's place
place-apart : (n k i p : ℕ) → k ≤ p → p < 2 ^ n → place_of n k i ≡ p → ⊥
place-apart n k i p past below same = grind (arith, nat_tests)

symbol-value : (level n k m : ℕ) (symbol parity : ℕ → ℕ) (word : IsCodedColumn level n k m symbol parity) (i : ℕ) → i < k + m
    → symbol_of k symbol parity i ≡ value_at level n word.coefficients (place_of n k i)
symbol-value level n k m symbol parity word i below =
    elim (cases_lt i k) [
      | inl lower ↦ let is = word.of_data.values i lower in grind (arith, nat_tests)
      | inr past ↦ let within : i - k < m = omega (arith, below, past) in let is = word.of_parity (i - k) within in grind (arith, nat_tests)
    ]

pub shards_determine : ShardsDetermine
shards_determine level n k m one one_parity other other_parity shard low padded room a b distinct agree i within =
    symbol-value level n k m one one_parity a i within
    ∙ polynomial-unique (2 ^ level) (tower_mul level) field.ring field.inverses (2 ^ n) (value_of a.coefficients) (value_of b.coefficients)
    (value-polynomial (2 ^ level) (tower_mul level) wide field.ring n (slice_index a.coefficients))
    (value-polynomial (2 ^ level) (tower_mul level) wide field.ring n (slice_index b.coefficients))
    (λ j. at (place j)) (λ j below. point-lt (2 ^ level) cantor_vector (level_cantor level low).below (place j)) apart same (at (place_of n k i))
    ∙ sym (symbol-value level n k m other other_parity b i within)
  where
    field : IsField (2 ^ level) (tower_mul level)
    field = tower_field level

    wide : 0 < 2 ^ level
    wide = pow_pos level

    at : ℕ → ℕ
    at p = point (2 ^ level) cantor_vector 0 p

    value_of : List ℕ → ℕ → ℕ
    value_of coefficients = polynomial_value (tower_mul level) n (slice_index coefficients)

    -- the chosen shards, and the padding behind them
    chosen : (j : ℕ) → (j < k) ⊎ (k ≤ j) → ℕ
    chosen j (inl lower) = place_of n k (shard j)
    chosen j (inr past) = j

    place : ℕ → ℕ
    place j = chosen j (cases_lt j k)

    chosen-lt : (j : ℕ) → j < 2 ^ n → (side : (j < k) ⊎ (k ≤ j)) → chosen j side < 2 ^ 2 ^ level
    chosen-lt j below (inl lower) = omega (arith, place-lt n k m (shard j) padded (distinct.below j lower), room)
    chosen-lt j below (inr past) = omega (arith, below, room)

    differ : (i j : ℕ) → i < 2 ^ n → j < 2 ^ n → (s : (i < k) ⊎ (k ≤ i)) (t : (j < k) ⊎ (k ≤ j)) → chosen i s ≡ chosen j t → i ≡ j
    differ i j i_below j_below (inl s) (inl t) e = distinct.differ i j s t (place-same n k (shard i) (shard j) padded e)
    differ i j i_below j_below (inl s) (inr t) e = absurd (place-apart n k (shard i) j t j_below e)
    differ i j i_below j_below (inr s) (inl t) e = absurd (place-apart n k (shard j) i s i_below (sym e))
    differ i j i_below j_below (inr s) (inr t) e = e

    apart : (i j : ℕ) → i < 2 ^ n → j < 2 ^ n → at (place i) ≡ at (place j) → i ≡ j
    apart i j i_below j_below e =
        differ i j i_below j_below (cases_lt i k) (cases_lt j k)
        (points_are_distinct (2 ^ level) (tower_mul level) cantor_vector wide field.ring (level_vectors level low) 0 (place i) (place j)
        (chosen-lt i i_below (cases_lt i k)) (chosen-lt j j_below (cases_lt j k)) e)

    same_at : (j : ℕ) → j < 2 ^ n → (side : (j < k) ⊎ (k ≤ j))
        → value_of a.coefficients (at (chosen j side)) ≡ value_of b.coefficients (at (chosen j side))
    same_at j below (inl lower) =
        sym (symbol-value level n k m one one_parity a (shard j) (distinct.below j lower)) ∙ agree j lower
        ∙ symbol-value level n k m other other_parity b (shard j) (distinct.below j lower)
    same_at j below (inr past) = a.of_data.padding j past below ∙ sym (b.of_data.padding j past below)

    same : (j : ℕ) → j < 2 ^ n → value_of a.coefficients (at (place j)) ≡ value_of b.coefficients (at (place j))
    same j below = same_at j below (cases_lt j k)
