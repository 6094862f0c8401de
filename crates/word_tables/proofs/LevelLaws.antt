-- The tables' laws in the form in which the levels' types cite them.
use Rattle.std.proofs.Common.{◌≡◌, ℕ, zero, suc, ◌%◌, ◌^◌, ◌<◌, ◌≤◌, refl, ◌∙◌, ap, arith, lit≤}
use native.Mathlib.Nat.{mod-eq_of_lt}
use Rattle.std.proofs.Math.Pow.{pow_mono}
use Rattle.field_base.specs.Orders.{HasFullOrder}
use Rattle.field_base.specs.Tower.{tower_mul}
use Rattle.field_base.specs.TowerBasis.{AreEvenCantorVectors, tower_generator}
use Rattle.word_tables.specs.Cantor.{cantor_vector}
use Rattle.word_tables.proofs.CantorVectors.{are_even, lie_in_levels, solve_the_one_before}
use Rattle.word_tables.proofs.Orders.{generators_have_full_order}

-- the generator of a level of at most 16 bits has the full order
pub level_generator : (k : ℕ) → k ≤ 4 → HasFullOrder (2 ^ k) (tower_mul k) (tower_generator k)
level_generator = generators_have_full_order

-- a level of at most 16 bits is level 4 or a lower one
pub at_most_four : (k : ℕ) → 2 ^ k ≤ 16 → k ≤ 4
at_most_four zero small = lit≤ tt
at_most_four (suc zero) small = lit≤ tt
at_most_four (suc (suc zero)) small = lit≤ tt
at_most_four (suc (suc (suc zero))) small = lit≤ tt
at_most_four (suc (suc (suc (suc zero)))) small = lit≤ tt
at_most_four (suc (suc (suc (suc (suc k))))) small =
    let least : 2 ^ 5 ≤ 2 ^ suc (suc (suc (suc (suc k)))) = pow_mono {i = 5} {j = suc (suc (suc (suc (suc k))))} (omega arith) in
    absurd (omega (arith, small, least))

-- the first vectors are those of a level
pub level_cantor : (k : ℕ) → k ≤ 7 → AreEvenCantorVectors k cantor_vector
level_cantor k within =
    record {
      first = refl;
      below = λ i below. lie_in_levels k i within below;
      rule = λ i above below. solve_the_one_before k i within above below;
      even = λ i above below. are_even i above (few_enough k i within below);
    }
  where
    few_enough : (k i : ℕ) → k ≤ 7 → i < 2 ^ k → i < 128
    few_enough k i within below = let most : 2 ^ k ≤ 2 ^ 7 = pow_mono {i = k} {j = 7} within in omega (arith, below, most)

-- a word that has the bits of a level keeps the numbers of its elements
pub kept_in_word : (k bits n v r : ℕ) → r ≡ n % 2 ^ bits → n ≡ v → v < 2 ^ 2 ^ k → 2 ^ k ≤ bits → r ≡ v
kept_in_word k bits n v r is n_is fits room =
    let more : 2 ^ 2 ^ k ≤ 2 ^ bits = pow_mono {i = 2 ^ k} {j = bits} room in
    is ∙ ap (λ (m : ℕ). m % 2 ^ bits) n_is ∙ mod-eq_of_lt (omega (arith, fits, more))
