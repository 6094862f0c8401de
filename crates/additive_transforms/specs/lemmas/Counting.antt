-- What is true of the definitions of Counting.antt.
use Rattle.std.specs.Prelude.{◌≡◌, ℕ, ◌+◌, ◌^◌, ◌<◌}
use Rattle.std.proofs.Common.{arith}
use Rattle.additive_transforms.specs.Counting.{AddsUp}

-- where nothing is counted
pub nothing_counted : {C : Type 0} → AddsUp {C = C} (λ _ _ _. Unit {0}) (λ _ _. Unit {0})
nothing_counted = record {
  none = λ a. tt;
  more = λ a b c m n first second. tt;
  rest = λ a b m n most within room first. tt;
}

-- where a number of 64 bits counts
pub number_counts : {C : Type 0} (count : C → ℕ) → AddsUp {C = C} (λ a b n. count b ≡ count a + n) (λ a n. count a + n < 2 ^ 64)
number_counts count = record {
  none = λ a. omega arith;
  more = λ a b c m n first second. omega (arith, first, second);
  rest = λ a b m n most within room first. omega (arith, within, room, first);
}
