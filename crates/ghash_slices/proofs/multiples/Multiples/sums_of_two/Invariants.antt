use Rattle.std.proofs.Common.{ℕ, ◌+◌, ◌-◌}
use Rattle.ghash_slices.specs.Blocks.{HoldLanes, HoldRows}
use Rattle.ghash_slices.specs.Multiples.{scalar_of}
use Rattle.ghash_slices.proofs.HornerProducts.{products_of_high}
use Rattle.ghash_slices.proofs.multiples.Multiples.sums_of_two.Given as goal

-- the sums are the products of what the bytes before are of the values
abbrev pub invariant-loop-turn : goal.invariant-loop-turn
invariant-loop-turn l =
    (values : ℕ → ℕ) → HoldRows l.first_rows values → HoldRows l.second_rows (λ e. values (16 + e))
    → HoldLanes 32 l.sums (products_of_high (scalar_of l.self) values (16 - l.turn))
