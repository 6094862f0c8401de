use Rattle.std.proofs.Common.{ℕ, ◌-◌}
use Rattle.ghash_slices.specs.Blocks.{HoldBytes, HoldLanes}
use Rattle.ghash_slices.specs.Multiples.{scalar_of}
use Rattle.ghash_slices.proofs.HornerProducts.{products_of_high}
use Rattle.ghash_slices.proofs.multiples.Multiples.products.Given as goal

-- the sums are the products of what the bytes before are of the values
abbrev pub invariant-loop-turn : goal.invariant-loop-turn
invariant-loop-turn l =
    (values : ℕ → ℕ) → HoldBytes l.bytes values → HoldLanes 16 l.sums (products_of_high (scalar_of l.self) values (16 - l.turn))
