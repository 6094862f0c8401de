use Rattle.std.proofs.Common.{◌≡◌, ℕ, ◌*◌, ◌<◌, length, get_or}
use Rattle.ghash_slices.specs.LowStages.{ghash_product}
use Rattle.ghash_slices.proofs.multiples.multiples_of.Given as goal

-- the places before hold their multiples
abbrev pub invariant-loop-half : goal.invariant-loop-half
invariant-loop-half l =
    (length l.products ≡ 16) × ((n : ℕ) → n < 2 * l.half → get_or l.products n 0 ≡ ghash_product l.fn.scalar n)
