use Rattle.std.proofs.Common.{◌≡◌, [], ◌∷◌, ◌/◌, ◌%◌, ◌^◌, ap₂, arith, ℕ}
use Rattle.ghash_slices.proofs.scalar_products.lanes_of.Goals as goal

pub returns : goal.returns
returns c =
    let low : c.split_128-low.result.0 ≡ c.args.number % 2 ^ 64 = omega (arith, c.split_128-low.ensures) in
    let high : c.split_128-low.result.1 ≡ c.args.number / 2 ^ 64 = omega (arith, c.split_128-low.ensures) in
    ap₂ (λ (x y : ℕ). x ∷ y ∷ []) low high
