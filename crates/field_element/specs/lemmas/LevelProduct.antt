-- Products in two levels of the tower. It stands here since implementations of a trait cite it.
use Rattle.std.proofs.Common.{◌≡◌, ℕ, ◌+◌, ◌-◌, ◌^◌, ◌<◌, ◌≤◌, sym, ◌∙◌, ap, arith}
use Rattle.field_base.specs.Tower.{tower_mul}
use Rattle.field_base.proofs.TowerProducts.{tower_mul-low}

-- elements of a level have the same product in a level above it
pub product_inside : (j k : ℕ) → j ≤ k → (a b : ℕ) → a < 2 ^ 2 ^ j → b < 2 ^ 2 ^ j → tower_mul j a b ≡ tower_mul k a b
product_inside j k inside a b a_fits b_fits =
    let level : k - j + j ≡ k = omega (arith, inside) in
    sym (tower_mul-low (k - j) j a b a_fits b_fits) ∙ ap (λ (x : ℕ). tower_mul x a b) level
