-- The generators of the tower's levels of up to 16 bits: elements whose powers are all nonzero elements.
use Rattle.std.specs.Prelude.{ℕ, ◌^◌, ◌≤◌}
use Rattle.field_base.specs.Orders.{HasFullOrder}
use Rattle.field_base.specs.Tower.{tower_mul}
use Rattle.field_base.specs.TowerBasis.{tower_generator}

-- they have the full order
abbrev pub GeneratorsHaveFullOrder : Type 0
GeneratorsHaveFullOrder = (k : ℕ) → k ≤ 4 → HasFullOrder (2 ^ k) (tower_mul k) (tower_generator k)
