-- The number of a pair of halves fits the next level.
use Rattle.std.specs.Prelude.{ℕ, suc, ◌^◌, ◌<◌}
use Rattle.field_base.proofs.TowerRing.{halves-lt}
use Rattle.additive_transforms.specs.Halves.{lane_of_halves}
use Rattle.additive_transforms.specs.Rows.{level_of}
use Rattle.additive_transforms.specs.declared.pair.Pair.{Pair}

pub lane_fits : {P : Type 0} (d : ℕ) (lane : P → ℕ → ℕ) → ((x : P) (l : ℕ) → lane x l < 2 ^ 2 ^ level_of d) → (x : Pair P) (l : ℕ)
    → lane_of_halves d lane x l < 2 ^ 2 ^ level_of (suc d)
unfolding lane_of_halves
lane_fits d lane fits x l = halves-lt (level_of d) (lane x.low l) (lane x.high l) (fits x.low l) (fits x.high l)
