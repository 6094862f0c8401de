use Rattle.std.proofs.lemmas.Nat.{xor_lt}
use Rattle.std.proofs.Common.{◌^◌}
use Rattle.field_base.proofs.TowerProducts.{level-lt, tower_mul-low}
use Rattle.field_base.proofs.laws.levels_lie_inside.Goals as goal

pub returns : goal.returns
returns c =
    record {
      fits = level-lt;
      sum_fits = λ k a b a_fits b_fits. xor_lt (2 ^ k) a b a_fits b_fits;
      product = tower_mul-low;
    }
