use Rattle.std.proofs.Common.{sym}
use Rattle.field_base.proofs.TowerFrobenius.{tower_repeated_square-half}
use Rattle.field_base.proofs.TowerInverse.{tower_mul-conjugate, tower_norm-lt, tower_norm-zero}
use Rattle.field_base.proofs.laws.norms_and_conjugates.Goals as goal

pub returns : goal.returns
returns c =
    record {
      norm_is_product = tower_mul-conjugate;
      conjugate_is_squarings = λ k a. sym (tower_repeated_square-half k a);
      norm_below = tower_norm-lt;
      norm_of_nonzero = λ k a fits nonzero none. nonzero (tower_norm-zero k a fits none);
    }
