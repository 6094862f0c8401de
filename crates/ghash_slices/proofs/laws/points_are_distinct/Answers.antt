use Rattle.std.proofs.Common.{lit<}
use Rattle.field_base.proofs.RemainderRing.{ghash_ring}
use Rattle.ghash_slices.specs.LowStages.{ghash_cantor_vector, ghash_product}
use Rattle.ghash_slices.proofs.CantorValues.{points_are_distinct}
use Rattle.ghash_slices.proofs.GhashVectors.{ghash_vectors}
use Rattle.ghash_slices.proofs.laws.points_are_distinct.Goals as goal

pub returns-clause-any : goal.returns-clause-any
returns-clause-any c = points_are_distinct

pub returns-clause-ghash : goal.returns-clause-ghash
returns-clause-ghash c = points_are_distinct 128 ghash_product ghash_cantor_vector (lit< tt) ghash_ring ghash_vectors
