-- The Cantor vectors of a level are those of its field.
use Rattle.std.specs.Prelude.{ℕ, ◌^◌, ◌≤◌}
use Rattle.field_base.specs.Orders.{AreCantorVectors}
use Rattle.field_base.specs.Tower.{tower_mul}
use Rattle.word_tables.specs.Cantor.{cantor_vector}
use Rattle.word_tables.proofs.LevelLaws.{level_cantor}

pub level_vectors : (k : ℕ) → k ≤ 7 → AreCantorVectors (2 ^ k) (tower_mul k) cantor_vector
level_vectors k few =
    let vectors = level_cantor k few in
    record {
      first = vectors.first;
      rule = vectors.rule;
    }
