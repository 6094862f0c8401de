use Rattle.std.proofs.Common.{◌∙◌, ap₂}
use Rattle.field_base.specs.Tower.{tower_mul}
use Rattle.bit_slices.proofs.operations.ProductOperation.result_at.Goals as goal

pub returns : goal.returns
returns g c d =
    c.of_stored.ensures ∙ c.multiply.ensures ∙ ap₂ (tower_mul g.R.TowerWord.LEVEL) c.stored.ensures (c.other_at.ensures d)
