use Rattle.std.proofs.Common.{ℕ, ◌<◌, subst}
use Rattle.additive_transforms.specs.Words.{level_element}
use Rattle.reed_solomon.specs.Columns.{HoldWordValues}
use Rattle.reed_solomon.proofs.transforms.forward_strip.Goals as goal

pub returns-clause-values : goal.returns-clause-values
returns-clause-values g c =
    let level = g.L.Level.LEVEL in
    subst (λ (number : _ → ℕ). (k : ℕ) → k < c.args.columns
    → HoldWordValues (level_element number level) level (g.R.Stored.number c.args.z) c.args.columns k c.args.words.now c.forward_level_columns.new.words)
    g.met.R.StoredBytes.number_law c.forward_level_columns.ensures.values
