use Rattle.std.proofs.Common.{ℕ, ◌<◌, subst}
use Rattle.additive_transforms.specs.Words.{level_element}
use Rattle.reed_solomon.specs.Columns.{AreWordCoefficients}
use Rattle.reed_solomon.proofs.transforms.inverse_strip.Goals as goal

pub returns-clause-coefficients : goal.returns-clause-coefficients
returns-clause-coefficients g c =
    let level = g.L.Level.LEVEL in
    subst (λ (number : _ → ℕ). (k : ℕ) → k < c.args.columns
    → AreWordCoefficients (level_element number level) level (g.R.Stored.number c.args.z) c.args.columns k c.args.words.now
    c.inverse_level_columns.new.words)
    g.met.R.StoredBytes.number_law c.inverse_level_columns.ensures.coefficients
