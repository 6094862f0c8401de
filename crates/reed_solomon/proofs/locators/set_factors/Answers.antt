use Rattle.std.proofs.Common.{◌∙◌}
use Rattle.reed_solomon.proofs.BlockLocators.{factors_of_locator}
use Rattle.reed_solomon.proofs.locators.set_factors.Goals as goal

pub returns-clause-factors : goal.returns-clause-factors
returns-clause-factors g c =
    let code = c.args.code.now in
    factors_of_locator g.L.Level.LEVEL code.data_shards code.levels code.parity_shards c.args.present.now g.R.Stored.number g.R.Stored.ZERO
    code.all_levels g.L.Level.few c.requires.points c.requires.enough c.set_all_locator.new.values c.set_slopes.new.slopes c.invert_lost.new.words
    (c.set_all_locator.ensures.long ∙ c.requires.long) c.set_all_locator.ensures.locator c.set_slopes.ensures.slopes c.invert_lost.ensures.inverses
