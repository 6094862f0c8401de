use Rattle.word_tower.proofs.Halves.{product_lt, product_of_zero}
use Rattle.word_tower.proofs.level.Level.divide_both.Goals as goal

pub returns-clause-first_fits : goal.returns-clause-first_fits
returns-clause-first_fits g c = product_lt g.Self.Level.LEVEL _ _ _ c.multiply.ensures

pub returns-clause-second_fits : goal.returns-clause-second_fits
returns-clause-second_fits g c = product_lt g.Self.Level.LEVEL _ _ _ c.multiply-2.ensures

pub returns-clause-first_zero : goal.returns-clause-first_zero
returns-clause-first_zero g c none = product_of_zero g.Self.Level.LEVEL _ _ _ c.multiply.ensures none

pub returns-clause-second_zero : goal.returns-clause-second_zero
returns-clause-second_zero g c none = product_of_zero g.Self.Level.LEVEL _ _ _ c.multiply-2.ensures none
