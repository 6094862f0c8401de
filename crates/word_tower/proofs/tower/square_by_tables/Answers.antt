use Rattle.word_tower.proofs.Squarings.{squared_in_word}
use Rattle.word_tower.proofs.tower.square_by_tables.Goals as goal

pub returns-else-LEVEL-lt2-clause-fits : goal.returns-else-LEVEL-lt2-clause-fits
returns-else-LEVEL-lt2-clause-fits g c =
    (squared_in_word g.L.Level.LEVEL _ c.args.count _ _ _ _ _ g.met.L.Level.room_law c.LEVEL-else-LEVEL-lt2.ensures
    c.to_u128.ensures c.repeated_square.ensures c.of_u128.ensures).fits

pub returns-else-LEVEL-lt2-clause-squarings : goal.returns-else-LEVEL-lt2-clause-squarings
returns-else-LEVEL-lt2-clause-squarings g c =
    (squared_in_word g.L.Level.LEVEL _ c.args.count _ _ _ _ _ g.met.L.Level.room_law c.LEVEL-else-LEVEL-lt2.ensures
    c.to_u128.ensures c.repeated_square.ensures c.of_u128.ensures).squarings
