use Rattle.std.proofs.Common.{◌<◌, ◌^◌, ℕ, sym, subst}
use Rattle.word_tables.proofs.LevelLaws.{kept_in_word, level_cantor}
use Rattle.word_tower.proofs.tower.TowerLevelKernel.cantor_vector.Goals as goal

pub returns-clause-vector : goal.returns-clause-vector
returns-clause-vector g c =
    let k = g.L.Level.LEVEL in
    kept_in_word k g.R.Stored.bits _ _ _ c.of_u128.ensures c.cantor_vector.ensures
    ((level_cantor k g.L.Level.few).below c.args.i c.requires) g.met.L.Level.room_law

pub returns-clause-fits : goal.returns-clause-fits
returns-clause-fits g c =
    subst (λ (v : ℕ). v < 2 ^ 2 ^ g.L.Level.LEVEL) (sym (returns-clause-vector g c))
    ((level_cantor g.L.Level.LEVEL g.L.Level.few).below c.args.i c.requires)
