use Rattle.std.proofs.Common.{ℕ, ◌%◌, ◌^◌, sym, ap}
use Rattle.field_base.specs.Tower.{tower_mul}
use Rattle.additive_transforms.proofs.LevelProducts.{same_pair}
use Rattle.additive_transforms.proofs.level_pairs.run_pair.Goals as goal

pub returns : goal.returns
returns g c s is =
    let k = g.S.Multiplies.level in
    same_pair (g.S.Multiplies.inverse c.args.scalar.now) (tower_mul k) s _ _ _ _ _ _ _ _ (ap (λ (y : ℕ). y % 2 ^ 2 ^ k) c.stored.ensures)
    (ap (λ (y : ℕ). y % 2 ^ 2 ^ k) c.stored-2.ensures) (sym (ap (λ (y : ℕ). y % 2 ^ 2 ^ k) c.of_stored.ensures))
    (sym (ap (λ (y : ℕ). y % 2 ^ 2 ^ k) c.of_stored-2.ensures)) (c.pair-low.ensures s is)
