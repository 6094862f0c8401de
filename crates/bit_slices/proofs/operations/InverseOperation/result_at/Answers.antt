use Rattle.std.proofs.Common.{ℕ, ◌<◌, ◌^◌, sym, subst}
use Rattle.field_base.specs.Field.{IsInverseOrZero}
use Rattle.field_base.specs.Tower.{tower_mul}
use Rattle.bit_slices.proofs.operations.InverseOperation.result_at.Goals as goal

pub returns : goal.returns
returns g c =
    let level = g.R.TowerWord.LEVEL in
    let x = g.W.Reads.number c.args.word in
    subst (λ (y : ℕ). (y < 2 ^ 2 ^ level) × IsInverseOrZero (tower_mul level) x y) (sym c.of_stored.ensures) (
      c.invert.ensures.fits,
      subst (λ (n : ℕ). IsInverseOrZero (tower_mul level) n (g.R.Stored.number c.invert.result)) c.stored.ensures c.invert.ensures.inverse,
    )
