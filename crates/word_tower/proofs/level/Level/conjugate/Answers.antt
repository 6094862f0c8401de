use Rattle.std.proofs.Common.{◌≡◌, ◌/◌, ◌^◌, ℕ, ◌∙◌, ap, arith}
use Rattle.field_base.specs.Powers.{repeated_square}
use Rattle.field_base.specs.Tower.{tower_mul}
use Rattle.field_base.proofs.TowerLaws.{squarings_more}
use Rattle.word_tower.proofs.Squarings.{half_of_bits, no_squarings}
use Rattle.word_tower.proofs.level.Level.conjugate.Goals as goal

pub loop-init : goal.loop-init
loop-init g c = no_squarings g.Self.Level.LEVEL (g.R.Stored.number c.args.x) _ c.truncate-conjugate.ensures

pub loop-preserved : goal.loop-preserved
loop-preserved g c =
    squarings_more g.Self.Level.LEVEL c.loop.counter (g.R.Stored.number c.args.x) _ _ c.loop.invariant c.square-conjugate.ensures

pub returns : goal.returns
returns g c =
    let k = g.Self.Level.LEVEL in
    let half = half_of_bits k c.LEVEL.result g.Self.Level.few c.LEVEL.ensures in
    let last : c.loop.counter ≡ 2 ^ k / 2 = omega (arith, half) in
    c.loop.invariant ∙ ap (λ (n : ℕ). repeated_square 1 (tower_mul k) n (g.R.Stored.number c.args.x)) last
