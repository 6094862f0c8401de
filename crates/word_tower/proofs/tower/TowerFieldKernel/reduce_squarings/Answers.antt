use Rattle.std.proofs.Common.{◌≡◌, ◌+◌, ◌-◌, ◌%◌, ◌/◌, ◌<◌, ◌^◌, ◌∙◌, ap, sym, subst, arith, ℕ}
use Rattle.field_base.specs.Powers.{repeated_square}
use Rattle.field_base.specs.Tower.{tower_mul}
use Rattle.field_base.proofs.TowerFrobenius.{tower_repeated_square-mod_bits}
use Rattle.field_base.proofs.TowerLaws.{squarings_reduced}
use Rattle.word_tower.proofs.Squarings.{squarings_lt}
use Rattle.word_tower.proofs.tower.TowerFieldKernel.reduce_squarings.Goals as goal
use Rattle.word_tower.proofs.tower.TowerFieldKernel.reduce_squarings.Goals.{then-rest-bits, else-rest-bits}

pub square_by_tables-requires-clause-fits : goal.square_by_tables-requires-clause-fits
square_by_tables-requires-clause-fits g c =
    let k = g.L.Level.LEVEL in
    elim c.if-rest-bits.branch [
      | then-rest-bits w ↦ subst (λ (n : ℕ). n < 2 ^ 2 ^ k) (sym (ap (λ e. g.R.Stored.number e.0) w.element-is)) c.requires
      | else-rest-bits w ↦
          subst (λ (n : ℕ). n < 2 ^ 2 ^ k) (sym (ap (λ e. g.R.Stored.number e.0) w.element-is ∙ w.conjugate.ensures))
          (squarings_lt k (2 ^ k / 2) (g.R.Stored.number c.args.x))
    ]

pub returns-clause-squarings : goal.returns-clause-squarings
returns-clause-squarings g c =
    let k = g.L.Level.LEVEL in
    let x = g.R.Stored.number c.args.x in
    let b = c.bits-bits.result in
    let same : c.args.count % b ≡ c.args.count % 2 ^ k = ap (λ (b : ℕ). c.args.count % b) c.bits-bits.ensures in
    let half : b / 2 ≡ 2 ^ k / 2 = ap (λ (b : ℕ). b / 2) c.bits-bits.ensures in
    c.square_by_tables.ensures.squarings
    ∙ elim c.if-rest-bits.branch [
      | then-rest-bits w ↦
          ap (λ e. repeated_square 1 (tower_mul k) e.1 (g.R.Stored.number e.0)) w.element-is
          ∙ ap (λ (n : ℕ). repeated_square 1 (tower_mul k) n x) same ∙ tower_repeated_square-mod_bits k c.args.count x
      | else-rest-bits w ↦
          let whole : c.args.count % b - b / 2 + 2 ^ k / 2 ≡ c.args.count % 2 ^ k = omega (arith, same, half, w.if-rest-bits.false) in
          ap (λ e. repeated_square 1 (tower_mul k) e.1 (g.R.Stored.number e.0)) w.element-is
          ∙ ap (repeated_square 1 (tower_mul k) (c.args.count % b - b / 2)) w.conjugate.ensures
          ∙ squarings_reduced k (c.args.count % b - b / 2) (2 ^ k / 2) c.args.count x whole
    ]
