use Rattle.std.proofs.Common.{◌≡◌, ℕ, ◌%◌, ◌^◌, ◌<◌, sym, ◌∙◌, ap, subst, arith}
use Rattle.field_base.specs.Powers.{repeated_square}
use Rattle.field_base.specs.Tower.{tower_mul}
use Rattle.field_base.proofs.PowerLemmas.{repeated_square-lt}
use Rattle.field_base.proofs.TowerLaws.{squarings_none}
use Rattle.field_base.proofs.TowerRing.{tower_ring}
use Rattle.word_tables.proofs.RepeatedSquares.{bit_clear, bit_set}
use Rattle.word_tables.proofs.frobenius.repeated_square.Goals as goal
use Rattle.word_tables.proofs.frobenius.repeated_square.Goals.{then-count-step-eq1, else-count-step-eq1}

pub loop-step-init : goal.loop-step-init
loop-step-init c =
    let none : c.args.count % 1 ≡ 0 = omega arith in
    sym (ap (λ (n : ℕ). repeated_square 1 (tower_mul c.args.level) n c.args.x) none ∙ squarings_none c.args.level c.args.x c.requires.fits)

pub square_by_table-value-requires-clause-fits : goal.square_by_table-value-requires-clause-fits
square_by_table-value-requires-clause-fits c =
    subst (λ (n : ℕ). n < 2 ^ 2 ^ c.args.level) (sym c.loop-step.invariant)
    (repeated_square-lt (2 ^ c.args.level) 1 (tower_mul c.args.level) (tower_ring c.args.level) (c.args.count % 2 ^ c.loop-step.step) c.args.x)

pub loop-step-preserved : goal.loop-step-preserved
loop-step-preserved c =
    elim c.if-count-step-eq1.branch [
      | then-count-step-eq1 w ↦
          w.value-is
          ∙ bit_set c.args.level c.loop-step.step c.args.count c.args.x c.loop-step.value w.square_by_table-value.result
          (omega (arith, w.if-count-step-eq1.true)) c.loop-step.invariant w.square_by_table-value.ensures
      | else-count-step-eq1 w ↦
          w.value-is
          ∙ bit_clear c.args.level c.loop-step.step c.args.count c.args.x c.loop-step.value
          (λ set. w.if-count-step-eq1.false set) c.loop-step.invariant
    ]
