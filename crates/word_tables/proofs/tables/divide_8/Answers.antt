-- Of 0 the quotient is 0; else its logarithm is the difference of theirs.
use Rattle.std.proofs.Common.{ℕ, ◌+◌, ◌-◌, sym, ◌∙◌, ap, ap₂, arith}
use Rattle.std.specs.Prelude.{slice_index}
use Rattle.field_base.specs.Tower.{tower_mul}
use Rattle.word_tables.specs.declared.tables.literals.TheConstants.{EXP}
use Rattle.word_tables.proofs.ByteTables.{quotient_of_logarithms, tower_mul_8-zero}
use Rattle.word_tables.proofs.tables.divide_8.Goals as goal

pub returns-then-a-eq0-clause-quotient : goal.returns-then-a-eq0-clause-quotient
returns-then-a-eq0-clause-quotient c nonzero = tower_mul_8-zero c.args.divisor ∙ sym c.if-a-eq0.true

pub returns-else-a-eq0-clause-quotient : goal.returns-else-a-eq0-clause-quotient
returns-else-a-eq0-clause-quotient c nonzero =
    ap (tower_mul 3 c.args.divisor)
    (c.power_entry-quotient.ensures
    ∙ ap₂ (λ (x y : ℕ). slice_index EXP (x + (255 - y))) c.entry.ensures c.entry-2.ensures)
    ∙ quotient_of_logarithms c.args.a c.args.divisor (omega arith) (omega arith) c.if-a-eq0.false nonzero
