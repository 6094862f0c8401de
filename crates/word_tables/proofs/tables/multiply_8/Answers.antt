-- Where an operand is 0 so is the product; else its logarithm is the sum of theirs.
use Rattle.std.proofs.Common.{ℕ, ◌+◌, inl, inr, sym, ◌∙◌, ap, ap₂, arith}
use Rattle.std.specs.Prelude.{slice_index}
use Rattle.field_base.specs.Tower.{tower_mul}
use Rattle.word_tables.specs.declared.tables.literals.TheConstants.{EXP}
use Rattle.word_tables.proofs.ByteTables.{product_of_logarithms, tower_mul_8-zero, tower_mul_8-zero_left}
use Rattle.word_tables.proofs.tables.multiply_8.Goals as goal

pub returns-then-b-eq0 : goal.returns-then-b-eq0
returns-then-b-eq0 c =
    elim c.if-b-eq0.either [
      | inl e ↦ sym (ap (λ (x : ℕ). tower_mul 3 x c.args.b) e ∙ tower_mul_8-zero_left c.args.b)
      | inr e ↦ sym (ap (tower_mul 3 c.args.a) e.1 ∙ tower_mul_8-zero c.args.a)
    ]

pub returns-else-b-eq0 : goal.returns-else-b-eq0
returns-else-b-eq0 c =
    c.power_entry-product.ensures
    ∙ ap₂ (λ (x y : ℕ). slice_index EXP (x + y)) c.entry.ensures c.entry-2.ensures
    ∙ product_of_logarithms c.args.a c.args.b (omega arith) (omega arith) c.if-b-eq0.false.0 c.if-b-eq0.false.1
