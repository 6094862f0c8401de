use Rattle.std.proofs.Common.{ℕ, ◌∙◌, ap, arith}
use Rattle.field_base.specs.Tower.{tower_mul}
use Rattle.word_tables.proofs.SquareTables.{roots_16}
use Rattle.word_tables.proofs.tables.by_bytes.sqrt_16.Goals as goal

pub returns : goal.returns
returns c = ap (λ (y : ℕ). tower_mul 4 y y) c.sum_of_entries_16.ensures ∙ roots_16 c.args.x (omega arith)
