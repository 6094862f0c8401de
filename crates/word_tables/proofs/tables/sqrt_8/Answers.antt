use Rattle.std.proofs.Common.{◌∙◌, ap, ℕ, arith}
use Rattle.field_base.specs.Tower.{tower_mul}
use Rattle.word_tables.proofs.ByteTables.{roots_at}
use Rattle.word_tables.proofs.tables.sqrt_8.Goals as goal

pub returns : goal.returns
returns c = ap (λ (x : ℕ). tower_mul 3 x x) c.entry.ensures ∙ roots_at c.args.a (omega arith)
