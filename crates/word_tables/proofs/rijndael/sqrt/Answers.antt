use Rattle.std.proofs.Common.{ℕ, ◌∙◌, ap, arith}
use Rattle.field_base.specs.Remainder.{aes_modulus, mul_mod}
use Rattle.word_tables.proofs.RijndaelTables.{roots_at}
use Rattle.word_tables.proofs.rijndael.sqrt.Goals as goal

pub returns : goal.returns
returns c = ap (λ (x : ℕ). mul_mod 8 aes_modulus x x) c.entry.ensures ∙ roots_at c.args.a (omega arith)
