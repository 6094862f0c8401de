use Rattle.std.proofs.Common.{◌∙◌}
use Rattle.word_tables.proofs.Isomorphisms.{change_64}
use Rattle.word_tables.proofs.basis.by_bytes.to_polynomial_64.Goals as goal

pub returns : goal.returns
returns c = c.sum_of_entries_64.ensures ∙ change_64.image c.args.x
