use Rattle.std.proofs.Common.{◌∙◌}
use Rattle.word_tables.proofs.Isomorphisms.{change_128}
use Rattle.word_tables.proofs.basis.by_bytes.to_polynomial_128.Goals as goal

pub returns : goal.returns
returns c = c.sum_of_entries_128.ensures ∙ change_128.image c.args.x
