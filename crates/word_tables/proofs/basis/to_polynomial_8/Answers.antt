use Rattle.std.proofs.Common.{◌∙◌, arith}
use Rattle.word_tables.proofs.Isomorphisms.{change_8}
use Rattle.word_tables.proofs.TabledMaps.{one_entry}
use Rattle.word_tables.specs.declared.literals.to_polynomial.TheConstants.{TO_POLYNOMIAL_8}
use Rattle.word_tables.proofs.basis.to_polynomial_8.Goals as goal

pub returns : goal.returns
returns c = one_entry TO_POLYNOMIAL_8 c.args.x (omega arith) ∙ change_8.image c.args.x
