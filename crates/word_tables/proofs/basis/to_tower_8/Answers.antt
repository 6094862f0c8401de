use Rattle.std.proofs.Common.{arith}
use Rattle.word_tables.proofs.Isomorphisms.{change_8}
use Rattle.word_tables.proofs.TabledMaps.{one_entry}
use Rattle.word_tables.specs.declared.literals.to_tower.TheConstants.{TO_TOWER_8}
use Rattle.word_tables.proofs.basis.to_tower_8.Goals as goal

pub returns-clause-image : goal.returns-clause-image
returns-clause-image c = change_8.element c.args.x _ (omega arith) (one_entry TO_TOWER_8 c.args.x (omega arith))

pub returns-clause-only : goal.returns-clause-only
returns-clause-only c = change_8.only c.args.x _ (omega arith) (omega arith) (one_entry TO_TOWER_8 c.args.x (omega arith))
