use Rattle.std.proofs.Common.{arith}
use Rattle.word_tables.proofs.Isomorphisms.{change_64}
use Rattle.word_tables.proofs.basis.by_bytes.to_tower_64.Goals as goal

pub returns-clause-image : goal.returns-clause-image
returns-clause-image c = change_64.element c.args.x _ (omega arith) c.sum_of_entries_64.ensures

pub returns-clause-only : goal.returns-clause-only
returns-clause-only c = change_64.only c.args.x _ (omega arith) (omega arith) c.sum_of_entries_64.ensures
