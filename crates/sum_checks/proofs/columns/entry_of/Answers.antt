use Rattle.std.proofs.Common.{sym}
use Rattle.field_base.proofs.Places.{number-at}
use Rattle.sum_checks.proofs.columns.entry_of.Goals as goal

pub returns : goal.returns
returns g c = sym (number-at g.F.Represented.repr c.args.rows.now _ c.index-rows-row.result c.requires c.index-rows-row.is)
