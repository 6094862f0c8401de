use Rattle.std.proofs.Common.{◌+◌, ◌-◌, length, refl, arith}
use Rattle.reed_solomon.proofs.AddedRows.{added_part}
use Rattle.reed_solomon.proofs.products.add_products.Goals as goal

pub returns-clause-added : goal.returns-clause-added
returns-clause-added g c =
    let sums = c.args.sums.now in
    added_part g.R.Stored.number g.R.Stored.ZERO g.L.Level.LEVEL (g.R.Stored.number c.args.factor) c.args.from
    (c.args.from + length sums - c.args.from) (length sums) _ c.args.words.now sums c.add_row.new.sums refl (omega arith) c.add_row.ensures.added
