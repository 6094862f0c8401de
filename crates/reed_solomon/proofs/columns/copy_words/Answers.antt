use Rattle.std.proofs.Common.{arith}
use Rattle.reed_solomon.proofs.ColumnPlaces.{part_copied}
use Rattle.reed_solomon.proofs.columns.copy_words.Goals as goal

pub returns-clause-put : goal.returns-clause-put
returns-clause-put g c =
    part_copied _ g.R.Stored.ZERO c.args.place c.args.from c.args.count _ _ c.args.target.now c.args.source.now c.copy_from_slice.new.self (omega arith)
    (omega arith) c.requires.room c.requires.enough c.copy_from_slice.ensures.after
