use Rattle.std.proofs.Common.{get_or, refl}
use Rattle.word_tables.proofs.Lookups.{low_in_table, low_looked_up, repeats_once}
use Rattle.word_tables.proofs.register_tables.U8x16ByteVector.low_entries.Goals as goal

pub swizzle : goal.swizzle
swizzle c = low_in_table 1 16 c.args.self refl c.fits-self.0

pub returns : goal.returns
returns c =
    low_looked_up 1 16 c.args.table (λ n. get_or c.args.table n 0) c.args.self refl (repeats_once c.args.table c.fits-table.0) c.fits-self.0
