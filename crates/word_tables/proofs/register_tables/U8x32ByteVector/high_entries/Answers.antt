use Rattle.std.proofs.Common.{get_or, refl}
use Rattle.word_tables.proofs.Lookups.{high_in_table, high_looked_up, repeats_twice}
use Rattle.word_tables.proofs.register_tables.U8x32ByteVector.high_entries.Goals as goal

pub swizzle : goal.swizzle
swizzle c = high_in_table 2 32 c.args.self refl c.fits-self.0 c.fits-self.1

pub returns : goal.returns
returns c =
    high_looked_up 2 32 c.joined.result (λ n. get_or c.args.table n 0) c.args.self refl
    (repeats_twice c.args.table c.joined.result c.fits-table.0 c.joined.ensures) c.fits-self.0 c.fits-self.1
