use Rattle.std.proofs.Common.{sym}
use Rattle.bits_packed.proofs.WordRanges.{range_end}
use Rattle.bits_packed.proofs.tables.add_strip.Goals as goal

pub returns-then-count-eq8 : goal.returns-then-count-eq8
returns-then-count-eq8 c =
    range_end c.add_words.ensures c.args.count (sym c.if-count-eq8.true)
