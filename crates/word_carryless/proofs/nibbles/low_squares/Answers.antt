use Rattle.std.proofs.Common.{◌∙◌}
use Rattle.word_carryless.proofs.NibbleSquares.{low_entries}
use Rattle.word_carryless.proofs.nibbles.low_squares.Goals as goal

pub returns : goal.returns
returns c = c.low_entries.ensures ∙ low_entries c.args.bytes
