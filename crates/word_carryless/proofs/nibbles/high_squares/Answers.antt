use Rattle.std.proofs.Common.{◌∙◌}
use Rattle.word_carryless.proofs.NibbleSquares.{high_entries}
use Rattle.word_carryless.proofs.nibbles.high_squares.Goals as goal

pub returns : goal.returns
returns c = c.high_entries.ensures ∙ high_entries c.args.bytes c.fits-bytes.1
