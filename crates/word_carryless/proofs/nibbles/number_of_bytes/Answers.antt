use Rattle.word_carryless.proofs.NibbleSquares.{number_of}
use Rattle.word_carryless.proofs.nibbles.number_of_bytes.Goals as goal

pub returns : goal.returns
returns c = number_of c.args.bytes c.fits-bytes.0 c.fits-bytes.1
