use Rattle.std.proofs.Common.{arith}
use Rattle.tags.proofs.Swapping.{swapped_word}
use Rattle.tags.proofs.reversal.reversed_bits.Goals as goal

pub returns : goal.returns
returns c =
    swapped_word c.args.x c.swap_fields-pairs.result c.swap_fields-nibbles.result c.swap_fields-bytes.result
    c.swap_fields-words.result c.swap_fields-halves.result c.swap_fields-wholes.result c.swap_fields.result (omega arith)
    c.swap_fields-pairs.ensures c.swap_fields-nibbles.ensures c.swap_fields-bytes.ensures c.swap_fields-words.ensures
    c.swap_fields-halves.ensures c.swap_fields-wholes.ensures c.swap_fields.ensures
