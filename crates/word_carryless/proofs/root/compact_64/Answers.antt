use Rattle.std.proofs.Common.{arith}
use Rattle.word_carryless.proofs.Compacting.{compact_word}
use Rattle.word_carryless.proofs.root.compact_64.Goals as goal

pub returns : goal.returns
returns c =
    compact_word c.args.x c.join_fields-pairs.result c.join_fields-nibbles.result c.join_fields-bytes.result
    c.join_fields-halves.result (omega arith) c.join_fields-pairs.ensures c.join_fields-nibbles.ensures
    c.join_fields-bytes.ensures c.join_fields-halves.ensures
