use Rattle.std.proofs.Common.{◌+◌, ap}
use Rattle.std.specs.Prelude.{bit_xor, slice_index}
use Rattle.bits_packed.proofs.WordRanges.{range_same}
use Rattle.bits_packed.proofs.rows.add_few.Goals as goal

pub returns : goal.returns
returns c =
    let old = c.args.words.now in
    range_same (λ p inside. ap (bit_xor (slice_index old (c.args.to + p))) (c.words_from-sums.ensures p inside)) c.add_words.ensures
