use Rattle.std.proofs.Common.{◌*◌}
use Rattle.word_tables.specs.Nibbles.{entry_sum}
use Rattle.many_words.proofs.ByteSums.{AreAdded}
use Rattle.many_words.proofs.scaled_bytes.add_in_blocks.Given as goal

-- the products of the blocks before this one are added
abbrev pub invariant-loop-block : goal.invariant-loop-block
invariant-loop-block l = AreAdded (entry_sum l.low l.high) (32 * l.block) l.bytes l.fn.sums l.sums
