use Rattle.std.proofs.Common.{◌*◌}
use Rattle.word_tables.specs.Nibbles.{entry_sum}
use Rattle.many_words.proofs.WrittenBytes.{AreWritten}
use Rattle.many_words.proofs.scaled_bytes.write_in_blocks.Given as goal

-- the blocks before this one are written
abbrev pub invariant-loop-block : goal.invariant-loop-block
invariant-loop-block l = AreWritten (entry_sum l.low l.high) (32 * l.block) l.bytes l.fn.products l.products
