use Rattle.std.proofs.Common.{◌+◌, ◌*◌}
use Rattle.bits_packed.specs.BitMatrices.{IsBlockWritten, bit_entry, entry_within}
use Rattle.bits_packed.proofs.transposes.write_column.Given as goal

-- the blocks before this one are done
abbrev pub invariant-loop-block : goal.invariant-loop-block
invariant-loop-block l =
    IsBlockWritten l.to.rows l.to.words 0 (64 * l.block) l.word
    (λ i b. entry_within l.from.rows (bit_entry l.from.words l.source) (64 * l.word + b) i) l.fn.target l.target
