use Rattle.std.proofs.Common.{◌+◌, ◌*◌}
use Rattle.field_slices.proofs.BothLists.{BothWritten}
use Rattle.any_field.specs.Contexts.{field_product}
use Rattle.any_field.proofs.extension.BinaryExtension.multiply_words.Given as goal

-- the blocks before this one are done
abbrev pub invariant-loop-block : goal.invariant-loop-block
invariant-loop-block g l = BothWritten g.W.Reads.number (field_product l.fn.self.degree l.fn.self.tail) l.fn.words l.others l.words (32 * l.block)

-- and the places of this one before its lane
abbrev pub invariant-loop-lane : goal.invariant-loop-lane
invariant-loop-lane g l = BothWritten g.W.Reads.number (field_product l.fn.self.degree l.fn.self.tail) l.fn.words l.others l.words (l.start + l.lane)

-- the places before this one are done
abbrev pub invariant-loop-place : goal.invariant-loop-place
invariant-loop-place g l = BothWritten g.W.Reads.number (field_product l.fn.self.degree l.fn.self.tail) l.fn.words l.others l.words l.place
