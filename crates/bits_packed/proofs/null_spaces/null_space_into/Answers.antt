use Rattle.field_base.specs.lemmas.BitRing.{bits_ring}
use Rattle.field_slices.proofs.NullSpaces.{rank-columns}
use Rattle.bits_packed.proofs.null_spaces.null_space_into.Goals as goal

pub overflow_sub-shape : goal.overflow_sub-shape
overflow_sub-shape c = rank-columns bits_ring c.requires.reduced
