use Rattle.std.proofs.Common.{◌≡◌, drop}
use Rattle.std.specs.Prelude.{bit_xor}
use Rattle.field_base.specs.LinearMaps.{linear_image}
use Rattle.word_tables.proofs.images.sum_of_images.Given as goal

-- the images before the index are in the sum, and the bits that are left belong to those from it on
abbrev pub invariant-loop-image : goal.invariant-loop-image
invariant-loop-image l =
    bit_xor l.sum (linear_image (drop l.image-index l.images) l.rest) ≡ linear_image l.images l.fn.x
