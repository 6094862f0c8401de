-- Images of the 128-bit level of the tower in the field of GHASH, alone and in four lanes.
use Rattle.std.specs.Prelude.{ℕ, replicate}
use Rattle.field_base.specs.Basis.{basis_image, ghash_images}
use Rattle.field_base.specs.Chunks.{joined}
use Rattle.field_base.specs.Remainder.{ghash_modulus}

-- the image of an element of the 128-bit level in the field of GHASH, by the change of basis
abbrev pub ghash_image : ℕ → ℕ
ghash_image a = basis_image 128 ghash_modulus ghash_images a

-- the number of four lanes that each hold the image
abbrev pub ghash_image_lanes : ℕ → ℕ
ghash_image_lanes a = joined 128 (replicate 4 (ghash_image a))
