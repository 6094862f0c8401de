-- A matrix of 8 by 8 bits as its images: image b is what it makes of bit b.
use Rattle.std.specs.Prelude.{ℕ, List}
use Rattle.word_tables.specs.declared.matrix.ByteMatrix.{ByteMatrix}

-- the images, that of bit 0 first
abbrev pub images_of : ByteMatrix → List ℕ
images_of matrix = matrix.images
