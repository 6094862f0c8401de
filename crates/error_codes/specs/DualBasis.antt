-- The dual basis in which CCSDS 131.0-B sends the symbols of its code, by the matrix of its annex on both representations.
use Rattle.std.specs.Prelude.{ℕ, List, [], ◌∷◌}
use Rattle.field_base.specs.LinearMaps.{linear_image}

-- the image of each bit of a symbol, the lowest first: the rows of the matrix from its last
abbrev pub dual_images : List ℕ
dual_images = 0x7b ∷ 0xaf ∷ 0x99 ∷ 0xfa ∷ 0x86 ∷ 0xec ∷ 0xef ∷ 0x8d ∷ []

-- a symbol as it is sent
abbrev pub dual_byte : ℕ → ℕ
dual_byte symbol = linear_image dual_images symbol
