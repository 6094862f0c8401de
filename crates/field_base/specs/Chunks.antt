-- Positional notation in base 2 ^ width: a number and the list of its digits, which are chunks of `width` bits, the lowest first. So
-- an element of an extension of a ring of w-bit elements has its coefficients, a packing its lanes, and a word its bytes.
use Rattle.std.specs.Prelude.{ℕ, zero, suc, ◌+◌, ◌*◌, ◌/◌, ◌%◌, ◌^◌, List, [], ◌∷◌, ◌++◌}

-- digit i: bits `width * i` to `width * i + width - 1` of the number
abbrev pub chunk : ℕ → ℕ → ℕ → ℕ
chunk width i a = a / 2 ^ (width * i) % 2 ^ width

-- the first n digits, the lowest first
unfoldable pub chunks : ℕ → ℕ → ℕ → List ℕ
chunks width zero a = []
chunks width (suc n) a = chunks width n a ++ chunk width n a ∷ []

-- the number of a list of digits, the lowest first
unfoldable pub joined : ℕ → List ℕ → ℕ
joined width [] = 0
joined width (x ∷ xs) = joined width xs * 2 ^ width + x
