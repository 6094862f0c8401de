-- Additive maps over the field of two elements, on numbers read as sets of bits: each is the linear map of its images of 1, 2,
-- 4, 8, ..
use Rattle.std.specs.Prelude.{◌≡◌, ℕ, ◌^◌, ◌<◌, List, length, bit_xor, slice_index}
use Rattle.field_base.specs.LinearMaps.{linear_image}

-- f takes sums to sums
abbrev pub IsAdditive : (ℕ → ℕ) → Type 0
IsAdditive f = (a b : ℕ) → f (bit_xor a b) ≡ bit_xor (f a) (f b)

-- two additive maps that agree at the powers of two below 2 ^ width agree at every number below it
abbrev pub AgreeAtPowers : Type 0
AgreeAtPowers =
    (f g : ℕ → ℕ) → IsAdditive f → IsAdditive g
    → (width : ℕ) → ((j : ℕ) → j < width → f (2 ^ j) ≡ g (2 ^ j)) → (x : ℕ) → x < 2 ^ width → f x ≡ g x

-- an additive map is applied by its columns, the images of 1, 2, 4, ..
abbrev pub ColumnsGiveTheMap : Type 0
ColumnsGiveTheMap =
    (f : ℕ → ℕ) → IsAdditive f → (columns : List ℕ)
    → ((j : ℕ) → j < length columns → slice_index columns j ≡ f (2 ^ j))
    → (x : ℕ) → x < 2 ^ length columns → linear_image columns x ≡ f x
