-- The level of 128 bits of the tower as the field of GHASH, and numbers that change their basis.
use Rattle.std.specs.Prelude.{◌≢◌, ℕ, ◌^◌, ◌<◌, Bool, cond}
use Rattle.field_base.specs.Basis.{basis_image, ghash_images}
use Rattle.field_base.specs.Remainder.{ghash_modulus}

-- the polynomial that is the image of an element, by the isomorphism of both fields
abbrev pub tower_image : ℕ → ℕ
tower_image a = basis_image 128 ghash_modulus ghash_images a

-- a shift that is the image of no element of at most 32 bits, so that the twiddles from there on may be wider
abbrev pub IsWideShift : ℕ → Type 0
IsWideShift z = (a : ℕ) → a < 2 ^ 32 → tower_image a ≢ z

-- what a number stands for after the change to the tower: the image of an element; or after the change back: itself
abbrev pub after_change : Bool → ℕ → ℕ
after_change back n = cond back n (tower_image n)

-- and what it stands for before the change: itself, or before the change back the image of the element that it is
abbrev pub before_change : Bool → ℕ → ℕ
before_change back n = cond back (tower_image n) n
