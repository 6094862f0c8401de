-- Values of the tower's definitions in small fields, computed.
use Rattle.std.proofs.Common.{◌≡◌, map, [], ◌∷◌, refl}
use Rattle.field_base.specs.Quadratic.{quadratic}
use Rattle.field_base.specs.Tower.{root, tower_mul}
use Rattle.field_base.specs.Powers.{power, repeated_square, sum_of_squarings}
use Rattle.field_base.specs.TowerField.{trace, root_inverse}
use Rattle.field_base.proofs.TowerInverse.{tower_inverse}
use Rattle.field_base.proofs.TowerSqrt.{tower_sqrt}

-- the square of the root of 8 bits is t X + 1, where t is the root of 4 bits
root_8-square : tower_mul 3 0x10 0x10 ≡ 0x41
unfolding tower_mul quadratic root
root_8-square = refl

-- the traces of the elements of the field of four elements, and of the roots of 8 and 16 bits
traces_of_four : map (trace 1) (0 ∷ 1 ∷ 2 ∷ 3 ∷ []) ≡ 0 ∷ 0 ∷ 1 ∷ 1 ∷ []
unfolding tower_mul quadratic root repeated_square sum_of_squarings
traces_of_four = refl

-- at level 4 the trace of the root of level 3 is 0, and that of the root of level 4 is 1
traces_of_roots : map (trace 4) (0x10 ∷ 0x100 ∷ []) ≡ 0 ∷ 1 ∷ []
unfolding tower_mul quadratic root repeated_square sum_of_squarings
traces_of_roots = refl

-- the inverses of the elements of the field of four elements, and one of 8 bits
inverses_of_four : map (tower_inverse 1) (0 ∷ 1 ∷ 2 ∷ 3 ∷ []) ≡ 0 ∷ 1 ∷ 3 ∷ 2 ∷ []
unfolding tower_mul quadratic root tower_inverse
inverses_of_four = refl

-- the inverse of the root of level 3 is the root and the root of level 2
inverse_of_root_8 : tower_inverse 3 0x10 ≡ 0x14
unfolding tower_mul quadratic root tower_inverse
inverse_of_root_8 = refl

-- the root of the square of an element, and the order of a multiplicative group
sqrt_of_square : tower_sqrt 3 (tower_mul 3 0xb7 0xb7) ≡ 0xb7
unfolding tower_mul quadratic root root_inverse tower_sqrt
sqrt_of_square = refl

-- at level 2 the 15th power of an element is 1
units_of_16 : power 1 (tower_mul 2) 7 15 ≡ 1
unfolding tower_mul quadratic root power
units_of_16 = refl
