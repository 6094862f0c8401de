-- What is true of the definitions of Tags.antt.
use Rattle.std.specs.Prelude.{◌≡◌, refl}
use Rattle.field_base.specs.Carryless.{carryless, carryless_in}
use Rattle.field_base.specs.Quadratic.{quadratic}
use Rattle.field_base.specs.Remainder.{mul_mod, poly64_modulus, rem, rem_in}
use Rattle.field_base.specs.Tower.{root, tower_mul}

-- by the square of 2 the two kinds of basis are told apart
pub tower-two_squared : tower_mul 1 2 2 ≡ 3
unfolding tower_mul quadratic root
tower-two_squared = refl

pub poly64-two_squared : mul_mod 64 poly64_modulus 2 2 ≡ 4
unfolding mul_mod rem rem_in carryless carryless_in
poly64-two_squared = refl
