-- Tags of algebras.
use Rattle.std.specs.Prelude.{◌≡◌, ℕ, Bool, true, false, List, refl}
use Rattle.field_base.specs.Carryless.{carryless, carryless_in}
use Rattle.field_base.specs.Quadratic.{quadratic}
use Rattle.field_base.specs.Remainder.{mul_mod, poly64_modulus, rem, rem_in}
use Rattle.field_base.specs.Tower.{root, tower_mul}
use Rattle.transcript_elements.specs.declared.tag.TypeTag.{TypeTag}
use Rattle.transcript_elements.specs.declared.tag.TypeTag.TheVariants.{BinaryTower, BinaryPoly}

-- the tag of an algebra over a field of so many bits, which is in a polynomial basis or a level of the tower
abbrev pub tag_of : Bool → ℕ → ℕ → List ℕ → TypeTag
tag_of true bits degree basis = BinaryPoly bits degree basis
tag_of false bits degree basis = BinaryTower bits degree basis
