use Rattle.std.proofs.Common.{◌≡◌, ℕ, ◌^◌, ◌<◌, ◌≤◌, lit<, arith, refl}
use Rattle.field_base.specs.Remainder.{aes_modulus, poly64_modulus, ghash_modulus}
use Rattle.field_base.proofs.CarrylessFacts.{aes_degree, poly64_degree, ghash_degree}
use Rattle.word_tables.proofs.Isomorphisms.{field_8, field_64, field_128}
use Rattle.any_field.specs.Irreducible.{IsIrreducible}
use Rattle.any_field.proofs.IrreducibleFields.{field_needs_irreducible}
use Rattle.any_field.proofs.laws.published_are_irreducible.Goals as goal

aes : IsIrreducible aes_modulus
aes = field_needs_irreducible 8 aes_modulus (lit< tt) aes_degree field_8

poly64 : IsIrreducible poly64_modulus
poly64 = field_needs_irreducible 64 poly64_modulus (lit< tt) poly64_degree field_64

ghash : IsIrreducible ghash_modulus
ghash = field_needs_irreducible 128 ghash_modulus (lit< tt) ghash_degree field_128

pub returns : goal.returns
returns c = record {
  irreducible = (aes, poly64, ghash);
  fields = (
    ((lit< tt, omega arith, lit< tt, aes), (λ a b. refl)),
    ((lit< tt, omega arith, lit< tt, poly64), (λ a b. refl)),
    ((lit< tt, omega arith, lit< tt, ghash), (λ a b. refl)),
  );
}
