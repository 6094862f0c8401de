-- The images of the generators, and of the roots that the levels adjoin, by computation.
use Rattle.std.proofs.Common.{◌≡◌, ℕ, ◌%◌, ◌^◌, refl, sym, ◌∙◌, ap, lit<}
use Rattle.field_base.specs.Basis.{basis_image, aes_images, poly64_images, ghash_images}
use Rattle.field_base.specs.ByteTables.{sum_of_entries}
use Rattle.field_base.specs.Remainder.{aes_modulus, poly64_modulus, ghash_modulus}
use Rattle.field_base.specs.Tower.{root}
use Rattle.field_base.specs.TowerBasis.{tower_generator}
use Rattle.word_tables.specs.declared.literals.to_polynomial.TheConstants.{TO_POLYNOMIAL_8, TO_POLYNOMIAL_64, TO_POLYNOMIAL_128}
use Rattle.word_tables.proofs.Isomorphisms.{change_8, change_64, change_128, isomorphic_8, isomorphic_64, isomorphic_128}

-- the image of the root of level 3 modulo x^8 + x^4 + x^3 + x + 1
pub rijndael_alpha : 0x35 ≡ basis_image 8 aes_modulus aes_images (root 3)
rijndael_alpha = sym (isomorphic_8.homomorphism.root_image 2 (lit< tt))

-- the image of the root of level 6 modulo x^64 + x^4 + x^3 + x + 1
pub poly64_alpha : 0x3f2a_7c50_1e89_8bcd ≡ basis_image 64 poly64_modulus poly64_images (root 6)
poly64_alpha = sym (isomorphic_64.homomorphism.root_image 5 (lit< tt))

-- the image of the root of level 7 modulo x^128 + x^7 + x^2 + x + 1
pub ghash_alpha : 0x9cfc_a256_33f9_993f_4e1f_5110_70b2_3e78 ≡ basis_image 128 ghash_modulus ghash_images (root 7)
ghash_alpha = sym (isomorphic_128.homomorphism.root_image 6 (lit< tt))

-- the images of the generators, by the tables (computed)
by_tables : (0x88 ≡ sum_of_entries 1 TO_POLYNOMIAL_8 (tower_generator 3) % 2 ^ 8)
    × (0xc313_d8d1_bfae_2150 ≡ sum_of_entries 8 TO_POLYNOMIAL_64 (tower_generator 6) % 2 ^ 64)
    × (0xe5a5_755a_d217_f07d_1da7_0a74_7203_d630 ≡ sum_of_entries 16 TO_POLYNOMIAL_128 (tower_generator 7) % 2 ^ 128)
unfolding sum_of_entries
by_tables = (refl, refl, refl)

-- the image of the generator of level 3 modulo x^8 + x^4 + x^3 + x + 1
pub rijndael_generator : 0x88 ≡ basis_image 8 aes_modulus aes_images (tower_generator 3) % 2 ^ 8
rijndael_generator = by_tables.0 ∙ ap (λ (z : ℕ). z % 2 ^ 8) (change_8.image (tower_generator 3))

-- the image of the generator of level 6 modulo x^64 + x^4 + x^3 + x + 1
pub poly64_generator : 0xc313_d8d1_bfae_2150 ≡ basis_image 64 poly64_modulus poly64_images (tower_generator 6) % 2 ^ 64
poly64_generator = by_tables.1 ∙ ap (λ (z : ℕ). z % 2 ^ 64) (change_64.image (tower_generator 6))

-- the image of the generator of level 7 modulo x^128 + x^7 + x^2 + x + 1
pub ghash_generator : 0xe5a5_755a_d217_f07d_1da7_0a74_7203_d630
    ≡ basis_image 128 ghash_modulus ghash_images (tower_generator 7) % 2 ^ 128
ghash_generator = by_tables.2 ∙ ap (λ (z : ℕ). z % 2 ^ 128) (change_128.image (tower_generator 7))
