-- Published values of the carryless product and of products modulo a polynomial, so that a wrong definition or modulus
-- does not check.
use Rattle.std.proofs.Common.{◌≡◌, refl}
use Rattle.std.specs.Int.{reverse_bits, reverse_bits_onto, w128}
use Rattle.field_base.specs.Carryless.{carryless, carryless_in}
use Rattle.field_base.specs.Remainder.{HasDegree, rem, rem_in, mul_mod, aes_modulus, poly64_modulus, ghash_modulus}

-- the example of FIPS 197, section 4.2: the product, and its remainder
pub aes_product : carryless 0x57 0x83 ≡ 0x2b79
unfolding carryless carryless_in
aes_product = refl

-- the example of FIPS 197, section 4.2: the remainder of 0x2b79 modulo x^8 + x^4 + x^3 + x + 1
pub aes_remainder : rem 8 aes_modulus 0x2b79 ≡ 0xc1
unfolding rem rem_in
aes_remainder = refl

-- the example of section 4.2.1
pub aes_by_powers : mul_mod 8 aes_modulus 0x57 0x13 ≡ 0xfe
unfolding mul_mod carryless carryless_in rem rem_in
aes_by_powers = refl

-- test case 2 of McGrew and Viega, The Galois/Counter Mode of Operation: the first ciphertext block times H, where the
-- first bit of a block is the coefficient of 1
pub ghash_product : reverse_bits w128
    (mul_mod 128 ghash_modulus (reverse_bits w128 0x0388dace60b6a392f328c2b971b2fe78)
    (reverse_bits w128 0x66e94bd4ef8a2c3b884cfa59ca342b2e))
    ≡ 0x5e2ec746917062882c85b0685353deb7
unfolding mul_mod carryless carryless_in rem rem_in reverse_bits_onto
ghash_product = refl

-- x^64 is the tail of its modulus
pub poly64_power : mul_mod 64 poly64_modulus 0x8000_0000_0000_0000 2 ≡ 0x1b
unfolding mul_mod carryless carryless_in rem rem_in
poly64_power = refl

-- the degrees of the three moduli
pub aes_degree : HasDegree 8 aes_modulus
aes_degree = refl

-- x^64 + x^4 + x^3 + x + 1 has the degree 64
pub poly64_degree : HasDegree 64 poly64_modulus
poly64_degree = refl

-- x^128 + x^7 + x^2 + x + 1 has the degree 128
pub ghash_degree : HasDegree 128 ghash_modulus
ghash_degree = refl
