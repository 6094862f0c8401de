-- Values of the definitions where the argument of carry isolation is tightest: words all of ones, one class, the top bit.
use Rattle.std.proofs.Common.{◌≡◌, ◌*◌, ◌%◌, ◌^◌, ◌-◌, refl}
use Rattle.std.specs.Prelude.{bit_and}
use Rattle.field_base.specs.Carryless.{carryless, carryless_in}
use Rattle.field_base.specs.Remainder.{rem, rem_in, mul_mod, poly64_modulus, ghash_modulus}
use Rattle.word_carryless.specs.Masked.{class_mask}

-- a square has zeros between its bits
pub carryless-ones : carryless 0xffff_ffff_ffff_ffff 0xffff_ffff_ffff_ffff ≡ 0x5555_5555_5555_5555_5555_5555_5555_5555
unfolding carryless carryless_in
carryless-ones = refl

-- sixteen bits of one class meet at place 60, and their carry leaves the word
pub class-square : bit_and (class_mask 0 * class_mask 0 % 2 ^ 64) (class_mask 0) ≡ 0x0101_0101_0101_0101
class-square = refl

-- the square of the word of class 0 that is all ones
pub carryless-class : carryless (class_mask 0) (class_mask 0) % 2 ^ 64 ≡ 0x0101_0101_0101_0101
unfolding carryless carryless_in
carryless-class = refl

-- the square of x^63 modulo x^64 + x^4 + x^3 + x + 1
pub poly64-top : mul_mod 64 poly64_modulus (2 ^ 63) (2 ^ 63) ≡ 0xc000_0000_0000_005a
unfolding mul_mod carryless carryless_in rem rem_in
poly64-top = refl

-- the square of all ones modulo x^128 + x^7 + x^2 + x + 1
pub ghash-ones : mul_mod 128 ghash_modulus (2 ^ 128 - 1) (2 ^ 128 - 1) ≡ 0x5555_5555_5555_5555_5555_5555_5555_402f
unfolding mul_mod carryless carryless_in rem rem_in
ghash-ones = refl

-- the square of x^127 modulo x^128 + x^7 + x^2 + x + 1
pub ghash-top : mul_mod 128 ghash_modulus (2 ^ 127) (2 ^ 127) ≡ 0xc000_0000_0000_0000_0000_0000_0000_1067
unfolding mul_mod carryless carryless_in rem rem_in
ghash-top = refl
