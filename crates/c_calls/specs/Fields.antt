-- The fields whose elements are words of other languages.
use Rattle.std.specs.Prelude.{ℕ, ◌+◌, ◌*◌, ◌^◌}
use Rattle.field_base.specs.Basis.{poly64_images}
use Rattle.field_base.specs.Remainder.{poly64_modulus}
use Rattle.field_base.specs.Tower.{tower_mul}
use Rattle.field_base.specs.TowerBasis.{tower_generator}
use Rattle.word_polynomial.specs.Cubic.{cubic_mul, triple}
use Rattle.many_words.specs.Fields.{WordField, field_of, ghash_field_of, itself, polynomial_field}
use Rattle.c_calls.specs.declared.words.Cubic.{Cubic}
use Rattle.c_calls.specs.declared.wide.Wide.{Wide}

-- the number of 128 bits that two words of 64 are, low half first
abbrev pub wide_number : Wide → ℕ
wide_number word = word.high * 2 ^ 64 + word.low

-- the number of 192 bits that three words of 64 are, the lowest first
abbrev pub cubic_number : Cubic → ℕ
cubic_number word = triple 64 word.c0 word.c1 word.c2

-- level k of the tower, with words of up to 64 bits
abbrev pub level_field : ℕ → WordField ℕ
level_field k = field_of itself (2 ^ k) (tower_mul k) (tower_generator k)

-- level 7, with words of 128 bits
abbrev pub wide_level_field : WordField Wide
wide_level_field = field_of wide_number 128 (tower_mul 7) (tower_generator 7)

-- the polynomials modulo x^64 + x^4 + x^3 + x + 1
abbrev pub poly64_field : WordField ℕ
poly64_field = polynomial_field itself 64 poly64_modulus poly64_images 6

-- the field of GHASH
abbrev pub ghash_field : WordField Wide
ghash_field = ghash_field_of wide_number

-- the cubic extension of GF(2^64)
abbrev pub cubic_field : WordField Cubic
cubic_field = field_of cubic_number 192 cubic_mul (triple 64 5 3 1)
