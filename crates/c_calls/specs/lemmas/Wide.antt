-- The numbers of words of 128 and of 192 bits.
use Rattle.std.proofs.Common.{◌^◌, ◌<◌, arith}
use Rattle.c_calls.specs.Fields.{cubic_number, wide_number}
use Rattle.c_calls.specs.declared.wide.Wide.{Wide}
use Rattle.c_calls.specs.declared.words.Cubic.{Cubic}
use Rattle.word_polynomial.specs.lemmas.Triple.{fits_192}

-- those of two words have at most 128 bits
pub wide_number-lt : (x : Wide) → wide_number x < 2 ^ 128
wide_number-lt x = omega (arith, x.in_range.low_half, x.in_range.high_half)

-- and those of three at most 192
pub cubic_number-lt : (x : Cubic) → cubic_number x < 2 ^ 192
cubic_number-lt x = fits_192 (record { c0 = x.c0; c1 = x.c1; c2 = x.c2; in_range = x.in_range })
