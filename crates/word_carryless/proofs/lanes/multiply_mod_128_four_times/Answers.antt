use Rattle.std.proofs.Common.{◌∙◌, ap₂}
use Rattle.std.specs.Simd.Lanes.{zip2}
use Rattle.field_base.specs.Remainder.{ghash_modulus, mul_mod}
use Rattle.word_carryless.proofs.lanes.multiply_mod_128_four_times.Goals as goal

pub returns : goal.returns
returns c =
    c.join_four.ensures ∙ c.multiply_elements.ensures
    ∙ ap₂ (zip2 (mul_mod 128 ghash_modulus)) c.split_four.ensures c.split_four-2.ensures
