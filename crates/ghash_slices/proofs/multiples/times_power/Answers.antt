use Rattle.std.proofs.Common.{◌^◌, refl, sym, ◌∙◌, ap, arith}
use Rattle.std.proofs.lemmas.Nat.{pow_below}
use Rattle.field_base.specs.Remainder.{ghash_modulus, rem}
use Rattle.field_base.proofs.RemainderRing.{mul_mod-rem}
use Rattle.ghash_slices.proofs.multiples.times_power.Goals as goal

pub returns : goal.returns
returns c =
    c.reduce_128.ensures ∙ ap (rem 128 ghash_modulus) (sym c.multiply_by_power_128-low.ensures)
    ∙ sym (mul_mod-rem 128 ghash_modulus refl c.args.value (2 ^ c.args.k) (omega arith) (pow_below c.args.k 128 c.requires))
