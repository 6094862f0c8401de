use Rattle.std.proofs.Common.{map, sym, ◌∙◌, ap}
use Rattle.std.proofs.lemmas.List.{map-id}
use Rattle.field_base.specs.Remainder.{ghash_modulus, mul_mod}
use Rattle.ghash_slices.proofs.slices.mul_slice.Goals as goal

pub returns : goal.returns
returns c =
    sym (map-id c.multiply_all.new.values) ∙ c.multiply_all.ensures
    ∙ ap (map (λ x. mul_mod 128 ghash_modulus c.args.scalar x)) (map-id c.args.values.now)
