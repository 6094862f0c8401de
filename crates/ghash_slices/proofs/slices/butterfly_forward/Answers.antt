use Rattle.std.proofs.Common.{sym, ◌∙◌, ap₂}
use Rattle.std.specs.Prelude.{bit_xor}
use Rattle.std.specs.Simd.Lanes.{zip2}
use Rattle.std.proofs.lemmas.List.{map-id}
use Rattle.ghash_slices.specs.LowStages.{ghash_product}
use Rattle.ghash_slices.specs.Stages.{add_multiple}
use Rattle.ghash_slices.proofs.slices.butterfly_forward.Goals as goal

pub returns-clause-low : goal.returns-clause-low
returns-clause-low c =
    sym (map-id c.add_multiples.new.values) ∙ c.add_multiples.ensures
    ∙ ap₂ (zip2 (add_multiple ghash_product c.args.scalar)) (map-id c.args.lo.now) (map-id c.args.hi.now)

pub returns-clause-high : goal.returns-clause-high
returns-clause-high c =
    sym (map-id c.add_each.new.values) ∙ c.add_each.ensures
    ∙ ap₂ (zip2 bit_xor) (map-id c.args.hi.now) (map-id c.add_multiples.new.values)
