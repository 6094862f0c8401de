use Rattle.std.proofs.Common.{◌∙◌, ap₂, sym}
use Rattle.std.specs.Simd.Lanes.{zip2}
use Rattle.ghash_slices.specs.LowStages.{ghash_product}
use Rattle.ghash_slices.specs.Stages.{add_multiple}
use Rattle.additive_transforms.proofs.NumberValues.{low_words}
use Rattle.additive_transforms.proofs.kernel.add_products.Goals as goal

pub returns : goal.returns
returns g c =
    let number = g.W.Reads.number in
    low_words number c.add_multiples.new.values c.numbers_fit-3.ensures ∙ c.add_multiples.ensures
    ∙ ap₂ (zip2 (add_multiple ghash_product c.args.s)) (sym (low_words number c.args.words.now c.numbers_fit.ensures))
    (sym (low_words number c.args.others.now c.numbers_fit-2.ensures))
