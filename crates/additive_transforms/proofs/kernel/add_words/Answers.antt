use Rattle.std.proofs.Common.{◌∙◌, ap₂, sym}
use Rattle.std.specs.Prelude.{bit_xor}
use Rattle.std.specs.Simd.Lanes.{zip2}
use Rattle.additive_transforms.proofs.NumberValues.{low_words}
use Rattle.additive_transforms.proofs.kernel.add_words.Goals as goal

pub returns : goal.returns
returns g c =
    let number = g.W.Reads.number in
    low_words number c.add_each.new.values c.numbers_fit-3.ensures ∙ c.add_each.ensures
    ∙ ap₂ (zip2 bit_xor) (sym (low_words number c.args.words.now c.numbers_fit.ensures))
    (sym (low_words number c.args.others.now c.numbers_fit-2.ensures))
