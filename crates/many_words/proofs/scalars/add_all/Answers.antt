use Rattle.std.proofs.Common.{ℕ, map, sym, ◌∙◌, ap}
use Rattle.std.specs.Simd.Lanes.{zip2}
use Rattle.ghash_slices.specs.LowStages.{ghash_product}
use Rattle.ghash_slices.specs.Stages.{add_multiple}
use Rattle.many_words.proofs.WordNumbers.{changed_at}
use Rattle.many_words.proofs.scalars.add_all.Goals as goal

pub returns : goal.returns
returns g c =
    let number = g.W.Reads.number in
    let words = c.args.words.now in
    let sums = c.args.sums.now in
    changed_at number (add_multiple ghash_product (number c.args.scalar)) sums words c.add_multiples.new.values (sym c.requires)
    (c.add_multiples.ensures ∙ ap (λ (s : ℕ). zip2 (add_multiple ghash_product s) (map number sums) (map number words)) c.stored.ensures)
