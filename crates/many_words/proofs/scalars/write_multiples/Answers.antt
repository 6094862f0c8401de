use Rattle.std.proofs.Common.{◌≡◌, ℕ, length, map, sym, ◌∙◌, ap}
use Rattle.std.specs.Simd.Lanes.{zip2}
use Rattle.ghash_slices.specs.LowStages.{ghash_product}
use Rattle.ghash_slices.specs.Stages.{add_multiple}
use Rattle.many_words.proofs.WordNumbers.{products_at}
use Rattle.many_words.proofs.scalars.write_multiples.Goals as goal

pub returns : goal.returns
returns g c = λ k inside d.
    let number = g.W.Reads.number in
    let words = c.args.words.now in
    let zeros = c.clear.new.words in
    let products = c.add_multiples.new.values in
    let same : length zeros ≡ length words = c.clear.ensures.length ∙ sym c.requires in
    products_at number (number c.args.scalar) zeros words products same c.clear.ensures.zeros
    (c.add_multiples.ensures ∙ ap (λ (s : ℕ). zip2 (add_multiple ghash_product s) (map number zeros) (map number words)) c.stored.ensures)
    k inside d
