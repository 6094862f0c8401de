use Rattle.std.proofs.Common.{◌≡◌, ℕ, ◌<◌, List, length, get_or, subst}
use Rattle.ghash_slices.specs.LowStages.{ghash_product}
use Rattle.many_words.proofs.scalars.multiply_block.Goals as goal

pub returns-clause-products : goal.returns-clause-products
returns-clause-products g c =
    let number = g.W.Reads.number in
    subst (λ (l : List _). (k : ℕ) → k < length c.write_multiples.new.products → (d : _)
    → number (get_or c.write_multiples.new.products k d) ≡ ghash_product (number (get_or l k d)) (number c.args.scalar))
    c.copy_from_slice.ensures.after c.write_multiples.ensures
