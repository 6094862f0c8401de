use Rattle.std.proofs.Common.{◌≡◌, ◌∙◌}
use Rattle.many_words.proofs.BothParts.{both_parts_of}
use Rattle.many_words.proofs.many.multiply.Goals as goal

pub returns-clause-products : goal.returns-clause-products
returns-clause-products g c =
    let number = g.W.Reads.number in
    let words = c.split_at in
    let products = c.split_at_mut-blocks in
    both_parts_of (λ x y z. number z ≡ g.K.FieldKernel.product (number x) (number y)) _ products.result.0.now products.result.1.now
    words.result.0.now words.result.1.now c.multiply_all.new.products c.multiply_all-2.new.products products.ensures.front_len
    words.ensures.front_len (c.multiply_all.ensures.long ∙ products.ensures.front_len) c.args.products.now c.args.words.now
    products.ensures.value words.ensures.by_index.0 c.multiply_all.ensures.products c.multiply_all-2.ensures.products
