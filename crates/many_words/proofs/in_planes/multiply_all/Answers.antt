use Rattle.additive_transforms.specs.Rows.{level_of}
use Rattle.many_words.proofs.FirstPlaces.{both_changed, first_multiplied}
use Rattle.many_words.proofs.in_planes.multiply_all.Goals as goal

pub returns-clause-products : goal.returns-clause-products
returns-clause-products g c =
    let number = g.W.Reads.number in
    let first =
    first_multiplied number g.K.FieldKernel.product (number c.args.scalar) (level_of g.K.Vectors.Planes.depth)
    g.met.K.FieldInPlanes.level_law.product_is c.multiply_words-done.result c.args.words.now
    c.multiply_words-done.new.words c.multiply_words-done.ensures.long c.multiply_words-done.ensures.few
    (c.multiply_words-done.ensures.products (number c.args.scalar) c.multiples_of-multiples.ensures) in
    both_changed number (λ k d x. g.K.FieldKernel.product x (number c.args.scalar)) _ _ _ first c.split_at_mut-rest.ensures.value
    c.split_at_mut-rest.ensures.front_len c.multiply_each_by.ensures.long c.multiply_each_by.ensures.products
