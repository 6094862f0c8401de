use Rattle.field_base.specs.LinearMaps.{linear_image}
use Rattle.many_words.proofs.FirstPlaces.{both_changed}
use Rattle.many_words.proofs.MappedWords.{first_mapped}
use Rattle.many_words.proofs.mapped_words.multiply_all.Goals as goal

pub returns-clause-products : goal.returns-clause-products
returns-clause-products g c =
    let number = g.W.Reads.number in
    let first =
    first_mapped number g.K.FieldKernel.width g.K.FieldKernel.product g.K.FieldKernel.field_law.ring c.requires.width c.args.images.now
    (number c.args.scalar) c.requires.images c.map_words-done.result c.args.words.now c.map_words-done.new.words
    c.map_words-done.ensures.long c.map_words-done.ensures.few
    (c.map_words-done.ensures.images (linear_image c.args.images.now) c.set_tables.ensures.tables) in
    both_changed number (λ k d x. g.K.FieldKernel.product x (number c.args.scalar)) _ _ _ first c.split_at_mut-rest.ensures.value
    c.split_at_mut-rest.ensures.front_len c.multiply_each_by.ensures.long c.multiply_each_by.ensures.products
