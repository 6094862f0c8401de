use Rattle.field_base.specs.Basis.{basis_image}
use Rattle.field_base.specs.TowerBasis.{tower_generator}
use Rattle.many_words.proofs.ImageInverses.{inverses_of_images}
use Rattle.many_words.proofs.in_slices.invert_images.Goals as goal

pub returns-clause-inverses : goal.returns-clause-inverses
returns-clause-inverses g c =
    let field = g.M.Modulus in
    inverses_of_images field.LEVEL field.width field.modulus field.images field.isomorphism_law field.field_law g.W.Reads.number
    g.R.TowerWord.LEVEL c.requires c.args.words.now c.change_all.new.words
    c.invert_each.new.words c.change_all-2.new.words c.invert_each.ensures.long c.change_all-2.ensures.long c.change_all.ensures.images
    c.invert_each.ensures.inverses c.change_all-2.ensures.images
    (basis_image field.width field.modulus field.images (tower_generator field.LEVEL))
