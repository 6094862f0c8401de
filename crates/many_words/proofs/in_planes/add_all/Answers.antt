use Rattle.std.proofs.Common.{ℕ, ◌^◌, ◌<◌, ◌∙◌, ap, map, subst}
use Rattle.std.specs.Prelude.{slice_index}
use Rattle.additive_transforms.specs.Rows.{level_of}
use Rattle.many_words.proofs.FirstPlaces.{first_added, sums_behind}
use Rattle.many_words.proofs.in_planes.add_all.Goals as goal

pub add_multiples-done-requires-clause-fit : goal.add_multiples-done-requires-clause-fit
add_multiples-done-requires-clause-fit g c k =
    subst (λ (b : ℕ). slice_index (map g.W.Reads.number c.args.sums.now) k < 2 ^ b)
    (g.met.W.WordBytes.bits_law ∙ ap (λ (size : ℕ). 2 ^ level_of size) g.met.K.FieldInPlanes.level_law.size_is) (c.numbers_fit.ensures k)

pub returns : goal.returns
returns g c =
    let number = g.W.Reads.number in
    let first =
    first_added number g.K.FieldKernel.product (number c.args.scalar) (level_of g.K.Vectors.Planes.depth)
    g.met.K.FieldInPlanes.level_law.product_is c.add_multiples-done.result c.args.words.now c.args.sums.now
    c.add_multiples-done.new.sums c.requires.same c.add_multiples-done.ensures.long
    c.add_multiples-done.ensures.few (c.add_multiples-done.ensures.products (number c.args.scalar) c.multiples_of-multiples.ensures) in
    sums_behind number g.K.FieldKernel.product (number c.args.scalar) _ _ _ _ _ first c.split_at_mut-rest.ensures.value
    c.split_at_mut-rest.ensures.front_len c.split_at.ensures.by_index.0 c.split_at.ensures.front_len
    c.change_all_by.ensures.long c.change_all_by.ensures.results
