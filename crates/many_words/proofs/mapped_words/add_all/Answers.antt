use Rattle.std.proofs.Common.{ℕ, ◌^◌, ◌<◌, sym, map, subst}
use Rattle.std.specs.Prelude.{slice_index}
use Rattle.std.proofs.lemmas.List.{get_or-map}
use Rattle.field_base.specs.LinearMaps.{linear_image}
use Rattle.many_words.proofs.FirstPlaces.{sums_behind}
use Rattle.many_words.proofs.MappedWords.{first_summed}
use Rattle.many_words.proofs.mapped_words.add_all.Goals as goal

pub returns : goal.returns
returns g c =
    let number = g.W.Reads.number in
    let first =
    first_summed number g.K.FieldKernel.width g.K.FieldKernel.product g.K.FieldKernel.field_law.ring c.requires.width c.args.images.now
    (number c.args.scalar) c.requires.images c.add_images-done.result c.args.words.now c.args.sums.now c.add_images-done.new.sums
    c.requires.same c.add_images-done.ensures.long c.add_images-done.ensures.few
    (λ k inside d. subst (λ (n : ℕ). n < 2 ^ g.K.FieldKernel.width) (get_or-map number c.args.sums.now k d 0 inside)
    (subst (λ (b : ℕ). slice_index (map number c.args.sums.now) k < 2 ^ b) (sym c.requires.width) (c.numbers_fit.ensures k)))
    (c.add_images-done.ensures.images (linear_image c.args.images.now) c.set_tables.ensures.tables) in
    sums_behind number g.K.FieldKernel.product (number c.args.scalar) _ _ _ _ _ first c.split_at_mut-rest.ensures.value
    c.split_at_mut-rest.ensures.front_len c.split_at.ensures.by_index.0 c.split_at.ensures.front_len
    c.change_all_by.ensures.long c.change_all_by.ensures.results
