use Rattle.std.proofs.Common.{◌^◌, ◌<◌, ◌∙◌, ℕ, List, ap, length, subst}
use Rattle.std.specs.Prelude.{slice_index}
use Rattle.std.proofs.lemmas.List.{length-map, map-id}
use Rattle.field_base.specs.LinearMaps.{linear_image}
use Rattle.many_words.proofs.ScaledBytes.{all_mapped}
use Rattle.many_words.proofs.scaled_bytes.multiply_all.Goals as goal

pub returns-clause-long : goal.returns-clause-long
returns-clause-long g c = ap length c.map_bytes.ensures ∙ length-map c.args.bytes.now (linear_image c.images_of.result)

pub returns-clause-products : goal.returns-clause-products
returns-clause-products g c =
    all_mapped (linear_image c.images_of.result) g.K.FieldKernel.product c.args.scalar c.args.bytes.now c.map_bytes.new.bytes
    c.map_bytes.ensures (subst (λ (l : List ℕ). (p : ℕ) → slice_index l p < 2 ^ 8) (map-id c.args.bytes.now) c.words_fit.ensures) c.images_of.ensures
