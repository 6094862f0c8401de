use Rattle.std.proofs.Common.{sym, ◌∙◌, ap₂}
use Rattle.std.specs.Simd.Lanes.{zip2}
use Rattle.std.proofs.lemmas.List.{map-id}
use Rattle.any_field.specs.Contexts.{field_product}
use Rattle.any_field.proofs.extension.BinaryExtension.multiply_each.Goals as goal

pub returns : goal.returns
returns c =
    sym (map-id c.multiply_words.new.words) ∙ c.multiply_words.ensures.products
    ∙ ap₂ (zip2 (field_product c.args.self.degree c.args.self.tail)) (map-id c.args.words.now) (map-id c.args.others.now)
