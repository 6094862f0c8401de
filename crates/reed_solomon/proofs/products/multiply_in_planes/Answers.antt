use Rattle.std.proofs.Common.{ℕ, get_or, map, ◌∙◌, subst}
use Rattle.field_base.specs.Tower.{tower_mul}
use Rattle.additive_transforms.specs.Rows.{level_of}
use Rattle.additive_transforms.specs.Units.{FirstAre}
use Rattle.reed_solomon.proofs.RowProducts.{first_products}
use Rattle.reed_solomon.proofs.products.multiply_in_planes.Goals as goal

pub returns-clause-products : goal.returns-clause-products
returns-clause-products g c =
    let number = g.R.Stored.number in
    let level = g.L.Level.LEVEL in
    let row = c.args.row.now in
    let done = c.multiply_words.result in
    let now = c.multiply_words.new.words in
    first_products number g.R.Stored.ZERO level (number c.args.factor) g.R.Stored.same_law done c.to_u128-scalar.result row now
    (c.to_u128-scalar.ensures ∙ c.truncate.ensures) c.multiply_words.ensures.long c.multiply_words.ensures.few
    (subst (λ (k : ℕ). FirstAre done (λ i. tower_mul k c.to_u128-scalar.result (get_or (map number row) i 0)) (map number row) (map number now))
    c.requires.level
    (subst (λ (of_word : _ → ℕ). FirstAre done (λ i. tower_mul (level_of g.P.Planes.depth) c.to_u128-scalar.result (get_or (map of_word row) i 0))
    (map of_word row) (map of_word now)) g.met.R.StoredBytes.number_law
    (c.multiply_words.ensures.products c.to_u128-scalar.result c.multiples-multiples.ensures)))
