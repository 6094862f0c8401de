use Rattle.std.proofs.Common.{◌≡◌, ℕ, List, ◌++◌, length, sym, ◌∙◌, ap, subst}
use Rattle.reed_solomon.specs.Columns.{ArePutProducts}
use Rattle.reed_solomon.proofs.RowProducts.{row_products}
use Rattle.reed_solomon.proofs.products.multiply_at.Goals as goal

pub returns-clause-products : goal.returns-clause-products
returns-clause-products g c =
    let number = g.R.Stored.number in
    let zero = g.R.Stored.ZERO in
    let level = g.L.Level.LEVEL in
    let factor = number c.args.factor in
    let words = c.args.words.now in
    let before = c.split_at_mut-before.result.0.now in
    let row = c.split_at_mut-row.result.0.now in
    let behind = c.split_at_mut-row.result.1.now in
    let next = c.multiply_row.new.row in
    let whole : words ≡ before ++ (row ++ behind) = c.split_at_mut-before.ensures.value ∙ ap (λ (l : List _). before ++ l) c.split_at_mut-row.ensures.value in
    subst (λ (p : ℕ). ArePutProducts number zero level p c.args.count factor words (before ++ (next ++ behind))) c.split_at_mut-before.ensures.front_len
    (subst (λ (n : ℕ). ArePutProducts number zero level (length before) n factor words (before ++ (next ++ behind))) c.split_at_mut-row.ensures.front_len
    (subst (λ (l : List _). ArePutProducts number zero level (length before) (length row) factor l (before ++ (next ++ behind))) (sym whole)
    (row_products number zero level factor before behind row next c.multiply_row.ensures.long c.multiply_row.ensures.products)))
