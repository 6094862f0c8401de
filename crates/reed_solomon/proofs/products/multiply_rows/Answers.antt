use Rattle.std.proofs.Common.{◌≡◌, ◌+◌, ◌*◌, ◌≤◌, ◌<◌, ℕ, List, length, get_or, sym, ◌∙◌, ap, subst, arith}
use Rattle.std.specs.Cmp.{booleans_Decides}
use Rattle.std.proofs.lemmas.Bool.Decides.{not_from_Decides}
use Rattle.std.proofs.lemmas.List.{get_or_read}
use Rattle.reed_solomon.specs.Columns.{AreRowProducts}
use Rattle.reed_solomon.specs.Restoring.{is_lost}
use Rattle.reed_solomon.proofs.ColumnPlaces.{row_cleared_more, row_product_more, row_rest_more}
use Rattle.reed_solomon.proofs.products.multiply_rows.Goals as goal
use Rattle.reed_solomon.proofs.products.multiply_rows.Goals.{then-is_lost-lost, else-is_lost-lost}

pub loop-p-preserved : goal.loop-p-preserved
loop-p-preserved g c =
    let number = g.R.Stored.number in
    let zero = g.R.Stored.ZERO in
    let level = g.L.Level.LEVEL in
    let code = c.args.code.now in
    let width = c.args.width in
    let factors = c.args.factors.now in
    let p = c.loop-p.p in
    let lost = is_lost code.data_shards code.levels code.parity_shards c.args.present.now in
    let which = c.args.lost in
    let old = c.args.values.now in
    let mid = c.loop-p.values in
    let before = c.loop-p.invariant.0 in
    let rest = c.loop-p.invariant.1 in
    let same = booleans_Decides c.is_lost.result which in
    let done = λ (ws : List _). AreRowProducts number zero level width (p + 1) lost which factors old ws
    × ((q : ℕ) → (p + 1) * width ≤ q → get_or ws q zero ≡ get_or old q zero) in
    elim c.if-is_lost-lost.branch [
      | then-is_lost-lost w ↦
          let factor = number w.index-factors-p.result in
          let within : p < length factors = omega (arith, c.requires.factors, c.loop-p-test.true) in
          let read = ap number (get_or_read factors p w.index-factors-p.result within w.index-factors-p.is zero) in
          let now = w.multiply_at.new.words in
          let put = w.multiply_at.ensures.products in
          subst done (sym w.values-is) (
            row_product_more number zero level width p lost which factors old mid now before put.kept factor
                (sym c.is_lost.ensures ∙ same.0 w.if-is_lost-lost.true) read put rest,
            row_rest_more number zero level width p lost which factors old mid now before put.kept rest,
          )
      | else-is_lost-lost w ↦
          let now = w.clear_words.new.target in
          let put = w.clear_words.ensures.put in
          subst done (sym w.values-is) (
            row_cleared_more number zero level width p lost which factors old mid now before put.kept
                (λ is. not_from_Decides _ same w.if-is_lost-lost.false (c.is_lost.ensures ∙ is)) put,
            row_rest_more number zero level width p lost which factors old mid now before put.kept rest,
          )
    ]
