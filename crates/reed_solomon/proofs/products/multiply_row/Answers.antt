use Rattle.std.proofs.Common.{◌≡◌, ◌+◌, ◌<◌, ◌∙◌, ℕ, length, get_or, set, sym, ap, subst, arith}
use Rattle.std.proofs.lemmas.List.{get_or_read}
use Rattle.field_base.specs.Tower.{tower_mul}
use Rattle.reed_solomon.specs.Columns.{ArePutProducts}
use Rattle.reed_solomon.proofs.ColumnPlaces.{product_more}
use Rattle.reed_solomon.proofs.products.multiply_row.Goals as goal

pub loop-c-preserved : goal.loop-c-preserved
loop-c-preserved g c =
    let number = g.R.Stored.number in
    let zero = g.R.Stored.ZERO in
    let level = g.L.Level.LEVEL in
    let row = c.loop-c.row in
    let place = c.loop-c.c in
    let start : 0 + place ≡ place = omega arith in
    let within : place < length row = omega (arith, c.loop-c.auto.row, c.loop-c-test.true) in
    let read = get_or_read row place c.index-row-c.result within c.index-row-c.is zero in
    let multiplied = λ (p : ℕ). ArePutProducts number zero level 0 (place + 1) (number c.args.factor) c.args.row.now (set row p c.multiply.result) in
    subst multiplied start
    (product_more zero 0 place c.args.row.now row c.multiply.result (omega arith) number level (number c.args.factor)
    (c.multiply.ensures
    ∙ subst (λ (p : ℕ). tower_mul level (number c.index-row-c.result) (number c.args.factor)
    ≡ tower_mul level (number (get_or row p zero)) (number c.args.factor)) (sym start)
    (ap (λ x. tower_mul level (number x) (number c.args.factor)) read)) c.loop-c.invariant)
