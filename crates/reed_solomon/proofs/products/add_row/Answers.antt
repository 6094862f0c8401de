use Rattle.std.proofs.Common.{◌≡◌, ◌+◌, ◌<◌, ◌∙◌, ℕ, length, get_or, ap, ap₂, arith}
use Rattle.std.specs.Prelude.{bit_xor}
use Rattle.std.proofs.lemmas.List.{get_or_read}
use Rattle.field_base.specs.Tower.{tower_mul}
use Rattle.reed_solomon.proofs.AddedRows.{added_more}
use Rattle.reed_solomon.proofs.products.add_row.Goals as goal

pub loop-c-preserved : goal.loop-c-preserved
loop-c-preserved g c =
    let number = g.R.Stored.number in
    let zero = g.R.Stored.ZERO in
    let level = g.L.Level.LEVEL in
    let factor = number c.args.factor in
    let place = c.loop-c.c in
    let sums = c.loop-c.sums in
    let row = c.args.row.now in
    let start : place ≡ 0 + place = omega arith in
    let within : place < length sums = omega (arith, c.loop-c-test.true, c.loop-c.auto.sums) in
    let inside : place < length row = omega (arith, c.requires, c.loop-c-test.true) in
    added_more number zero level factor 0 place row c.args.sums.now sums c.xor.result within
    (c.xor.ensures
    ∙ ap₂ (λ x y. bit_xor (number x) y) (get_or_read sums place c.index-sums-c.result within c.index-sums-c.is zero)
    (c.multiply.ensures ∙ ap (λ x. tower_mul level factor (number x)) (get_or_read row place c.index-row-c.result inside c.index-row-c.is zero)
    ∙ ap (λ (p : ℕ). tower_mul level factor (number (get_or row p zero))) start))
    c.loop-c.invariant
