use Rattle.std.proofs.Common.{◌∙◌, sym, ap, ℕ, ◌+◌, ◌/◌, ◌<◌, ◌≤◌, length, drop, arith}
use Rattle.std.specs.Prelude.{bit_xor}
use Rattle.field_base.specs.LinearMaps.{linear_image}
use Rattle.field_base.proofs.LinearMapLemmas.{images_end}
use Rattle.word_carryless.proofs.PowerMaps.{column_enters}
use Rattle.word_carryless.proofs.power_maps.sum_of_columns.Goals as goal

pub loop-place-preserved : goal.loop-place-preserved
loop-place-preserved c =
    let columns = c.args.columns.now in
    let place = c.loop-place.place in
    let within : place < length columns = omega (arith, c.told-columns) in
    ap (λ (column : ℕ). bit_xor (bit_xor c.loop-place.sum column) (linear_image (drop (place + 1) columns) (c.loop-place.rest / 2)))
    c.column_at-sum.ensures
    ∙ column_enters columns place c.loop-place.sum c.loop-place.rest within ∙ c.loop-place.invariant

pub returns : goal.returns
returns c =
    let past : length c.args.columns.now ≤ c.loop-place.place = omega (arith, c.told-columns) in
    sym (images_end c.args.columns.now c.loop-place.place c.loop-place.sum c.loop-place.rest past) ∙ c.loop-place.invariant
