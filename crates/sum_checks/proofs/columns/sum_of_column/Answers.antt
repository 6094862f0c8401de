use Rattle.std.proofs.Common.{◌≡◌, map, length, sym, ◌∙◌, ap, arith}
use Rattle.std.specs.Prelude.{bit_xor, slice_index}
use Rattle.field_base.specs.Basis.{sum_below}
use Rattle.field_slices.proofs.NextTerms.{sum-more}
use Rattle.field_base.proofs.Places.{number-at}
use Rattle.sum_checks.proofs.columns.sum_of_column.Goals as goal
use Rattle.field_base.proofs.BasisSums.{sum_below-none}

pub loop-place-init : goal.loop-place-init
loop-place-init g c =
    let repr = g.F.Represented.repr in
    ap repr c.ZERO-sum.ensures ∙ g.met.F.PrimeCharacteristicRing.zero_law ∙ sym (sum_below-none (slice_index (map repr c.args.column.now)))

pub loop-place-preserved : goal.loop-place-preserved
loop-place-preserved g c =
    let repr = g.F.Represented.repr in
    let x = c.index-column-place.result in
    sum-more (slice_index (map repr c.args.column.now)) c.loop-place.place (repr c.loop-place.sum) (repr c.add-sum.result) c.loop-place.invariant
    (g.met.F.Represented.add_law c.loop-place.sum x c.add-sum.result c.add-sum.ensures
    ∙ ap (bit_xor (repr c.loop-place.sum))
    (sym (number-at repr c.args.column.now c.loop-place.place x (omega arith) c.index-column-place.is)))

pub returns : goal.returns
returns g c =
    let all : c.loop-place.place ≡ length c.args.column.now = omega arith in
    c.loop-place.invariant ∙ ap (sum_below (slice_index (map g.F.Represented.repr c.args.column.now))) all
