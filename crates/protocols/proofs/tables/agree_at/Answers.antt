use Rattle.std.proofs.Common.{◌≡◌, ◌<◌, ℕ, length, map, sym, ◌∙◌, ap, arith}
use Rattle.std.specs.Prelude.{slice_index}
use Rattle.field_slices.specs.Multilinear.{multilinear_value}
use Rattle.field_base.proofs.Places.{number-at}
use Rattle.transcripts.specs.Commitments.{row_at}
use Rattle.protocols.proofs.TableRows.{each-more}
use Rattle.protocols.proofs.tables.agree_at.Goals as goal

pub places-preserved : goal.places-preserved
places-preserved g c =
    let repr = g.F.Represented.repr in
    let place : ℕ = slice_index c.args.places.now c.places.index in
    let within : place < length c.args.word.now = omega (arith, c.if-place-word.false) in
    each-more
    (λ i. (slice_index c.args.places.now i < length c.args.word.now)
    × (multilinear_value g.F.Represented.product (map repr (row_at c.args.height c.args.columns.now i)) (map repr c.args.point.now)
    ≡ slice_index (map repr c.args.word.now) (slice_index c.args.places.now i))) c.places.index c.places.invariant (
      within,
      ap (λ l. multilinear_value g.F.Represented.product (map repr l) (map repr c.args.point.now)) (sym c.row_of.ensures)
          ∙ sym c.evaluate_multilinear-value.ensures ∙ (g.met.F.PrimeCharacteristicRing.eq_law c.evaluate_multilinear-value.result c.index-word-place.result).0
          (sym c.eq-same.ensures ∙ c.if-not-same.false)
          ∙ sym (number-at repr c.args.word.now place c.index-word-place.result within c.index-word-place.is),
    )
