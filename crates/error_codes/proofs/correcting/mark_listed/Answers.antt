use Rattle.std.proofs.Common.{◌+◌, List, length, drop, Bool, refl, ◌∙◌, ap, arith}
use Rattle.std.specs.Prelude.{slice_index, ◌||◌}
use Rattle.std.proofs.lemmas.List.{length-set}
use Rattle.error_codes.specs.Correcting.{is_listed}
use Rattle.error_codes.specs.Filling.{is_marked}
use Rattle.error_codes.proofs.Marking.{none-marked, place-beyond, place-marked, places-end}
use Rattle.error_codes.proofs.correcting.mark_listed.Goals as goal
use Rattle.error_codes.proofs.correcting.mark_listed.Goals.{then-place-marks, else-place-marks}

pub loop-place-init : goal.loop-place-init
loop-place-init c = (
  c.fill.ensures.len,
  λ i below.
      ap (λ (marks : List Bool). is_marked marks i || is_listed c.args.places.now i) (c.fill.ensures.after (λ y is. is))
      ∙ ap (λ (b : Bool). b || is_listed c.args.places.now i) (none-marked (length c.args.marks.now) i),
)

pub loop-place-preserved : goal.loop-place-preserved
loop-place-preserved c =
    let places = c.args.places.now in
    let k = c.loop-place.place-index in
    let room = length c.args.marks.now in
    let long = c.loop-place.invariant.0 in
    elim c.if-place-marks.branch [
      | then-place-marks w ↦ (
        ap length w.marks-is ∙ length-set c.loop-place.marks _ _ ∙ long,
        λ i below.
            ap (λ (marks : List Bool). is_marked marks i || is_listed (drop (k + 1) places) i) w.marks-is
            ∙ place-marked room places k c.loop-place.marks (omega arith) (slice_index places k) refl
            c.loop-place.invariant.1 long (omega (arith, w.if-place-marks.true, long)) i below,
      )
      | else-place-marks w ↦ (
        ap length w.marks-is ∙ long,
        λ i below.
            ap (λ (marks : List Bool). is_marked marks i || is_listed (drop (k + 1) places) i) w.marks-is
            ∙ place-beyond room places k c.loop-place.marks (omega arith) (slice_index places k) refl
            c.loop-place.invariant.1 (omega (arith, w.if-place-marks.false, long)) i below,
      )
    ]

pub returns-clause-listed : goal.returns-clause-listed
returns-clause-listed c = λ i below.
    places-end c.args.places.now c.loop-place.place-index i c.loop-place.marks (omega arith)
    (c.loop-place.invariant.1 i below)
