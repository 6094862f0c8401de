use Rattle.std.proofs.Common.{ℕ, List, length, slice_index, sym, ◌∙◌, ap, arith}
use Rattle.std.proofs.lemmas.List.{length-set}
use Rattle.error_codes.specs.Filling.{is_marked}
use Rattle.error_codes.proofs.BinaryCodes.{bytes-added, bytes-left}
use Rattle.error_codes.proofs.Marking.{count-none}
use Rattle.error_codes.proofs.binary_bch.list_bytes.Goals as goal
use Rattle.error_codes.proofs.binary_bch.list_bytes.Goals.{then-marks-b, else-marks-b}

pub loop-b-init : goal.loop-b-init
loop-b-init c = (omega arith, omega arith, sym (count-none (is_marked c.args.marks.now)), λ b below. absurd (omega (arith, below)))

pub loop-b-preserved : goal.loop-b-preserved
loop-b-preserved c =
    let marked = is_marked c.args.marks.now in
    let b = c.loop-b.b in
    let count = c.loop-b.count in
    let bytes = c.loop-b.bytes in
    let most = c.loop-b.invariant.0 in
    let long = c.loop-b.invariant.1 in
    elim c.if-marks-b.branch [
      | then-marks-b w ↦
          let more = bytes-added marked b count bytes w.if-marks-b.true (omega (arith, most, long, c.loop-b-test.true))
          c.loop-b.invariant.2 c.loop-b.invariant.3 in (
            omega (arith, w.count-is, most),
            ap length w.bytes-is ∙ length-set bytes _ _ ∙ long,
            w.count-is ∙ more.0,
            λ a below is.
                let at = more.1 a below is in
                let place = at.1 in
                (at.0, omega (arith, place, w.count-is), ap (λ (list : List ℕ). slice_index list at.0) w.bytes-is ∙ at.2),
          )
      | else-marks-b w ↦
          let same = bytes-left marked b count bytes w.if-marks-b.false c.loop-b.invariant.2 c.loop-b.invariant.3 in (
            omega (arith, w.count-is, most),
            ap length w.bytes-is ∙ long,
            w.count-is ∙ same.0,
            λ a below is.
                let at = same.1 a below is in
                let place = at.1 in
                (at.0, omega (arith, place, w.count-is), ap (λ (list : List ℕ). slice_index list at.0) w.bytes-is ∙ at.2),
          )
    ]
