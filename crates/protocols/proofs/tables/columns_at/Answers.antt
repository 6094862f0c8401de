use Rattle.std.proofs.Common.{◌≡◌, ◌+◌, ◌*◌, ◌≤◌, ℕ, ◌++◌, length, drop, refl, ◌∙◌, ap, arith}
use Rattle.std.specs.Prelude.{slice_index}
use Rattle.std.proofs.lemmas.List.{length-drop, length-take-le}
use Rattle.std.proofs.Math.Nat.{add-mul}
use native.Mathlib.Nat.{one-mul}
use Rattle.transcripts.specs.Commitments.{row_at}
use Rattle.protocols.proofs.CodeColumns.{rows-more, rows-size}
use Rattle.protocols.proofs.tables.columns_at.Goals as goal

pub places-preserved : goal.places-preserved
places-preserved g c =
    let height = c.args.height in
    let columns = c.args.columns.now in
    let index = c.places.index in
    let place : ℕ = slice_index c.args.places.now index in
    let before = c.places.chosen.items in
    let last = row_at height columns place in
    let joined : c.extend_from_slice.new.self.items ≡ before ++ last =
    c.in_ok-extend_from_slice.ensures.items ∙ ap (λ l. before ++ l) c.row_of.ensures in
    let room : (place + 1) * height ≤ length columns = c.requires index (omega arith) in
    let next : (place + 1) * height ≡ place * height + height =
    add-mul place 1 height ∙ ap (λ (n : ℕ). place * height + n) (one-mul height) in
    let left = length-drop (place * height) columns in
    let whole : length last ≡ height = length-take-le height (drop (place * height) columns) (omega (arith, room, next, left)) in
    record {
      size = rows-size height index before last c.extend_from_slice.new.self.items joined c.places.invariant.size whole;
      each =
          rows-more (λ (i : ℕ) row. row ≡ row_at height columns (slice_index c.args.places.now i)) height index before last
          c.extend_from_slice.new.self.items joined c.places.invariant.size whole c.places.invariant.each refl;
    }
