use Rattle.std.proofs.Common.{◌≡◌, ◌+◌, ◌-◌, ◌*◌, ◌/◌, ◌%◌, ℕ, ◌<◌, replicate, refl, subst, ◌∙◌, arith}
use Rattle.std.specs.Prelude.{slice_index}
use Rattle.std.proofs.lemmas.List.{get_or-replicate}
use Rattle.field_base.specs.lemmas.BitRing.{bits_ring}
use Rattle.field_base.specs.Tower.{tower_mul}
use Rattle.field_slices.specs.Matrices.{HaveSameRowSpace, IsReducedEchelon}
use Rattle.field_slices.proofs.RowSpaces.{space_then}
use Rattle.bits_packed.specs.BitMatrices.{ArePivotPlaces, bit_entry, present_bit, present_entry}
use Rattle.bits_packed.proofs.BitRows.{echelon_equal, space_equal}
use Rattle.bits_packed.proofs.PendingSums.{places-start, present-none}
use Rattle.bits_packed.proofs.reduction.reduce_strip.Goals as goal

pub loop-column-init : goal.loop-column-init
loop-column-init c =
    let rows = c.args.shape.rows in
    let words = c.args.shape.words in
    let old = bit_entry words c.args.matrix.now in
    let none : (b : ℕ) → b < 64 → slice_index (replicate 64 rows) b ≡ rows = λ b inside. get_or-replicate 64 b rows 0 inside in
    let same : (i j : ℕ) → present_bit rows words c.args.from (replicate 64 rows) c.args.matrix.now i j ≡ old i j =
    present-none rows (64 * (c.args.from / 64)) (slice_index (replicate 64 rows)) old
    (λ b inside. let e = none b inside in omega (arith, e)) in (
      refl,
      refl,
      places-start rows c.args.rank (c.args.from - c.args.from) (slice_index (replicate 64 rows)) none,
      echelon_equal rows c.args.from old (present_bit rows words c.args.from (replicate 64 rows) c.args.matrix.now)
          (λ i j inside fits. same i j) c.args.rank (slice_index c.args.pivots.now) c.requires.reduced,
      space_equal rows (64 * words) old (present_bit rows words c.args.from (replicate 64 rows) c.args.matrix.now)
          (λ i j inside fits. same i j) (tower_mul 0),
      omega arith,
      λ i past. refl,
    )

pub reduce_column-found-requires-clause-places : goal.reduce_column-found-requires-clause-places
reduce_column-found-requires-clause-places c =
    let bit : c.loop-column.column - c.args.from ≡ c.loop-column.column % 64 = omega (arith, c.requires.word, c.requires.few) in
    subst (λ (n : ℕ). ArePivotPlaces c.args.shape.rows c.loop-column.found n (slice_index c.loop-column.places)) bit c.loop-column.invariant.2

pub reduce_column-found-requires-clause-reduced : goal.reduce_column-found-requires-clause-reduced
reduce_column-found-requires-clause-reduced c =
    let word : c.args.from / 64 ≡ c.loop-column.column / 64 = omega (arith, c.requires.word, c.requires.few) in
    subst (λ (n : ℕ). IsReducedEchelon c.args.shape.rows c.loop-column.column c.loop-column.found (slice_index c.loop-column.pivots)
    (present_entry c.args.shape.rows (64 * n) (slice_index c.loop-column.places) (bit_entry c.args.shape.words c.loop-column.matrix))) word
    c.loop-column.invariant.3

pub loop-column-preserved : goal.loop-column-preserved
loop-column-preserved c =
    let rows = c.args.shape.rows in
    let words = c.args.shape.words in
    let column = c.loop-column.column in
    let step = c.reduce_column-found.ensures in
    let so_far = c.loop-column.invariant in
    let bit : column % 64 + 1 ≡ column + 1 - c.args.from = omega (arith, c.requires.word, c.requires.few) in
    let word : column / 64 ≡ c.args.from / 64 = omega (arith, c.requires.word, c.requires.few) in
    let before = bit_entry words c.loop-column.matrix in
    let after = bit_entry words c.reduce_column-found.new.matrix in
    let now = present_bit rows words c.args.from c.loop-column.places c.loop-column.matrix in
    let next = present_bit rows words c.args.from c.reduce_column-found.new.places c.reduce_column-found.new.matrix in (
      step.shape ∙ so_far.0,
      step.room ∙ so_far.1,
      subst (λ (n : ℕ). ArePivotPlaces rows c.reduce_column-found.result n (slice_index c.reduce_column-found.new.places)) bit step.places,
      subst (λ (n : ℕ). IsReducedEchelon rows (column + 1) c.reduce_column-found.result (slice_index c.reduce_column-found.new.pivots)
          (present_entry rows (64 * n) (slice_index c.reduce_column-found.new.places) after)) word step.reduced,
      space_then 1 (tower_mul 0) bits_ring rows (64 * words) (bit_entry words c.args.matrix.now) now next so_far.4
          (subst (λ (n : ℕ). HaveSameRowSpace (tower_mul 0) rows (64 * words)
          (present_entry rows (64 * n) (slice_index c.loop-column.places) before)
          (present_entry rows (64 * n) (slice_index c.reduce_column-found.new.places) after)) word step.space),
      omega (arith, so_far.5, step.grows),
      λ i past. step.rest i past ∙ so_far.6 i (omega (arith, step.grows, past)),
    )

pub returns-clause-reduced : goal.returns-clause-reduced
returns-clause-reduced c =
    let rows = c.args.shape.rows in
    let words = c.args.shape.words in
    let now = present_bit rows words c.args.from c.loop-column.places c.loop-column.matrix in
    let all : c.loop-column.column ≡ c.args.to = omega (arith, c.requires.more) in
    record {
      shape = c.add_sums.ensures.shape ∙ c.loop-column.invariant.0;
      room = c.loop-column.invariant.1;
      reduced = echelon_equal rows c.args.to now (bit_entry words c.add_sums.new.matrix)
          (λ i j inside fits. c.add_sums.ensures.entries i j inside (omega (arith, fits, c.requires.within))) c.loop-column.found
          (slice_index c.loop-column.pivots)
          (subst (λ (n : ℕ). IsReducedEchelon rows n c.loop-column.found (slice_index c.loop-column.pivots) now) all c.loop-column.invariant.3);
      rest = c.loop-column.invariant.6;
      space = space_then 1 (tower_mul 0) bits_ring rows (64 * words) (bit_entry words c.args.matrix.now) now
          (bit_entry words c.add_sums.new.matrix) c.loop-column.invariant.4
          (space_equal rows (64 * words) now (bit_entry words c.add_sums.new.matrix)
          (λ i j inside fits. c.add_sums.ensures.entries i j inside fits) (tower_mul 0));
    }
