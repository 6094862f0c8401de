use Rattle.std.proofs.Common.{◌≡◌, ◌+◌, ◌-◌, ◌^◌, ◌≤◌, ◌∷◌, ◌++◌, [], ℕ, zero, suc, inl, List, length, map, take, sym, ◌∙◌, ap, ap₂, subst, arith}
use Rattle.std.specs.Prelude.{slice_index}
use Rattle.std.specs.List.{range_with_len}
use Rattle.std.proofs.lemmas.List.{length-map}
use Rattle.std.proofs.lemmas.List.FromFn.{length-map-range_with_len}
use Rattle.field_base.specs.Basis.{sum_below}
use Rattle.field_base.specs.Chunks.{chunk}
use Rattle.field_slices.specs.Multilinear.{eq_corner, multilinear_value}
use Rattle.sum_checks.proofs.Soundness.{honest_reduces}
use Rattle.protocols.specs.CommitmentScheme.{StopsOpening}
use Rattle.protocols.specs.JointTables.{IsHonestOpeningOf, sent_tables}
use Rattle.protocols.specs.ProductSums.{IsSummed}
use Rattle.small_tables.specs.SmallOpenings.{IsPointDrawn}
use Rattle.small_tables.specs.SmallTables.{mixed, point_scalars}
use Rattle.protocols.proofs.ProductSums.{rounds-fit}
use Rattle.protocols.proofs.SchemeRuns.{fails-as, fails-so}
use Rattle.small_tables.proofs.SmallOpenings.{honest-small}
use Rattle.small_tables.proofs.SmallParts.{mixed_sums_are_parts, parts-made, small_values_are_weighted, weights-made}
use Rattle.protocols.proofs.TableLaws.{column_values_evaluate}
use Rattle.small_tables.proofs.small_openings.open_small.Goals as goal

pub split_at-requires : goal.split_at-requires
split_at-requires g c = omega (arith, c.requires.coordinates)

pub eq_poly-requires : goal.eq_poly-requires
eq_poly-requires g c =
    let front = c.split_at.ensures.front_len in
    omega (arith, front, c.args.parameters.now.few)

pub parts-requires : goal.parts-requires
parts-requires g c =
    let field = g.F.Represented in
    let first = c.split_at.result.0.now in
    ap length c.as_slice-corners.ensures.value ∙ sym (length-map c.in_ok-corners.corners.items field.repr) ∙ ap length c.in_ok-corners.ensures
    ∙ length-map-range_with_len (eq_corner field.product (map field.repr first)) 0 (2 ^ length first)
    ∙ ap (λ (n : ℕ). 2 ^ n) c.split_at.ensures.front_len ∙ sym c.requires.table

pub evaluate_multilinear-value-requires : goal.evaluate_multilinear-value-requires
evaluate_multilinear-value-requires g c =
    let field = g.F.Represented in
    let small = c.args.small.now in
    let back = c.split_at.ensures.back_len in
    let last : small.levels ≡ length c.split_at.result.1.now = omega (arith, back, c.requires.coordinates) in
    ap length c.as_slice-sent.ensures.value ∙ sym (length-map c.in_ok-parts.parts.items field.repr) ∙ ap length c.in_ok-parts.ensures
    ∙ length-map-range_with_len (λ (u : ℕ). sum_below (λ (v : ℕ). field.product (slice_index (map field.repr c.as_slice-corners.result.now) v)
    (chunk small.width u (slice_index (map field.repr c.args.table.now) v))) (length c.args.table.now)) 0 (2 ^ small.levels)
    ∙ ap (λ (n : ℕ). 2 ^ n) last

pub images-requires : goal.images-requires
images-requires g c = ap length c.as_slice.ensures.value ∙ c.in_ok-scalars.ensures.count

pub prove_sum-requires-clause-left : goal.prove_sum-requires-clause-left
prove_sum-requires-clause-left g c =
    let field = g.F.Represented in
    let first = c.split_at.result.0.now in
    let corners = c.as_slice-corners.result.now in
    ap length c.as_slice-weights.ensures.value ∙ sym (length-map c.in_ok-weights.weights.items field.repr) ∙ ap length c.in_ok-weights.ensures
    ∙ length-map-range_with_len (λ (v : ℕ). mixed field.product c.args.small.now.width (map field.repr c.as_slice.result.now)
    (slice_index (map field.repr corners) v)) 0 (length corners)
    ∙ ap length c.as_slice-corners.ensures.value ∙ sym (length-map c.in_ok-corners.corners.items field.repr) ∙ ap length c.in_ok-corners.ensures
    ∙ length-map-range_with_len (eq_corner field.product (map field.repr first)) 0 (2 ^ length first)
    ∙ ap (λ (n : ℕ). 2 ^ n) c.split_at.ensures.front_len

pub open_tables-requires-clause-coordinates : goal.open_tables-requires-clause-coordinates
open_tables-requires-clause-coordinates g c = ap length c.as_slice-2.ensures.value ∙ c.in_ok-summed.ensures.summed.challenge_count

pub open_tables-requires-clause-depth : goal.open_tables-requires-clause-depth
open_tables-requires-clause-depth g c zero d below = c.requires.depth
open_tables-requires-clause-depth g c (suc k) d below = absurd (omega (arith, below))

pub open_tables-requires-clause-count : goal.open_tables-requires-clause-count
open_tables-requires-clause-count g c zero d below = c.requires.count
open_tables-requires-clause-count g c (suc k) d below = absurd (omega (arith, below))

pub returns-clause-honest : goal.returns-clause-honest
returns-clause-honest g c =
    let field = g.F.Represented in
    let ring = g.met.F.Field.field_law.ring in
    let sizes = c.args.parameters.now in
    let m = sizes.queries in
    let n = sizes.variables in
    let small = c.args.small.now in
    let w = small.width in
    let k = small.levels in
    let table = c.args.table.now in
    let point = c.args.point.now in
    let first : List _ = take n point in
    let held = c.args.held.now in
    let parts = c.in_ok-parts.parts.items in
    let corners = c.in_ok-corners.corners.items in
    let observes = g.C.CanObserve.observes in
    let gives = g.C.CanSample.gives in
    let vector : ℕ → ℕ = λ (i : ℕ). g.F.TowerLevel.basis (g.F.TowerLevel.cantor i) in
    let draw = c.in_ok-scalars.ensures.drawn in
    let mix = draw.0 in
    let weights = c.in_ok-weights.weights.items in
    let summed = c.in_ok-summed.summed in
    let packed = c.in_ok-packed.packed in
    let value = c.evaluate_multilinear-value.result in
    let long : length first ≡ n = sym (ap length c.split_at.ensures.front) ∙ c.split_at.ensures.front_len in
    let corners_are : map field.repr corners ≡ map (eq_corner field.product (map field.repr first)) (range_with_len 0 (2 ^ length first)) =
    c.in_ok-corners.ensures
    ∙ ap (λ (l : List _). map (eq_corner field.product (map field.repr l)) (range_with_len 0 (2 ^ length l))) c.split_at.ensures.front in
    let size : length table ≡ 2 ^ length first = c.requires.table ∙ ap (λ (b : ℕ). 2 ^ b) (sym long) in
    let parts_are =
    parts-made field.width field.product w k ring small.space field.repr first corners corners_are table parts size
    (c.in_ok-parts.ensures
    ∙ ap (λ (l : List _). map (λ (u : ℕ). sum_below (λ (v : ℕ). field.product (slice_index (map field.repr l) v)
    (chunk w u (slice_index (map field.repr table) v))) (length table)) (range_with_len 0 (2 ^ k))) c.as_slice-corners.ensures.value) in
    let scalars_are : map field.repr c.as_slice.result.now ≡ point_scalars field.product (map field.repr mix) =
    ap (map field.repr) c.as_slice.ensures.value ∙ draw.2 in
    let weights_are =
    weights-made field.width field.product w k ring small.space field.repr first corners corners_are (point_scalars field.product (map field.repr mix))
    weights
    (c.in_ok-weights.ensures
    ∙ ap₂ (λ (ss : List ℕ) (l : List _). map (λ (v : ℕ). mixed field.product w ss (slice_index (map field.repr l) v)) (range_with_len 0 (length l)))
    scalars_are c.as_slice-corners.ensures.value) in
    honest-small observes gives g.C.GrindingChallenger.passing g.C.GrindingChallenger.checks g.C.CanSampleBits.gives_bits field.repr
    g.F.RawDataSerializable.NUM_BYTES field.width field.product vector (small_values_are_weighted column_values_evaluate) mixed_sums_are_parts
    honest_reduces g.met.F.Field.field_law field.range_law (omega (arith, c.requires.points)) m n w k small.space table held.columns.items held.tree
    point value
    (record {
      parts = parts;
      messages = summed.messages.items;
      packed =
          sent_tables packed.values.items packed.row.items (g.C.GrindingChallenger.number packed.witness) (map (λ list. list.items) packed.columns.items)
          (map (λ list. list.items) packed.nodes.items);
    })
    summed.sum mix weights summed.point.items c.args.challenger.now c.draw_scalars.new.challenger c.prove_sum.new.challenger
    c.requires.coordinates c.requires.table parts_are
    (c.evaluate_multilinear-value.ensures
    ∙ ap₂ (λ (ps ls : List _). multilinear_value field.product (map field.repr ps) (map field.repr ls)) c.as_slice-sent.ensures.value c.split_at.ensures.back)
    (subst
    (λ (l : List _). IsPointDrawn observes gives c.args.challenger.now (point ++ value ∷ l) k mix c.draw_scalars.new.challenger)
    c.as_slice-sent.ensures.value draw.1)
    weights_are
    (subst
    (λ (l : List _). IsSummed observes gives field.repr field.width field.product n l table c.draw_scalars.new.challenger summed.sum
    summed.messages.items summed.point.items c.prove_sum.new.challenger) c.as_slice-weights.ensures.value c.in_ok-summed.ensures.summed)
    c.open_tables.new.challenger
    (subst
    (λ (l : List _). IsHonestOpeningOf observes gives g.C.GrindingChallenger.passing g.C.GrindingChallenger.checks g.C.CanSampleBits.gives_bits
    field.repr g.F.RawDataSerializable.NUM_BYTES field.width field.product vector m n ((held.columns.items, held.tree) ∷ []) l
    (sent_tables packed.values.items packed.row.items (g.C.GrindingChallenger.number packed.witness) (map (λ list. list.items) packed.columns.items)
    (map (λ list. list.items) packed.nodes.items)) c.prove_sum.new.challenger c.open_tables.new.challenger)
    c.as_slice-2.ensures.value (c.in_ok-packed.ensures.honest g.F.RawDataSerializable.NUM_BYTES vector))

pub returns-in_err-scalars-clause-error : goal.returns-in_err-scalars-clause-error
returns-in_err-scalars-clause-error g c going =
    fails-so _ c.from_residual-in_err-scalars.ensures.1 (λ error is. inl (is ∙ c.in_err-scalars.ensures.memory going))

pub returns-in_err-summed-clause-error : goal.returns-in_err-summed-clause-error
returns-in_err-summed-clause-error g c going =
    let width = g.F.Represented.width in
    let wide : 3 ≤ width = omega (arith, c.requires.points) in
    let fits = rounds-fit width c.args.parameters.now.variables c.requires.points c.args.parameters.now.few in
    fails-so _ c.from_residual-in_err-summed.ensures.1
    (λ error is. inl (is ∙ c.in_err-summed.ensures.memory wide fits c.in_ok-scalars.ensures.goes_on))

pub returns-in_err-packed-clause-error : goal.returns-in_err-packed-clause-error
returns-in_err-packed-clause-error g c going =
    fails-as (StopsOpening g.C.GrindingChallenger.passing g.C.GrindingChallenger.witness_bits) _ _ c.from_residual-in_err-packed.ensures.1
    (c.in_err-packed.ensures.error c.in_ok-summed.ensures.goes_on)
