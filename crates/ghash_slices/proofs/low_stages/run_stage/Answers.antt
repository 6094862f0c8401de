use Rattle.std.proofs.Common.{◌≡◌, ℕ, ◌+◌, ◌*◌, ◌/◌, ◌<◌, List, ◌∙◌, ap, subst, arith, length, map, refl, ◌≤◌}
use Rattle.std.specs.Prelude.{bit_xor, slice_index}
use Rattle.std.proofs.lemmas.List.{length-map}
use Rattle.ghash_slices.specs.LowStages.{ghash_product}
use Rattle.ghash_slices.proofs.RunPlaces.{upper_inside}
use Rattle.ghash_slices.proofs.RunStages.{pair_added, StageSoFar, stage_ends, stage_starts}
use Rattle.ghash_slices.proofs.low_stages.run_stage.Goals as goal

pub overflow_add-first_upper : goal.overflow_add-first_upper
overflow_add-first_upper g c =
    let inside = upper_inside c.args.bit c.args.start c.requires.bit (omega arith) c.requires.whole c.lower_of.ensures c.half_of-half.ensures
    c.loop-turn.invariant.0 in
    record { fits = omega (arith, inside) }

pub overflow_add-second_upper : goal.overflow_add-second_upper
overflow_add-second_upper g c =
    let inside = upper_inside c.args.bit c.args.start c.requires.bit (omega arith) c.requires.whole c.lower_of-in-loop-turn.ensures c.half_of-half.ensures
    c.loop-turn.invariant.0 in
    record { fits = omega (arith, inside) }

pub overflow_add-third_upper : goal.overflow_add-third_upper
overflow_add-third_upper g c =
    let inside = upper_inside c.args.bit c.args.start c.requires.bit (omega arith) c.requires.whole c.lower_of-in-loop-turn-2.ensures c.half_of-half.ensures
    c.loop-turn.invariant.0 in
    record { fits = omega (arith, inside) }

pub overflow_add-fourth_upper : goal.overflow_add-fourth_upper
overflow_add-fourth_upper g c =
    let inside = upper_inside c.args.bit c.args.start c.requires.bit (omega arith) c.requires.whole c.lower_of-in-loop-turn-3.ensures c.half_of-half.ensures
    c.loop-turn.invariant.0 in
    record { fits = omega (arith, inside) }

pub number_at-requires : goal.number_at-requires
number_at-requires g c =
    upper_inside c.args.bit c.args.start c.requires.bit (omega arith) c.requires.whole c.lower_of.ensures c.half_of-half.ensures
    c.loop-turn.invariant.0

pub number_at-requires-in-loop-turn : goal.number_at-requires-in-loop-turn
number_at-requires-in-loop-turn g c =
    upper_inside c.args.bit c.args.start c.requires.bit (omega arith) c.requires.whole c.lower_of-in-loop-turn.ensures c.half_of-half.ensures
    c.loop-turn.invariant.0

pub number_at-requires-in-loop-turn-2 : goal.number_at-requires-in-loop-turn-2
number_at-requires-in-loop-turn-2 g c =
    upper_inside c.args.bit c.args.start c.requires.bit (omega arith) c.requires.whole c.lower_of-in-loop-turn-2.ensures c.half_of-half.ensures
    c.loop-turn.invariant.0

pub number_at-requires-in-loop-turn-3 : goal.number_at-requires-in-loop-turn-3
number_at-requires-in-loop-turn-3 g c =
    upper_inside c.args.bit c.args.start c.requires.bit (omega arith) c.requires.whole c.lower_of-in-loop-turn-3.ensures c.half_of-half.ensures
    c.loop-turn.invariant.0

pub add_to_pair-requires-clause-inside : goal.add_to_pair-requires-clause-inside
add_to_pair-requires-clause-inside g c =
    upper_inside c.args.bit c.args.start c.requires.bit (omega arith) c.requires.whole c.lower_of.ensures c.half_of-half.ensures
    c.loop-turn.invariant.0

pub add_to_pair-requires-in-loop-turn-clause-inside : goal.add_to_pair-requires-in-loop-turn-clause-inside
add_to_pair-requires-in-loop-turn-clause-inside g c =
    upper_inside c.args.bit c.args.start c.requires.bit (omega arith) c.requires.whole c.lower_of-in-loop-turn.ensures c.half_of-half.ensures
    (c.add_to_pair.auto.values ∙ c.loop-turn.invariant.0)

pub add_to_pair-requires-in-loop-turn-2-clause-inside : goal.add_to_pair-requires-in-loop-turn-2-clause-inside
add_to_pair-requires-in-loop-turn-2-clause-inside g c =
    upper_inside c.args.bit c.args.start c.requires.bit (omega arith) c.requires.whole c.lower_of-in-loop-turn-2.ensures c.half_of-half.ensures
    (c.add_to_pair-in-loop-turn.auto.values ∙ c.add_to_pair.auto.values ∙ c.loop-turn.invariant.0)

pub add_to_pair-requires-in-loop-turn-3-clause-inside : goal.add_to_pair-requires-in-loop-turn-3-clause-inside
add_to_pair-requires-in-loop-turn-3-clause-inside g c =
    upper_inside c.args.bit c.args.start c.requires.bit (omega arith) c.requires.whole c.lower_of-in-loop-turn-3.ensures c.half_of-half.ensures
    (c.add_to_pair-in-loop-turn-2.auto.values ∙ c.add_to_pair-in-loop-turn.auto.values ∙ c.add_to_pair.auto.values ∙ c.loop-turn.invariant.0)

pub loop-turn-init : goal.loop-turn-init
loop-turn-init g c = (
  refl,
  stage_starts c.args.twiddles.now c.args.low.now c.args.bit c.args.start (map g.W.Reads.number c.args.values.now),
)

pub loop-turn-preserved : goal.loop-turn-preserved
loop-turn-preserved g c =
    let bit = c.args.bit in
    let start = c.args.start in
    let turn = c.loop-turn.turn in
    let twiddles = c.args.twiddles.now in
    let low = c.args.low.now in
    let value = g.W.Reads.number in
    let old = map value c.args.values.now in
    let values = map value c.loop-turn.values in
    let whole : start + 16 ≤ length old = omega (arith, c.requires.whole, length-map c.args.values.now value) in
    let fits = c.numbers_fit.ensures in
    let few : 4 * turn + 3 < 8 = omega arith in
    let half = c.half_of-half in
    let products = c.multiply_four-products in
    let so_far = c.loop-turn.invariant.1 in
    let scaled = λ (m : ℕ). ghash_product (bit_xor (slice_index twiddles bit) (slice_index low (m / half.result))) in
    let first =
    pair_added twiddles low bit start (4 * turn) (4 * turn) half.result (start + c.lower_of.result) (slice_index products.result 0) old values values
    (map value c.add_to_pair.new.values) c.requires.bit (omega arith) (omega arith) whole fits half.ensures (ap (λ (n : ℕ). start + n) c.lower_of.ensures)
    so_far so_far (ap (λ (l : List ℕ). slice_index l 0) products.ensures ∙ ap (scaled (4 * turn)) c.number_at.ensures) c.add_to_pair.ensures in
    let second =
    pair_added twiddles low bit start (4 * turn) (4 * turn + 1) half.result (start + c.lower_of-in-loop-turn.result) (slice_index products.result 1) old values (map value c.add_to_pair.new.values)
    (map value c.add_to_pair-in-loop-turn.new.values) c.requires.bit (omega arith) (omega arith) whole fits half.ensures (ap (λ (n : ℕ). start + n) c.lower_of-in-loop-turn.ensures)
    so_far first (ap (λ (l : List ℕ). slice_index l 1) products.ensures ∙ ap (scaled (4 * turn + 1)) c.number_at-in-loop-turn.ensures) c.add_to_pair-in-loop-turn.ensures in
    let third_next : 4 * turn + 1 + 1 ≡ 4 * turn + 2 = omega arith in
    let third_so_far = subst (λ (n : ℕ). StageSoFar twiddles low bit start n old (map value c.add_to_pair-in-loop-turn.new.values)) third_next second in
    let third =
    pair_added twiddles low bit start (4 * turn) (4 * turn + 2) half.result (start + c.lower_of-in-loop-turn-2.result) (slice_index products.result 2) old values (map value c.add_to_pair-in-loop-turn.new.values)
    (map value c.add_to_pair-in-loop-turn-2.new.values) c.requires.bit (omega arith) (omega arith) whole fits half.ensures (ap (λ (n : ℕ). start + n) c.lower_of-in-loop-turn-2.ensures)
    so_far third_so_far (ap (λ (l : List ℕ). slice_index l 2) products.ensures ∙ ap (scaled (4 * turn + 2)) c.number_at-in-loop-turn-2.ensures) c.add_to_pair-in-loop-turn-2.ensures in
    let fourth_next : 4 * turn + 2 + 1 ≡ 4 * turn + 3 = omega arith in
    let fourth_so_far = subst (λ (n : ℕ). StageSoFar twiddles low bit start n old (map value c.add_to_pair-in-loop-turn-2.new.values)) fourth_next third in
    let fourth =
    pair_added twiddles low bit start (4 * turn) (4 * turn + 3) half.result (start + c.lower_of-in-loop-turn-3.result) (slice_index products.result 3) old values (map value c.add_to_pair-in-loop-turn-2.new.values)
    (map value c.add_to_pair-in-loop-turn-3.new.values) c.requires.bit (omega arith) (omega arith) whole fits half.ensures (ap (λ (n : ℕ). start + n) c.lower_of-in-loop-turn-3.ensures)
    so_far fourth_so_far (ap (λ (l : List ℕ). slice_index l 3) products.ensures ∙ ap (scaled (4 * turn + 3)) c.number_at-in-loop-turn-3.ensures) c.add_to_pair-in-loop-turn-3.ensures in
    let next : 4 * turn + 3 + 1 ≡ 4 * (turn + 1) = omega arith in (
      c.add_to_pair-in-loop-turn-3.auto.values ∙ c.add_to_pair-in-loop-turn-2.auto.values ∙ c.add_to_pair-in-loop-turn.auto.values ∙ c.add_to_pair.auto.values
          ∙ c.loop-turn.invariant.0,
      subst (λ (n : ℕ). StageSoFar twiddles low bit start n old (map value c.add_to_pair-in-loop-turn-3.new.values)) next fourth,
    )

pub returns-clause-run : goal.returns-clause-run
returns-clause-run g c =
    stage_ends c.args.twiddles.now c.args.low.now c.args.bit c.args.start (4 * c.loop-turn.turn)
    (map g.W.Reads.number c.args.values.now) (map g.W.Reads.number c.loop-turn.values) c.requires.bit (omega arith)
    c.loop-turn.invariant.1
