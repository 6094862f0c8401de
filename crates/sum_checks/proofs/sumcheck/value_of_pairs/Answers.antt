use Rattle.std.proofs.Common.{◌≡◌, ℕ, ◌+◌, ◌*◌, ◌^◌, List, length, map, ap, ap₂, ◌∙◌, arith}
use Rattle.std.specs.Prelude.{bit_xor}
use Rattle.std.specs.Simd.Lanes.{zip2}
use Rattle.std.proofs.lemmas.List.{length-map}
use Rattle.sum_checks.specs.Products.{term_product}
use Rattle.sum_checks.proofs.RoundValues.{lower-numbers, pairs-value, upper-numbers}
use Rattle.sum_checks.proofs.SumcheckSteps.{cube-half}
use Rattle.sum_checks.proofs.sumcheck.value_of_pairs.Goals as goal

pub cube_sum-second-requires-clause-size : goal.cube_sum-second-requires-clause-size
cube_sum-second-requires-clause-size g c =
    let round = c.args.round.now in
    let half = cube-half (length round.values.now) round.rounds round.count round.size in
    let rest = c.split_at.ensures.back_len in
    omega (arith, half, rest)

pub add_slice-requires : goal.add_slice-requires
add_slice-requires g c =
    let round = c.args.round.now in
    let half = cube-half (length round.values.now) round.rounds round.count round.size in
    let rest = c.split_at.ensures.back_len in
    let kept = c.copy_from_slice.ensures.len in
    omega (arith, half, rest, kept, c.requires.room)

pub cube_sum-leading-requires-clause-size : goal.cube_sum-leading-requires-clause-size
cube_sum-leading-requires-clause-size g c =
    let round = c.args.round.now in
    let half = cube-half (length round.values.now) round.rounds round.count round.size in
    let kept = c.copy_from_slice.ensures.len in
    let long : length c.add_slice.new.values ≡ length c.copy_from_slice.new.self = omega arith in
    omega (arith, half, kept, long, c.requires.room)

pub split_at-requires : goal.split_at-requires
split_at-requires g c = omega arith

pub copy_from_slice-requires : goal.copy_from_slice-requires
copy_from_slice-requires g c =
    let front = c.split_at.ensures.front_len in
    let room = c.requires.room in
    omega (arith, front, room)

pub cube_sum-second-requires-clause-few : goal.cube_sum-second-requires-clause-few
cube_sum-second-requires-clause-few g c = let few = c.args.round.now.few in omega (arith, few)

pub cube_sum-second-requires-clause-within : goal.cube_sum-second-requires-clause-within
cube_sum-second-requires-clause-within g c = c.requires.within

pub cube_sum-leading-requires-clause-few : goal.cube_sum-leading-requires-clause-few
cube_sum-leading-requires-clause-few g c = let few = c.args.round.now.few in omega (arith, few)

pub cube_sum-leading-requires-clause-within : goal.cube_sum-leading-requires-clause-within
cube_sum-leading-requires-clause-within g c = c.requires.within

pub returns : goal.returns
returns g c =
    let round = c.args.round.now in
    let field = g.F.Represented in
    let law = g.met.F.Represented in
    let values = round.values.now in
    let upper = c.split_at.result.1.now in
    let leading = c.cube_sum-leading.result in
    let half = cube-half (length values) round.rounds round.count round.size in
    let even : length (map field.repr values) ≡ 2 ^ round.rounds * round.count + 2 ^ round.rounds * round.count =
    length-map values field.repr ∙ omega (arith, half) in
    pairs-value field.width field.product g.met.F.Field.field_law.ring g.met.F.Field.wide_law (map (term_product field.repr) round.terms.now)
    round.count round.rounds c.requires.within c.requires.pairs (map field.repr values) even (field.repr c.args.x) (field.repr c.args.first)
    (field.repr c.cube_sum-second.result) (field.repr leading) (field.repr c.add-3.result) (map field.repr c.split_at.result.0.now)
    (map field.repr upper) (map field.repr c.add_slice.new.values)
    (lower-numbers field.repr values c.split_at.result.0.now c.split_at.ensures.front)
    (upper-numbers field.repr values upper c.split_at.ensures.back)
    (c.add_slice.ensures ∙ ap (λ (xs : List _). zip2 bit_xor (map field.repr xs) (map field.repr upper)) c.copy_from_slice.ensures.after)
    c.requires.first c.cube_sum-second.ensures c.cube_sum-leading.ensures
    (law.add_law c.args.first c.add-2.result c.add-3.result c.add-3.ensures
    ∙ ap (bit_xor (field.repr c.args.first))
    (law.add_law c.mul.result c.mul-2.result c.add-2.result c.add-2.ensures
    ∙ ap₂ bit_xor
    (law.mul_law c.add-linear.result c.args.x c.mul.result c.mul.ensures
    ∙ ap (λ (v : ℕ). field.product v (field.repr c.args.x))
    (law.add_law c.add.result leading c.add-linear.result c.add-linear.ensures
    ∙ ap (λ (v : ℕ). bit_xor v (field.repr leading))
    (law.add_law c.args.first c.cube_sum-second.result c.add.result c.add.ensures)))
    (law.mul_law leading c.square.result c.mul-2.result c.mul-2.ensures ∙ ap (field.product (field.repr leading)) c.square.ensures)))
