use Rattle.std.proofs.Common.{◌≡◌, ◌*◌, ◌/◌, ◌≤◌, ◌^◌, length, map, refl, ap, ◌∙◌, arith, lit<}
use Rattle.std.proofs.Math.Nat.{pow-le-pow_right}
use Rattle.sum_checks.specs.Products.{term_product}
use Rattle.sum_checks.specs.Terms.{honest_at}
use Rattle.std.proofs.lemmas.List.{length-take-le}
use Rattle.sum_checks.proofs.SumcheckSteps.{cube-half, first-value, values-first, values-more}
use Rattle.sum_checks.proofs.sumcheck.message.Goals as goal

pub loop-node-init : goal.loop-node-init
loop-node-init g c =
    let round = c.args.round.now in
    let field = g.F.Represented in
    let law = g.met.F.Field in
    let terms = map (term_product field.repr) round.terms.now in (
      values-first field.repr (honest_at field.product terms round.count round.rounds (map field.repr round.values.now))
          c.new-message.result.items c.push.new.self.items c.cube_sum-first.result 0 c.new-message.ensures.items c.in_ok-push.ensures.items
          (first-value field.repr field.width field.product law.field_law.ring law.wide_law terms round.count round.rounds round.values.now _
          round.size c.cube_sum-first.ensures)
          refl,
      c.requires.room,
    )

pub cube_sum-first-requires-clause-size : goal.cube_sum-first-requires-clause-size
cube_sum-first-requires-clause-size g c =
    let round = c.args.round.now in
    let half = cube-half (length round.values.now) round.rounds round.count round.size in
    let all : length round.values.now / 2 ≡ 2 ^ round.rounds * round.count = omega (arith, half) in
    length-take-le (length round.values.now / 2) round.values.now (omega arith) ∙ all

pub value_at-value-requires-clause-first : goal.value_at-value-requires-clause-first
value_at-value-requires-clause-first g c =
    let round = c.args.round.now in
    let field = g.F.Represented in
    let law = g.met.F.Field in
    first-value field.repr field.width field.product law.field_law.ring law.wide_law (map (term_product field.repr) round.terms.now) round.count
    round.rounds round.values.now _ round.size c.cube_sum-first.ensures

pub interpolation_node-x-requires : goal.interpolation_node-x-requires
interpolation_node-x-requires g c =
    let power : 2 ^ 3 ≤ 2 ^ g.F.Represented.width = pow-le-pow_right (lit< tt) c.requires.field in
    let few = c.degree-degree.ensures.few in
    omega (arith, power, few)

pub loop-node-preserved : goal.loop-node-preserved
loop-node-preserved g c =
    let round = c.args.round.now in
    let field = g.F.Represented in
    let h = honest_at field.product (map (term_product field.repr) round.terms.now) round.count round.rounds (map field.repr round.values.now) in (
      values-more field.repr h c.loop-node.message.items _ c.value_at-value.result c.loop-node.node (omega arith) c.in_ok-push-2.ensures.items
          (c.value_at-value.ensures.value ∙ ap h c.interpolation_node-x.ensures) c.loop-node.invariant.0,
      c.value_at-value.ensures.room ∙ c.loop-node.invariant.1,
    )
