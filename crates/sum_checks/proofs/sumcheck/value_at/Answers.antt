use Rattle.std.proofs.Common.{◌≡◌, ◌*◌, ◌/◌, ◌^◌, ◌≤◌, length, ◌∙◌, arith}
use Rattle.std.proofs.lemmas.List.{length-take-le}
use Rattle.sum_checks.proofs.SumcheckSteps.{cube-even, cube-half}
use Rattle.sum_checks.proofs.sumcheck.value_at.Goals as goal

pub fold-requires : goal.fold-requires
fold-requires g c =
    let round = c.args.round.now in
    let even = cube-even (length round.values.now) round.rounds round.count round.size in
    omega (arith, even)

pub cube_sum-requires-clause-size : goal.cube_sum-requires-clause-size
cube_sum-requires-clause-size g c =
    let round = c.args.round.now in
    let half = cube-half (length round.values.now) round.rounds round.count round.size in
    let long : length c.fold.new.values ≡ length round.values.now = omega arith in
    let all : length round.values.now / 2 ≡ 2 ^ round.rounds * round.count = omega (arith, half) in
    let fits : length round.values.now / 2 ≤ length c.fold.new.values = omega (arith, long) in
    length-take-le (length round.values.now / 2) c.fold.new.values fits ∙ all

pub value_of_pairs-requires-clause-pairs : goal.value_of_pairs-requires-clause-pairs
value_of_pairs-requires-clause-pairs g c = c.are_pairs.ensures.0 c.if-are_pairs.true
