use Rattle.std.proofs.Common.{◌≡◌, ◌<◌, length, ◌∙◌, ap, arith, rules}
use Rattle.prove_sums.specs.Shapes.{element_count, sum_in}
use Rattle.prove_sums.proofs.SumSteps.{number-at}
use Rattle.prove_sums.proofs.proof_file.Proof.sum.Goals as goal

pub bounds-elements-0 : goal.bounds-elements-0
bounds-elements-0 g c =
    let proof = c.args.self.now in
    let count : length proof.elements.items ≡ element_count proof.shape.queries proof.shape.rounds = search rules in
    let long = ap length c.as_slice-elements.ensures.value ∙ count in
    omega (arith, long)

pub returns : goal.returns
returns g c =
    let proof = c.args.self.now in
    let repr = g.F.Represented.repr in
    let elements = c.as_slice-elements.result.now in
    let count : length proof.elements.items ≡ element_count proof.shape.queries proof.shape.rounds = search rules in
    let long = ap length c.as_slice-elements.ensures.value ∙ count in
    let some : 0 < length elements = omega (arith, long) in
    number-at repr elements 0 c.index-elements-0.result some c.index-elements-0.is ∙ ap (sum_in repr) c.as_slice-elements.ensures.value
