use Rattle.std.proofs.Common.{◌≡◌, ◌+◌, ◌*◌, ◌∷◌, [], ℕ, List, length, map, refl, ◌∙◌, ap, arith, rules}
use Rattle.std.specs.Prelude.{slice_index}
use Rattle.prove_sums.specs.Shapes.{columns_in, columns_size, element_count, part, row_in, row_size, values_in, witness_in}
use Rattle.prove_sums.proofs.Completeness.{sent-same}
use Rattle.prove_sums.proofs.Sizes.{columns-read, nodes-read, part-same, parts-room}
use Rattle.prove_sums.proofs.SumSteps.{number-at}
use Rattle.prove_sums.proofs.verifying.opened_in.Goals as goal

pub part-requires : goal.part-requires
part-requires g c =
    let proof = c.args.proof.now in
    let m = proof.shape.queries in
    let n = proof.shape.rounds in
    let count : length proof.elements.items ≡ element_count m n = search rules in
    let room =
    parts-room m n c.as_slice-elements.result.now (row_size m n) (columns_size m n) (ap length c.as_slice-elements.ensures.value ∙ count) refl refl in
    omega (arith, room)

pub bounds-elements-behind : goal.bounds-elements-behind
bounds-elements-behind g c =
    let proof = c.args.proof.now in
    let m = proof.shape.queries in
    let n = proof.shape.rounds in
    let count : length proof.elements.items ≡ element_count m n = search rules in
    let room =
    parts-room m n c.as_slice-elements.result.now (row_size m n) (columns_size m n) (ap length c.as_slice-elements.ensures.value ∙ count) refl refl in
    omega (arith, room)

pub part-requires-2 : goal.part-requires-2
part-requires-2 g c =
    let proof = c.args.proof.now in
    let m = proof.shape.queries in
    let n = proof.shape.rounds in
    let count : length proof.elements.items ≡ element_count m n = search rules in
    let room =
    parts-room m n c.as_slice-elements.result.now c.row_size-row_size.result (columns_size m n) (ap length c.as_slice-elements.ensures.value ∙ count)
    c.row_size-row_size.ensures.size refl in
    omega (arith, room)

pub two_parts-requires : goal.two_parts-requires
two_parts-requires g c =
    let proof = c.args.proof.now in
    let m = proof.shape.queries in
    let n = proof.shape.rounds in
    let count : length proof.elements.items ≡ element_count m n = search rules in
    let room =
    parts-room m n c.as_slice-elements.result.now c.row_size-row_size.result c.columns_size.result (ap length c.as_slice-elements.ensures.value ∙ count)
    c.row_size-row_size.ensures.size c.columns_size.ensures.size in
    omega (arith, room)

pub two_parts-requires-2 : goal.two_parts-requires-2
two_parts-requires-2 g c = omega arith

pub returns-clause-sent : goal.returns-clause-sent
returns-clause-sent g c number =
    let proof = c.args.proof.now in
    let m = proof.shape.queries in
    let n = proof.shape.rounds in
    let elements = c.as_slice-elements.result.now in
    let same = c.as_slice-elements.ensures.value in
    let count : length proof.elements.items ≡ element_count m n = search rules in
    let room =
    parts-room m n elements (row_size m n) (columns_size m n) (ap length c.as_slice-elements.ensures.value ∙ count) refl refl in
    let begin : 2 * n + 1 + 3 ≡ 2 * n + 4 = omega arith in
    let place : 2 * n + 1 + 2 ≡ 2 * n + 3 = omega arith in
    sent-same (c.in_ok-values.ensures.items ∙ c.part.ensures.values ∙ ap (values_in n) same)
    (c.in_ok-row.ensures.items ∙ c.part-2.ensures.values ∙ part-same elements begin c.row_size-row_size.ensures.size ∙ ap (row_in m n) same)
    (number-at number elements (2 * n + 1 + 2) c.index-elements-behind.result (omega (arith, room)) c.index-elements-behind.is
    ∙ ap (λ (p : ℕ). slice_index (map number elements) p) place ∙ ap (witness_in number n) same)
    (c.in_ok-columns.ensures ∙ columns-read m n elements c.row_size-row_size.result c.columns_size.result c.row_size-row_size.ensures.size c.columns_size.ensures.size
    ∙ ap (λ (l : List _). columns_in m n 0 l ∷ columns_in m n 1 l ∷ []) same)
    (c.in_ok-nodes.ensures ∙ nodes-read proof.nodes.now)

pub returns-clause-values : goal.returns-clause-values
returns-clause-values g c =
    c.in_ok-values.ensures.items ∙ c.part.ensures.values ∙ ap (values_in c.args.proof.now.shape.rounds) c.as_slice-elements.ensures.value

pub returns-clause-count : goal.returns-clause-count
returns-clause-count g c = ap length (c.in_ok-values.ensures.items) ∙ c.part.ensures.count
