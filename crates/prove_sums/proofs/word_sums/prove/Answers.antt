use Rattle.std.proofs.Common.{[], arith, refl}
use Rattle.field_element.specs.Element.{repr_of}
use Rattle.transcript_elements.specs.Challengers.{state_of}
use Rattle.protocols.specs.CommitmentScheme.{StopsOpening}
use Rattle.protocols.proofs.ProductSums.{rounds-fit}
use Rattle.protocols.proofs.SchemeRuns.{fails-as}
use Rattle.prove_sums.specs.ProofFiles.{file_bytes}
use Rattle.prove_sums.specs.Verdicts.{passes_number, word_times, word_vector}
use Rattle.prove_sums.proofs.StateRuns.{honest-on_states, stops-on_states}
use Rattle.prove_sums.proofs.word_sums.prove.Goals as goal

pub returns-clause-honest : goal.returns-clause-honest
returns-clause-honest g c =
    let shape = c.args.shape.now in
    let roots = c.args.roots.now in
    let left = c.args.left.now in
    let right = c.args.right.now in
    let sent = c.in_ok-sent.sent in
    honest-on_states state_of _ _ _ _ (λ old x new is. is) (λ old x new is. (x.in_range, is)) _ _ _ _ _ _ (λ old bits witness. refl)
    (λ old bits witness new is. is) (λ old bits number new is. is) repr_of repr_of shape.queries shape.rounds sent.elements.items 16 128 word_times word_vector
    left.elements.items right.elements.items left.held.columns.items right.held.columns.items left.held.tree right.held.tree sent.nodes.items
    c.in_ok-challenger.challenger (c.args.hasher.now, file_bytes roots.field shape.queries shape.rounds roots.left roots.right [] [], [])
    c.in_ok-challenger.ensures.state c.in_ok-sent.ensures.honest

pub returns-in_err-sent-clause-error : goal.returns-in_err-sent-clause-error
returns-in_err-sent-clause-error g c =
    let passed = passes_number g.H.ByteHasher32.digest in
    let fits = rounds-fit 128 c.args.shape.now.rounds (omega arith) c.args.shape.now.few in
    fails-as (StopsOpening passed 128) _ _ c.from_residual-in_err-sent.ensures.1
    (stops-on_states state_of _ passed (λ old bits witness. refl) 128 _
    (c.in_err-sent.ensures.error (omega arith) fits c.in_ok-challenger.ensures.fresh))
