use Rattle.std.proofs.Common.{[], refl, ◌∙◌}
use Rattle.field_element.specs.Element.{repr_of}
use Rattle.transcript_elements.specs.Challengers.{state_of}
use Rattle.protocols.proofs.SchemeRuns.{memory-alone}
use Rattle.prove_sums.specs.ProofFiles.{file_bytes}
use Rattle.prove_sums.specs.Verdicts.{word_times, word_vector}
use Rattle.prove_sums.proofs.StateRuns.{verdict-on_states}
use Rattle.prove_sums.proofs.word_sums.verify.Goals as goal

pub returns-clause-verdict : goal.returns-clause-verdict
returns-clause-verdict g c =
    let proof = c.args.proof.now in
    let hasher = c.args.hasher.now in
    let front = file_bytes proof.roots.field proof.shape.queries proof.shape.rounds proof.roots.left proof.roots.right [] [] in
    verdict-on_states state_of _ _ _ _ (λ old x new is. is) (λ old x new is. (x.in_range, is)) _ _ _ _ _ _ (λ old bits witness. refl)
    (λ old bits witness new is. is) (λ old bits number new is. is) repr_of repr_of proof.shape.queries proof.shape.rounds proof.elements.items
    (g.H.ByteHasher32.digest hasher) 16 128 word_times word_vector proof.roots.left proof.roots.right proof.nodes.now
    c.in_ok-challenger.challenger (hasher, front, []) c.in_ok-accepted.accepted c.in_ok-challenger.ensures.state
    c.in_ok-accepted.ensures.verdict

pub returns-in_err-accepted-clause-memory : goal.returns-in_err-accepted-clause-memory
returns-in_err-accepted-clause-memory g c =
    memory-alone _ c.from_residual-in_err-accepted.ensures.1
    (λ error is. is ∙ c.in_err-accepted.ensures.memory c.in_ok-challenger.ensures.fresh)
