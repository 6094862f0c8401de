use Rattle.std.proofs.Common.{◌||◌, Bool, ℕ, List, inl, sym, ◌∙◌, ap₂, subst}
use Rattle.transcripts.specs.Commitments.{root_of}
use Rattle.transcripts.specs.Runs.{IsVerdict, StopsProver}
use Rattle.transcripts.proofs.OpeningTurns.{accepted-run}
use Rattle.transcripts.proofs.Outcomes.{outcome-ok, outcome-stops}
use Rattle.transcripts.proofs.commitment.prove_and_verify.Goals as goal

pub returns-in_err-opening-clause-answer : goal.returns-in_err-opening-clause-answer
returns-in_err-opening-clause-answer g c =
    let prover_goes = sym c.failed.ensures ∙ c.if-failed.false in
    let verifier_goes = sym c.failed-else-failed.ensures ∙ c.if-failed-2.false in
    outcome-stops _ _ _ _ c.from_residual.result c.from_residual.ensures.1
    (λ error is. subst
    (StopsProver g.C.CanObserve.observes g.C.GrindingChallenger.passing g.C.GrindingChallenger.witness_bits c.args.tree.now.depth c.args.bits
    (root_of c.args.tree.now) c.args.prover.now) (sym is) (c.in_err-opening.ensures.answer.errors prover_goes))
    (ap₂ (λ (a b : Bool). a || b) prover_goes verifier_goes)

pub returns-in_err-accepted-clause-answer : goal.returns-in_err-accepted-clause-answer
returns-in_err-accepted-clause-answer g c =
    let prover_goes = sym c.failed.ensures ∙ c.if-failed.false in
    let verifier_goes = sym c.failed-else-failed.ensures ∙ c.if-failed-2.false in
    outcome-stops _ _ _ _ c.from_residual-in_err-accepted.result c.from_residual-in_err-accepted.ensures.1
    (λ error is. inl (is ∙ (c.in_err-accepted.ensures.answer.errors verifier_goes).0))
    (ap₂ (λ (a b : Bool). a || b) prover_goes verifier_goes)

pub returns : goal.returns
returns g c =
    let hash = g.H.ByteHasher32.digest c.args.hasher.now in
    let depth = c.args.tree.now.depth in
    let root = root_of c.args.tree.now in
    let proof = c.in_ok-opening.ensures in
    let opening = c.in_ok-opening.opening in
    let says : ℕ → List ℕ → ℕ → Type 0 =
    λ (d : ℕ) (r : List ℕ) (word : ℕ). IsVerdict g.C.CanObserve.observes g.C.GrindingChallenger.passing g.C.GrindingChallenger.checks
    g.C.CanSampleBits.gives_bits hash d c.args.bits r c.args.verifier.now (g.C.GrindingChallenger.number opening.witness) opening.index word
    opening.path.items c.in_ok-accepted.accepted c.accepts.new.challenger in
    let verdict : says depth root opening.word =
    subst (λ (r : List ℕ). says depth r opening.word) c.commitment.ensures.held
    (subst (λ (d : ℕ). says d c.commitment.result.root opening.word) c.commitment.ensures.depth c.in_ok-accepted.ensures.verdict) in
    let going =
    ap₂ (λ (a b : Bool). a || b) (sym c.failed.ensures ∙ c.if-failed.false) (sym c.failed-else-failed.ensures ∙ c.if-failed-2.false) in
    record {
      accepted =
          accepted-run g.C.Transcript.state g.C.CanObserve.observes g.C.GrindingChallenger.passing g.C.GrindingChallenger.checks
          g.C.CanSampleBits.gives_bits g.met.C.CanObserve.observes_law g.met.C.GrindingChallenger.passing_law
          g.met.C.GrindingChallenger.checks_law g.met.C.CanSampleBits.gives_bits_law depth c.args.bits root c.args.prover.now
          c.prove.new.challenger c.args.verifier.now c.accepts.new.challenger (g.C.GrindingChallenger.number opening.witness) proof.opened.0 hash
          opening.index opening.word opening.path.items c.in_ok-accepted.accepted c.requires.state proof.opened.1 proof.opened.2
          (proof.path hash c.requires.tree) verdict;
      verified = (
        g.C.GrindingChallenger.number opening.witness,
        opening.index,
        opening.path.items,
        subst (λ (word : ℕ). says depth root word) proof.word verdict,
      );
      answer = outcome-ok _ _ _ _ _ going (ap₂ (λ (a b : Bool). a || b) proof.answer.goes_on c.in_ok-accepted.ensures.answer.goes_on);
    }
