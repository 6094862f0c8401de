use Rattle.std.proofs.Common.{◌≡◌, ◌↔◌, ◌||◌, Bool, refl, inl, inr, ap₂, ℕ, length, map, subst, sym, ◌∙◌, ap}
use Rattle.std.specs.Prelude.{IsTrue}
use Rattle.sum_checks.specs.Products.{term_product}
use Rattle.sum_checks.specs.Sumcheck.{statement_of}
use Rattle.sum_checks.specs.Terms.{AreWithin}
use Rattle.sum_checks.specs.declared.error.ProtocolError.TheVariants.{Memory, Shape}
use Rattle.sum_checks.specs.Refusals.{CanBeStated}
use Rattle.sum_checks.proofs.Refusals.{answer-memory, answer-ok, no-error, verifier-takes}
use Rattle.sum_checks.proofs.SumcheckWhole.{degree-few, proved-and-accepted}
use Rattle.sum_checks.proofs.sumcheck.prove_and_verify.Goals as goal

pub terms_at-value-requires : goal.terms_at-value-requires
terms_at-value-requires g c =
    subst (λ (n : ℕ). AreWithin n (map (term_product g.F.Represented.repr) c.args.terms.now))
    (sym (ap length c.as_slice-2.ensures.value ∙ c.in_ok-proven.ensures.count)) c.requires.within

pub returns-in_err-reduced-clause-answer : goal.returns-in_err-reduced-clause-answer
returns-in_err-reduced-clause-answer g c =
    let prover_goes = sym c.failed.ensures ∙ c.if-failed.false in
    let verifier_goes = sym c.failed-else-failed.ensures ∙ c.if-failed-2.false in
    let proof = c.in_ok-proven.ensures in
    let stated : (CanBeStated g.F.Represented.width c.args.rounds c.args.count (map (term_product g.F.Represented.repr) c.args.terms.now) → ⊥) → ⊥ =
    λ never. no-error _ Shape (proof.answer.refused prover_goes Shape (refl, λ can. never can.stated)).0 in
    let takes =
    verifier-takes g.F.Represented.width c.args.rounds c.args.count (map (term_product g.F.Represented.repr) c.args.terms.now) _
    (ap length c.as_slice.ensures.value ∙ proof.length) stated c.in_err-reduced.field-0.0 in
    let memory : c.in_err-reduced.field-0.0 ≡ Memory =
    elim (c.in_err-reduced.ensures.answer.memory verifier_goes) [ inl is ↦ is | inr is ↦ absurd (takes is) ] in
    answer-memory _ _ _ _ c.from_residual-in_err-reduced.result c.from_residual-in_err-reduced.ensures.1 (λ error is. is ∙ memory)
    (ap₂ (λ (a b : Bool). a || b) prover_goes verifier_goes) (λ error is. stated is.1)

pub returns : goal.returns
returns g c =
    let field = g.F.Represented in
    let law = g.met.F.Field in
    let terms = map (term_product field.repr) c.args.terms.now in
    let proof = c.in_ok-proven.ensures in
    let verified = c.in_ok-reduced.ensures in
    let prover_goes = sym c.failed.ensures ∙ c.if-failed.false in
    let verifier_goes = sym c.failed-else-failed.ensures ∙ c.if-failed-2.false in
    let whole =
    proved-and-accepted g.C.CanObserve.observes g.C.CanSample.gives field.width field.product field.repr g.C.Transcript.state
    g.met.C.CanObserve.observes_law g.met.C.CanSample.gives_law law.field_law law.wide_law field.range_law field.same_law
    c.args.prover.now _ c.args.verifier.now _
    (statement_of field.width field.product c.args.rounds c.args.count terms (field.repr c.cube_sum-claim.result)) terms c.args.count c.args.rounds
    (field.repr c.cube_sum-claim.result) (field.repr c.in_ok-reduced.reduced.claim) (field.repr c.terms_at-value.result) c.args.values.now
    c.in_ok-proven.proven.messages.items c.as_slice.result.now c.in_ok-proven.proven.point.items c.in_ok-reduced.reduced.point.items
    c.in_ok-proven.proven.values.items c.as_slice-2.result.now c.requires.state proof.field (degree-few field.repr c.args.terms.now) c.requires.within c.requires.size
    c.cube_sum-claim.ensures proof.run proof.honest proof.values c.as_slice.ensures.value c.as_slice-2.ensures.value verified.read.0 verified.read.1
    c.terms_at-value.ensures
    c.eq.result refl proof.length
    (subst (λ (b : Bool). IsTrue b ↔ (field.repr c.in_ok-reduced.reduced.claim ≡ field.repr c.terms_at-value.result)) (sym c.eq.ensures)
    (g.met.F.PrimeCharacteristicRing.eq_law c.in_ok-reduced.reduced.claim c.terms_at-value.result)) in
    record {
      accepted = whole.0;
      ran = whole.1;
      answer =
          answer-ok _ _ _ _ c.eq.result (ap₂ (λ (a b : Bool). a || b) prover_goes verifier_goes)
          (λ error is. no-error _ Shape (proof.answer.refused prover_goes Shape (refl, λ can. is.1 can.stated)).0)
          (ap₂ (λ (a b : Bool). a || b) proof.answer.goes_on verified.answer.goes_on);
    }
