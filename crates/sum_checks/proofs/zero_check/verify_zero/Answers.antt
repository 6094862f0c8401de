use Rattle.std.proofs.Common.{◌≡◌, ◌≢◌, ◌*◌, ℕ, List, refl, inl, inr, length, map, sym, ◌∙◌, ap, ap₂, subst}
use Rattle.std.proofs.lemmas.Bool.{true≢false}
use Rattle.sum_checks.specs.Products.{term_product}
use Rattle.sum_checks.specs.SumcheckClaims.{reduced_claim}
use Rattle.sum_checks.specs.Sumcheck.{messages_of}
use Rattle.sum_checks.specs.Terms.{Product, degree_of}
use Rattle.sum_checks.specs.ZeroCheck.{eq_point, zero_check_terms}
use Rattle.sum_checks.specs.Refusals.{VerifierRefuses}
use Rattle.sum_checks.specs.declared.error.ProtocolError.TheVariants.{Length, Memory, Shape}
use Rattle.sum_checks.proofs.Refusals.{answer-memory, answer-ok, answer-refused, refused-length, refused-shape, verifier-takes}
use Rattle.sum_checks.proofs.ZeroRuns.{degree-three, run-of, zeros-sound}
use Rattle.sum_checks.proofs.zero_check.verify_zero.Goals as goal

pub eq_at-weight-requires : goal.eq_at-weight-requires
eq_at-weight-requires g c =
    ap length c.as_slice-4.ensures.value ∙ c.in_ok-sum.ensures.read.2 ∙ sym (ap length c.as_slice-3.ensures.value ∙ c.in_ok-start.ensures.length)

pub returns-then-not-has_length-clause-answer : goal.returns-then-not-has_length-clause-answer
returns-then-not-has_length-clause-answer g c =
    let size = length c.args.messages.now in
    let other : size ≢ c.args.rounds * degree_of zero_check_terms =
    λ is. true≢false (sym (c.has_length.ensures.1 (is ∙ ap (λ (d : ℕ). c.args.rounds * d) degree-three)) ∙ c.if-not-has_length.true) in
    answer-refused _ _ _ _ Length (sym c.failed.ensures ∙ c.if-failed.false) (inl (refl, other))
    (refused-length g.F.Represented.width c.args.rounds 4 zero_check_terms size other) refl

pub returns-then-not-can_be_stated-clause-answer : goal.returns-then-not-can_be_stated-clause-answer
returns-then-not-can_be_stated-clause-answer g c =
    let size = length c.args.messages.now in
    let long : size ≡ c.args.rounds * degree_of zero_check_terms =
    c.has_length.ensures.0 c.if-not-has_length.false ∙ ap (λ (d : ℕ). c.args.rounds * d) (sym degree-three) in
    answer-refused _ _ _ _ Shape (sym c.failed.ensures ∙ c.if-failed.false)
    (inr (refl, long, λ can. true≢false (sym (c.can_be_stated.ensures.1 can) ∙ c.if-not-can_be_stated.true)))
    (refused-shape g.F.Represented.width c.args.rounds 4 zero_check_terms size long) refl

pub returns-in_err-terms-clause-answer : goal.returns-in_err-terms-clause-answer
returns-in_err-terms-clause-answer g c =
    let can = c.can_be_stated.ensures.0 c.if-not-can_be_stated.false in
    let long = c.has_length.ensures.0 c.if-not-has_length.false ∙ ap (λ (d : ℕ). c.args.rounds * d) (sym degree-three) in
    answer-memory _ _ _ _ c.from_residual.result c.from_residual.ensures.1 (λ error is. is)
    (sym c.failed.ensures ∙ c.if-failed.false)
    (verifier-takes g.F.Represented.width c.args.rounds 4 zero_check_terms _ long (λ never. never can))

pub returns-in_err-start-clause-answer : goal.returns-in_err-start-clause-answer
returns-in_err-start-clause-answer g c =
    let can = c.can_be_stated.ensures.0 c.if-not-can_be_stated.false in
    let long = c.has_length.ensures.0 c.if-not-has_length.false ∙ ap (λ (d : ℕ). c.args.rounds * d) (sym degree-three) in
    answer-memory _ _ _ _ c.from_residual-in_err-start.result c.from_residual-in_err-start.ensures.1 (λ error is. is ∙ c.in_err-start.ensures.memory)
    (sym c.failed.ensures ∙ c.if-failed.false)
    (verifier-takes g.F.Represented.width c.args.rounds 4 zero_check_terms _ long (λ never. never can))

pub returns-in_err-sum-clause-answer : goal.returns-in_err-sum-clause-answer
returns-in_err-sum-clause-answer g c =
    let repr = g.F.Represented.repr in
    let width = g.F.Represented.width in
    let can = c.can_be_stated.ensures.0 c.if-not-can_be_stated.false in
    let long = c.has_length.ensures.0 c.if-not-has_length.false ∙ ap (λ (d : ℕ). c.args.rounds * d) (sym degree-three) in
    let terms : map (term_product repr) c.as_slice-2.result.now ≡ zero_check_terms =
    ap (map (term_product repr)) c.as_slice-2.ensures.value ∙ c.in_ok-terms.ensures in
    let takes = verifier-takes width c.args.rounds 4 zero_check_terms _ long (λ never. never can) in
    let memory : c.in_err-sum.field-0.0 ≡ Memory =
    elim (c.in_err-sum.ensures.answer.memory c.in_ok-start.ensures.goes_on) [
      | inl is ↦ is
      | inr is ↦ absurd (takes c.in_err-sum.field-0.0
          (subst (λ (ts : List Product). VerifierRefuses width c.args.rounds 4 ts (length c.args.messages.now) c.in_err-sum.field-0.0) terms is))
    ] in
    answer-memory _ _ _ _ c.from_residual-in_err-sum.result c.from_residual-in_err-sum.ensures.1 (λ error is. is ∙ memory)
    (sym c.failed.ensures ∙ c.if-failed.false) takes

pub returns : goal.returns
returns g c =
    let field = g.F.Represented in
    let repr = field.repr in
    let can = c.can_be_stated.ensures.0 c.if-not-can_be_stated.false in
    let start = c.in_ok-start.start.items in
    let begun = c.in_ok-start.ensures in
    let sum = c.in_ok-sum.sum in
    let read = c.in_ok-sum.ensures.read in
    let long = c.has_length.ensures.0 c.if-not-has_length.false in
    let terms : map (term_product repr) c.as_slice-2.result.now ≡ zero_check_terms =
    ap (map (term_product repr)) c.as_slice-2.ensures.value ∙ c.in_ok-terms.ensures in
    let three : degree_of (map (term_product repr) c.as_slice-2.result.now) ≡ 3 = ap degree_of terms ∙ degree-three in
    let none : repr c.ZERO.result ≡ 0 = ap repr c.ZERO.ensures ∙ g.met.F.PrimeCharacteristicRing.zero_law in
    let claim : repr sum.claim ≡ reduced_claim field.width field.product 0 (map (map repr) (messages_of 3 c.args.rounds c.args.messages.now)) (map repr sum.point.items) =
    read.1
    ∙ ap₂ (λ (n d : ℕ). reduced_claim field.width field.product n (map (map repr) (messages_of d c.args.rounds c.args.messages.now)) (map repr sum.point.items)) none three in
    record {
      length = long;
      start = begun.length;
      point = read.2;
      run = (
        c.sample_start.new.challenger,
        begun.run,
        run-of g.C.CanObserve.observes g.C.CanSample.gives field.width field.product repr _ _ c.args.rounds _ _ c.args.messages.now sum.point.items
            terms none read.0,
      );
      claim = claim;
      weight = c.eq_at-weight.ensures ∙ ap₂ (λ (xs ys : List _). eq_point field.product (map repr xs) (map repr ys)) c.as_slice-3.ensures.value c.as_slice-4.ensures.value;
      sound =
          zeros-sound repr field.width field.product g.met.F.Field.field_law can.field field.range_law start sum.point.items c.args.rounds begun.length read.2
          c.args.messages.now (repr sum.claim) long claim;
      answer =
          answer-ok _ _ _ _ _ (sym c.failed.ensures ∙ c.if-failed.false)
          (verifier-takes field.width c.args.rounds 4 zero_check_terms _ (long ∙ ap (λ (d : ℕ). c.args.rounds * d) (sym degree-three)) (λ never. never can))
          c.in_ok-sum.ensures.answer.goes_on;
    }
