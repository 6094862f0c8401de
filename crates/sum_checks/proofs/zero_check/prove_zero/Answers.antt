use Rattle.std.proofs.Common.{◌≡◌, ◌*◌, ℕ, List, inl, inr, map, sym, ◌∙◌, ap, subst, rules}
use Rattle.sum_checks.specs.Products.{term_product}
use Rattle.sum_checks.specs.Terms.{Product, degree_of}
use Rattle.sum_checks.specs.Sumcheck.{messages_of}
use Rattle.sum_checks.specs.ZeroCheck.{zero_check_rows, zero_check_terms}
use Rattle.sum_checks.specs.Refusals.{CanBeStated}
use Rattle.sum_checks.specs.declared.error.ProtocolError.TheVariants.{Memory}
use Rattle.sum_checks.proofs.Refusals.{answer-memory, answer-ok}
use Rattle.sum_checks.proofs.ZeroRuns.{degree-three, honest-of, rows-count, run-long, run-of, zeros-complete, zeros-values}
use Rattle.sum_checks.proofs.zero_check.prove_zero.Goals as goal

pub returns-in_err-sum-clause-answer : goal.returns-in_err-sum-clause-answer
returns-in_err-sum-clause-answer g c =
    let field = g.F.Represented in
    let repr = field.repr in
    let can = c.can_be_proved.ensures.0 c.if-not-can_be_proved.false in
    let begun = c.in_ok-start.ensures in
    let start = c.in_ok-start.start.items in
    let terms : map (term_product repr) c.as_slice-3.result.now ≡ zero_check_terms =
    ap (map (term_product repr)) c.as_slice-3.ensures.value ∙ c.in_ok-terms.ensures in
    let held : c.as_mut_slice.result.now ≡ c.in_ok-rows.rows.items = search rules in
    let rows : map repr c.as_mut_slice.result.now ≡ zero_check_rows field.product (map repr start) (map repr c.args.a.now) (map repr c.args.b.now) (map repr c.args.c.now) =
    ap (map repr) held ∙ c.in_ok-rows.ensures
    ∙ ap (λ (xs : List _). zero_check_rows field.product (map repr xs) (map repr c.args.a.now) (map repr c.args.b.now) (map repr c.args.c.now)) c.as_slice-2.ensures.value in
    let whole = rows-count repr field.product start c.args.a.now c.args.b.now c.args.c.now c.as_mut_slice.result.now c.args.rounds rows begun.length in
    let memory : c.in_err-sum.field-0.0 ≡ Memory =
    elim (c.in_err-sum.ensures.answer.memory begun.goes_on) [
      | inl is ↦ is
      | inr is ↦ absurd (is.1 (record {
        stated = subst (λ (ts : List Product). CanBeStated field.width c.args.rounds 4 ts) (sym terms) can.stated;
        few = can.few;
        whole = whole;
      }))
    ] in
    answer-memory _ _ _ _ c.from_residual-in_err-sum.result c.from_residual-in_err-sum.ensures.1 (λ error is. is ∙ memory)
    (sym c.failed.ensures ∙ c.if-failed.false) (λ error is. is.1 can)

pub returns : goal.returns
returns g c =
    let field = g.F.Represented in
    let law = g.met.F.Field in
    let repr = field.repr in
    let can = c.can_be_proved.ensures.0 c.if-not-can_be_proved.false in
    let start = c.in_ok-start.start.items in
    let begun = c.in_ok-start.ensures in
    let sum = c.in_ok-sum.sum in
    let proof = c.in_ok-sum.ensures in
    let terms : map (term_product repr) c.as_slice-3.result.now ≡ zero_check_terms =
    ap (map (term_product repr)) c.as_slice-3.ensures.value ∙ c.in_ok-terms.ensures in
    let none : repr c.ZERO.result ≡ 0 = ap repr c.ZERO.ensures ∙ g.met.F.PrimeCharacteristicRing.zero_law in
    let held : c.as_mut_slice.result.now ≡ c.in_ok-rows.rows.items = search rules in
    let rows : map repr c.as_mut_slice.result.now ≡ zero_check_rows field.product (map repr start) (map repr c.args.a.now) (map repr c.args.b.now) (map repr c.args.c.now) =
    ap (map repr) held ∙ c.in_ok-rows.ensures
    ∙ ap (λ (xs : List _). zero_check_rows field.product (map repr xs) (map repr c.args.a.now) (map repr c.args.b.now) (map repr c.args.c.now)) c.as_slice-2.ensures.value in
    let long = run-long g.C.CanObserve.observes g.C.CanSample.gives field.width field.product repr _ _ _ _ c.args.rounds sum.messages.items sum.point.items proof.run in
    let honest =
    honest-of field.product _ _ _ (map repr sum.point.items) (λ (d : ℕ). map (map repr) (messages_of d c.args.rounds sum.messages.items)) terms rows proof.honest in
    record {
      run = (
        c.sample_start.new.challenger,
        begun.run,
        run-of g.C.CanObserve.observes g.C.CanSample.gives field.width field.product repr _ _ c.args.rounds _ _ sum.messages.items sum.point.items
            terms none proof.run,
      );
      honest = honest;
      complete =
          zeros-complete repr field.width field.product law.field_law can.stated.field field.range_law start sum.point.items c.args.rounds begun.length long
          c.args.a.now c.args.b.now c.args.c.now _ can.first can.second can.third honest;
      length =
          proof.length ∙ ap (λ (ts : List Product). c.args.rounds * degree_of ts) terms ∙ ap (λ (d : ℕ). c.args.rounds * d) degree-three;
      start = begun.length;
      point = long;
      values =
          zeros-values repr field.width field.product law.field_law can.stated.field field.range_law start sum.point.items c.args.rounds begun.length long
          (map repr c.args.a.now) (map repr c.args.b.now) (map repr c.args.c.now) _ sum.values.items rows proof.count proof.values;
      answer = answer-ok _ _ _ _ _ (sym c.failed.ensures ∙ c.if-failed.false) (λ error is. is.1 can) proof.answer.goes_on;
    }
