use Rattle.std.proofs.Common.{map, sym, ◌∙◌, ap}
use Rattle.sum_checks.specs.Products.{term_product}
use Rattle.sum_checks.specs.Sumcheck.{statement_of}
use Rattle.sum_checks.specs.Terms.{degree_of}
use Rattle.sum_checks.proofs.Refusals.{answer-ok}
use Rattle.sum_checks.proofs.SumcheckWhole.{left-count, left-values, proved-run}
use Rattle.sum_checks.proofs.sumcheck.prove.Goals as goal

pub prove_rounds-requires-clause-size : goal.prove_rounds-requires-clause-size
prove_rounds-requires-clause-size g c =
    (c.can_be_proved.ensures.0 c.if-not-can_be_proved.false).whole

pub prove_rounds-requires-clause-going : goal.prove_rounds-requires-clause-going
prove_rounds-requires-clause-going g c = c.in_ok-observe_slice.ensures.answer.goes_on

pub prove_rounds-requires-clause-few : goal.prove_rounds-requires-clause-few
prove_rounds-requires-clause-few g c = (c.can_be_proved.ensures.0 c.if-not-can_be_proved.false).few

pub prove_rounds-requires-clause-field : goal.prove_rounds-requires-clause-field
prove_rounds-requires-clause-field g c = (c.can_be_proved.ensures.0 c.if-not-can_be_proved.false).stated.field

pub prove_rounds-requires-clause-within : goal.prove_rounds-requires-clause-within
prove_rounds-requires-clause-within g c = (c.can_be_proved.ensures.0 c.if-not-can_be_proved.false).stated.within

pub returns : goal.returns
returns g c =
    let field = g.F.Represented in
    let law = g.met.F.Field in
    let terms = map (term_product field.repr) c.args.terms.now in
    let can = c.can_be_proved.ensures.0 c.if-not-can_be_proved.false in
    let proven = c.prove_rounds.new.proven in
    let whole =
    proved-run g.C.CanObserve.observes g.C.CanSample.gives field.width field.product field.repr terms c.args.count (degree_of terms)
    c.args.challenger.now c.observe_slice.new.self c.prove_rounds.new.challenger
    (statement_of field.width field.product c.args.rounds c.args.count terms (field.repr c.args.claim)) c.as_slice.result.now c.args.rounds
    (map field.repr c.args.values.now) _ proven.messages.items _ proven.point.items proven.values.items c.new.ensures.items
    c.new-2.ensures.items (ap (map field.repr) c.as_slice.ensures.value ∙ c.in_ok-elements.ensures.numbers) c.in_ok-observe_slice.ensures.ok
    c.in_ok-prove_rounds.ensures.run in
    record {
      run = whole.0;
      honest = whole.1;
      length = whole.4;
      field = can.stated.field;
      count =
          left-count field.repr field.product c.args.count c.args.rounds c.args.values.now proven.values.items (map field.repr proven.point.items)
          can.whole whole.3 whole.2;
      values =
          left-values field.repr field.product c.args.count c.args.rounds c.args.values.now proven.values.items (map field.repr proven.point.items)
          can.whole whole.3 whole.2 field.width law.field_law law.wide_law field.range_law;
      answer =
          answer-ok _ _ _ _ _ (sym c.failed.ensures ∙ c.if-failed.false) (λ error is. is.1 can) c.in_ok-prove_rounds.ensures.goes_on;
    }
