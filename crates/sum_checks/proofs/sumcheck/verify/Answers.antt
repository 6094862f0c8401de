use Rattle.std.proofs.Common.{◌*◌, ℕ, map, sym, ◌∙◌, ap}
use Rattle.sum_checks.specs.Products.{term_product}
use Rattle.sum_checks.specs.Sumcheck.{statement_of}
use Rattle.sum_checks.specs.Terms.{degree_of}
use Rattle.sum_checks.proofs.SumcheckWhole.{verified-run}
use Rattle.sum_checks.proofs.sumcheck.verify.Goals as goal

pub verify_rounds-requires-clause-count : goal.verify_rounds-requires-clause-count
verify_rounds-requires-clause-count g c =
    c.in_ok-test_messages.ensures.long ∙ ap (λ (d : ℕ). c.args.rounds * d) (sym c.degree-degree.ensures.is)

pub verify_rounds-requires-clause-field : goal.verify_rounds-requires-clause-field
verify_rounds-requires-clause-field g c = c.in_ok-test_messages.ensures.stated.field

pub verify_rounds-requires-clause-going : goal.verify_rounds-requires-clause-going
verify_rounds-requires-clause-going g c = c.in_ok-observe_slice.ensures.answer.goes_on

pub returns-clause-length : goal.returns-clause-length
returns-clause-length g c = c.in_ok-test_messages.ensures.long

pub returns-clause-read : goal.returns-clause-read
returns-clause-read g c =
    let field = g.F.Represented in
    let terms = map (term_product field.repr) c.args.terms.now in
    verified-run g.C.CanObserve.observes g.C.CanSample.gives field.width field.product field.repr c.args.challenger.now
    c.observe_slice.new.self c.verify_rounds.new.challenger
    (statement_of field.width field.product c.args.rounds c.args.count terms (field.repr c.args.claim)) c.as_slice.result.now
    (field.repr c.args.claim) c.args.rounds c.degree-degree.result (degree_of terms) c.args.messages.now c.new.result.items
    c.verify_rounds.new.reduced.point.items (field.repr c.verify_rounds.new.reduced.claim) c.new.ensures.items
    (ap (map field.repr) c.as_slice.ensures.value ∙ c.in_ok-elements.ensures.numbers) c.in_ok-observe_slice.ensures.ok
    c.degree-degree.ensures.is c.in_ok-verify_rounds.ensures.run
