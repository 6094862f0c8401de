use Rattle.std.proofs.Common.{◌++◌, List, map, refl, ap, ◌∙◌, sym, rules}
use Rattle.std.specs.List.{flat_map}
use Rattle.field_slices.proofs.CubeTables.{none-if_empty, some-unless_empty}
use Rattle.sum_checks.specs.Products.{term_product}
use Rattle.sum_checks.specs.Sumcheck.{term_numbers}
use Rattle.sum_checks.proofs.SumcheckSteps.{appended-two, terms-none}
use Rattle.sum_checks.proofs.TermSteps.{first-rest, within-first, within-rest}
use Rattle.sum_checks.proofs.statement.+push_terms.Goals as goal

pub returns-then-is_empty : goal.returns-then-is_empty
returns-then-is_empty g t c =
    terms-none g.F.Represented.repr c.args.elements.now.items c.args.terms.now (term_product g.F.Represented.repr)
    (none-if_empty _ _ c.is_empty.ensures c.if-is_empty.true)

pub push_term-requires-clause-within : goal.push_term-requires-clause-within
push_term-requires-clause-within g t c =
    within-first (term_product g.F.Represented.repr) _ c.args.terms.now _ c.index-terms-0.result
    (first-rest c.args.terms.now c.index-terms-0.result _ (some-unless_empty _ _ c.is_empty.ensures c.if-is_empty.false) c.index-terms-0.is refl)
    c.requires.within

pub push_terms-requires : goal.push_terms-requires
push_terms-requires g t c =
    let rest =
    within-rest (term_product g.F.Represented.repr) _ c.args.terms.now _ c.index-terms-0.result
    (first-rest c.args.terms.now c.index-terms-0.result _ (some-unless_empty _ _ c.is_empty.ensures c.if-is_empty.false) c.index-terms-0.is refl)
    c.requires.within in
    search rules

pub returns : goal.returns
returns g t c =
    let repr = g.F.Represented.repr in
    let whole =
    first-rest c.args.terms.now c.index-terms-0.result _ (some-unless_empty _ _ c.is_empty.ensures c.if-is_empty.false) c.index-terms-0.is refl in
    appended-two (map repr c.args.elements.now.items) (map repr c.push_term.new.elements.items) (map repr c.push_terms.new.elements.items)
    (term_numbers (term_product repr c.index-terms-0.result)) _ c.in_ok-push_term.ensures c.in_ok-push_terms.ensures
    ∙ ap (λ (ts : List _). map repr c.args.elements.now.items ++ flat_map term_numbers (map (term_product repr) ts)) (sym whole)
