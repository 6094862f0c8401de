use Rattle.std.proofs.Common.{refl, map, rules}
use Rattle.std.specs.Prelude.{slice_index}
use Rattle.field_slices.proofs.CubeTables.{none-if_empty, some-unless_empty}
use Rattle.sum_checks.proofs.SumcheckSteps.{appended-none, numbers-more}
use Rattle.sum_checks.proofs.TermSteps.{below-rest, first-number}
use Rattle.sum_checks.proofs.statement.+push_numbers.Goals as goal

pub returns-then-is_empty : goal.returns-then-is_empty
returns-then-is_empty g t c =
    appended-none (map g.F.Represented.repr c.args.elements.now.items) c.args.numbers.now
    (none-if_empty _ _ c.is_empty.ensures c.if-is_empty.true)

pub interpolation_node-first-requires : goal.interpolation_node-first-requires
interpolation_node-first-requires g t c = c.requires 0 (some-unless_empty _ _ c.is_empty.ensures c.if-is_empty.false)

pub push_numbers-requires : goal.push_numbers-requires
push_numbers-requires g t c =
    let rest =
    below-rest _ c.args.numbers.now _ (slice_index c.args.numbers.now 0)
    (first-number c.args.numbers.now _ (some-unless_empty _ _ c.is_empty.ensures c.if-is_empty.false) refl) c.requires in
    search rules

pub returns : goal.returns
returns g t c =
    numbers-more g.F.Represented.repr c.args.elements.now.items c.push.new.self.items c.push_numbers.new.elements.items
    c.interpolation_node-first.result (slice_index c.args.numbers.now 0) c.args.numbers.now _ c.in_ok-push.ensures.items
    c.interpolation_node-first.ensures c.in_ok-push_numbers.ensures
    (first-number c.args.numbers.now _ (some-unless_empty _ _ c.is_empty.ensures c.if-is_empty.false) refl)
