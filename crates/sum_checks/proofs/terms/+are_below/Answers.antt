use Rattle.std.proofs.Common.{refl, arith}
use Rattle.std.specs.Prelude.{slice_index}
use Rattle.field_slices.proofs.CubeTables.{none-if_empty, some-unless_empty}
use Rattle.sum_checks.proofs.TermSteps.{below-none, below-more, below-not, first-number}
use Rattle.sum_checks.proofs.terms.+are_below.Goals as goal

pub returns-then-is_empty : goal.returns-then-is_empty
returns-then-is_empty t c =
    below-none c.args.count c.args.numbers.now (none-if_empty _ _ c.is_empty.ensures c.if-is_empty.true)

pub returns-then-first-count : goal.returns-then-first-count
returns-then-first-count t c =
    below-not c.args.count c.args.numbers.now _ (slice_index c.args.numbers.now 0)
    (first-number c.args.numbers.now _ (some-unless_empty _ _ c.is_empty.ensures c.if-is_empty.false) refl) (omega arith)

pub returns : goal.returns
returns t c =
    below-more c.args.count c.args.numbers.now _ (slice_index c.args.numbers.now 0) c.are_below.result
    (first-number c.args.numbers.now _ (some-unless_empty _ _ c.is_empty.ensures c.if-is_empty.false) refl) (omega arith) c.are_below.ensures
