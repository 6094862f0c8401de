use Rattle.std.proofs.Common.{◌∙◌, List, map, ℕ, ap, ap₂}
use Rattle.sum_checks.specs.Sumcheck.{statement_numbers, statement_of}
use Rattle.sum_checks.specs.Terms.{Product}
use Rattle.sum_checks.proofs.zero_check.sample_start.Goals as goal

pub returns-clause-run : goal.returns-clause-run
returns-clause-run g c =
    let field = g.F.Represented in (
      c.as_slice.result.now,
      c.observe_slice.new.self,
      ap (map field.repr) c.as_slice.ensures.value ∙ c.in_ok-elements.ensures.numbers
          ∙ ap₂ (λ (ts : List Product) (n : ℕ). statement_numbers (statement_of field.width field.product c.args.rounds 4 ts n)) c.requires.terms
          (ap field.repr c.ZERO.ensures ∙ g.met.F.PrimeCharacteristicRing.zero_law),
      c.in_ok-observe_slice.ensures.ok,
      c.in_ok-point.ensures.ok,
    )
