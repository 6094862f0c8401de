use Rattle.std.proofs.Common.{refl, sym, ◌∙◌, arith}
use Rattle.std.proofs.lemmas.Bool.{false≢true, true≢false}
use Rattle.shard_files.proofs.code.StripeCode.new.Goals as goal

pub returns-then-size-eq0-clause-accepted : goal.returns-then-size-eq0-clause-accepted
returns-then-size-eq0-clause-accepted c =
    (λ is. absurd (false≢true is), λ has. absurd (omega (arith, c.if-size-eq0.true, has.2)))

pub returns-then-not-has_code-clause-accepted : goal.returns-then-not-has_code-clause-accepted
returns-then-not-has_code-clause-accepted c = (
  λ is. absurd (false≢true is),
  λ has. absurd (true≢false (sym (c.has_code.ensures.has.1 (has.0, has.1, has.3)) ∙ c.if-not-has_code.true)),
)

pub returns-clause-accepted : goal.returns-clause-accepted
returns-clause-accepted c =
    let has = c.has_code.ensures.has.0 c.if-not-has_code.false in
    (λ is. (has.0, has.1, omega (arith, c.if-size-eq0.false), has.2), λ told. refl)
