use Rattle.std.proofs.Common.{length, refl}
use Rattle.error_codes.specs.Filling.{is_marked}
use Rattle.error_codes.proofs.NearShares.{are-near, near-unmarked}
use Rattle.error_codes.proofs.wrong_shares.combine_correcting.Goals as goal

pub returns-then-not-combine_unmarked-clause-accepted : goal.returns-then-not-combine_unmarked-clause-accepted
returns-then-not-combine_unmarked-clause-accepted c = (
  λ e. absurd (cc),
  λ both.
      c.if-not-combine_unmarked.ensures.agreed.1
      (λ j inside. (
        both.1 j,
        near-unmarked c.args.field c.args.needed c.args.indexes.now (length c.args.secret.now) c.args.shares.now both.1
            (is_marked c.in-Some.wrong) both.2 (c.in-Some.ensures.found both.1 both.2) j inside,
      )),
)

pub returns-clause-accepted : goal.returns-clause-accepted
returns-clause-accepted c = (
  λ done.
      let found =
      are-near c.args.field c.args.needed c.args.indexes.now (length c.args.secret.now) c.args.shares.now (is_marked c.in-Some.wrong)
      (c.if-not-combine_unmarked.ensures.agreed.0 refl) c.in-Some.ensures.few in
      (c.in_ok-check_shares.ensures.accepted.0 refl, found.0, found.1),
  λ both. refl,
)

pub returns-clause-combined : goal.returns-clause-combined
returns-clause-combined c = λ done polynomials near j inside.
    c.if-not-combine_unmarked.ensures.combined refl j (polynomials j) inside
    (near-unmarked c.args.field c.args.needed c.args.indexes.now (length c.args.secret.now) c.args.shares.now polynomials
    (is_marked c.in-Some.wrong) near (c.in-Some.ensures.found polynomials near) j inside)
