use Rattle.std.proofs.Common.{ap, ◌∙◌}
use Rattle.sum_checks.proofs.ZeroRuns.{terms-are}
use Rattle.sum_checks.proofs.zero_check.terms_of.Goals as goal

pub returns : goal.returns
returns g c =
    let repr = g.F.Represented.repr in
    let one = g.met.F.PrimeCharacteristicRing.one_law ∙ g.met.F.Field.unit_law in
    terms-are repr c.new-terms.result.items c.push.new.self.items c.push-2.new.self.items c.ONE.result c.ONE-2.result c.new-terms.ensures.items
    c.in_ok-push.ensures.items c.in_ok-push-2.ensures.items (ap repr c.ONE.ensures ∙ one) (ap repr c.ONE-2.ensures ∙ one)
