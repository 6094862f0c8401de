use Rattle.std.proofs.Common.{◌∙◌, ap}
use Rattle.field_space.proofs.PowerItems.{powers_of}
use Rattle.field_space.proofs.powers.AnyHasPowers.powers.Goals as goal

pub returns : goal.returns
returns g c =
    let ring = g.R.Represented in
    powers_of ring.repr ring.unit ring.product c.of.result (ring.repr c.args.self.now) (ap ring.repr c.of.ensures.base)
    (ap ring.repr (c.of.ensures.current ∙ c.ONE.ensures) ∙ g.met.R.PrimeCharacteristicRing.one_law)
