use Rattle.std.proofs.lemmas.Bool.Decides.{not_from_Decides}
use Rattle.std.proofs.lemmas.Nat.Gcd.{dvd_refl, mod-eq-zero_of_dvd}
use Rattle.any_field.proofs.EuclidSteps.{told}
use Rattle.any_field.proofs.OrderFactors.{divided-more}
use Rattle.any_field.proofs.extension.BinaryExtension.without_prime.Goals as goal

pub loop-self-init : goal.loop-self-init
loop-self-init c = record {
  some = c.requires.some;
  one = c.requires.one;
  divides = mod-eq-zero_of_dvd c.args.exponent (dvd_refl c.args.exponent);
}

pub loop-self-smaller : goal.loop-self-smaller
loop-self-smaller c =
    let fails = told _ c.fails_at.result c.fails_at.ensures c.loop-self-test.true in
    (divided-more c.args.exponent c.loop-self.rest c.args.prime c.requires.above c.loop-self.invariant.some c.loop-self.invariant.divides fails.0).1

pub loop-self-preserved : goal.loop-self-preserved
loop-self-preserved c =
    let fails = told _ c.fails_at.result c.fails_at.ensures c.loop-self-test.true in
    let more = divided-more c.args.exponent c.loop-self.rest c.args.prime c.requires.above c.loop-self.invariant.some c.loop-self.invariant.divides fails.0 in
    record { some = more.0; one = fails.1; divides = more.2 }

pub returns-clause-last : goal.returns-clause-last
returns-clause-last c = λ by is. not_from_Decides c.fails_at.result c.fails_at.ensures c.loop-self-test.false (by, is)
