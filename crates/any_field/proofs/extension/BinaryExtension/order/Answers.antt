use Rattle.std.proofs.Common.{◌≡◌, ℕ, ◌-◌, ◌/◌, ◌%◌, ◌^◌, below_none, length, refl, sym, ◌∙◌, subst, arith}
use Rattle.std.specs.Prelude.{slice_index, ◌≢◌}
use Rattle.std.proofs.lemmas.Nat.{pow_below}
use Rattle.std.proofs.lemmas.Nat.Gcd.{dvd_refl, dvd_of_mod-eq-zero, mod-eq-zero_of_dvd}
use Rattle.field_base.specs.Powers.{power}
use Rattle.any_field.specs.Contexts.{field_product}
use Rattle.any_field.specs.declared.extension.orders.literals.TheConstants.{PRIMES}
use Rattle.any_field.proofs.ContextFields.{field-at}
use Rattle.any_field.proofs.OrderFactors.{IsOrderSoFar, full-order, nonzero-order, order-more, ones-are}
use Rattle.any_field.proofs.PrimeTable.{leaves-one, prime-above}
use Rattle.any_field.proofs.extension.BinaryExtension.order.Goals as goal

pub returns-then-element-eq0-clause-none : goal.returns-then-element-eq0-clause-none
returns-then-element-eq0-clause-none c = sym c.low_bits-element.ensures ∙ c.if-element-eq0.true

pub loop-place-init : goal.loop-place-init
loop-place-init c =
    let w = c.args.self.degree in
    let times = field_product w c.args.self.tail in
    let f = power 1 times c.args.x in
    let field = field-at w c.args.self.tail c.args.self.ratio c.args.self.context c.args.self.irreducible in
    let one_fits = pow_below 0 w c.args.self.context.wide in
    subst (λ (z : ℕ). IsOrderSoFar f (2 ^ w - 1) PRIMES 0 z) (sym (ones-are w c.low_bits-order.result c.args.self.context.narrow c.low_bits-order.ensures))
    (record {
      some = omega (arith, one_fits);
      one = nonzero-order w times field c.args.self.context.wide c.args.x (λ e. c.if-element-eq0.false (c.low_bits-element.ensures ∙ e));
      divides = mod-eq-zero_of_dvd (2 ^ w - 1) (dvd_refl (2 ^ w - 1));
      tested = below_none (λ i. (2 ^ w - 1) % slice_index PRIMES i ≡ 0 → f ((2 ^ w - 1) / slice_index PRIMES i) ≢ 1);
    })

pub without_prime-order-requires-clause-some : goal.without_prime-order-requires-clause-some
without_prime-order-requires-clause-some c = c.loop-place.invariant.some

pub without_prime-order-requires-clause-one : goal.without_prime-order-requires-clause-one
without_prime-order-requires-clause-one c = c.loop-place.invariant.one

pub loop-place-preserved : goal.loop-place-preserved
loop-place-preserved c =
    let w = c.args.self.degree in
    let times = field_product w c.args.self.tail in
    let field = field-at w c.args.self.tail c.args.self.ratio c.args.self.context c.args.self.irreducible in
    let next = c.without_prime-order.ensures in
    order-more w times field.ring (pow_below 0 w c.args.self.context.wide) c.args.x (2 ^ w - 1) PRIMES c.loop-place.place c.loop-place.order
    c.without_prime-order.result c.prime_at.result (λ i below. prime-above i (omega (arith, below))) c.prime_at.ensures.entry c.loop-place.invariant
    next.some next.one next.divides next.last

pub returns-clause-one : goal.returns-clause-one
returns-clause-one c = (c.loop-place.invariant.some, c.loop-place.invariant.one)

pub returns-clause-order : goal.returns-clause-order
returns-clause-order c =
    let w = c.args.self.degree in
    let times = field_product w c.args.self.tail in
    let field = field-at w c.args.self.tail c.args.self.ratio c.args.self.context c.args.self.irreducible in
    let long : length PRIMES ≡ 233 = refl in
    let found = c.loop-place.invariant in
    λ prime. record {
      some = found.some;
      one = found.one;
      least =
          full-order w times field.ring (pow_below 0 w c.args.self.context.wide) c.args.x (2 ^ w - 1) c.loop-place.order PRIMES found.some prime
          (dvd_of_mod-eq-zero c.loop-place.order found.divides) (leaves-one w c.args.self.context.wide c.args.self.context.narrow) found.one
          (λ i within. found.tested i (omega (arith, within, long)));
    }

pub returns-clause-some : goal.returns-clause-some
returns-clause-some c = λ e. c.if-element-eq0.false (c.low_bits-element.ensures ∙ e)
