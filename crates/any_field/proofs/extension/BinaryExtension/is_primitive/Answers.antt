use Rattle.std.proofs.Common.{◌≡◌, ℕ, ◌-◌, ◌/◌, ◌%◌, ◌^◌, ◌<◌, length, refl, sym, ◌∙◌, subst, arith}
use Rattle.std.proofs.lemmas.Bool.Decides.{not_from_Decides}
use Rattle.std.proofs.lemmas.Nat.{pow_below}
use Rattle.std.proofs.lemmas.Nat.Gcd.{dvd_refl}
use Rattle.field_base.specs.Powers.{power}
use Rattle.any_field.specs.Contexts.{field_product}
use Rattle.any_field.specs.declared.extension.orders.literals.TheConstants.{PRIMES}
use Rattle.any_field.proofs.ContextFields.{field-at}
use Rattle.any_field.proofs.EuclidSteps.{told}
use Rattle.any_field.proofs.OrderFactors.{full-order, fails-test, nonzero-order, zero-order, tested-more, ones-are}
use Rattle.any_field.proofs.PrimeTable.{leaves-one}
use Rattle.any_field.proofs.extension.BinaryExtension.is_primitive.Goals as goal

pub returns-then-low_bits-eq0-clause-complete :
    goal.returns-then-low_bits-eq0-clause-complete
returns-then-low_bits-eq0-clause-complete c =
    let field = field-at c.args.self.degree c.args.self.tail c.args.self.ratio c.args.self.context c.args.self.irreducible in
    λ full. absurd (zero-order c.args.self.degree (field_product c.args.self.degree c.args.self.tail) field c.args.self.context.wide c.args.x
    (sym c.low_bits.ensures ∙ c.if-low_bits-eq0.true) full)

pub returns-then-fails_at-clause-complete : goal.returns-then-fails_at-clause-complete
returns-then-fails_at-clause-complete c =
    let w = c.args.self.degree in
    let field = field-at w c.args.self.tail c.args.self.ratio c.args.self.context c.args.self.irreducible in
    λ full. absurd (fails-test w (field_product w c.args.self.tail) field.ring (pow_below 0 w c.args.self.context.wide) c.args.x
    c.low_bits-order.result c.prime_at.result (ones-are w c.low_bits-order.result c.args.self.context.narrow c.low_bits-order.ensures)
    c.prime_at.ensures.above (told _ c.fails_at.result c.fails_at.ensures c.if-fails_at.true) full)

pub loop-place-preserved : goal.loop-place-preserved
loop-place-preserved c =
    let w = c.args.self.degree in
    let f = power 1 (field_product w c.args.self.tail) c.args.x in
    tested-more (2 ^ w - 1) PRIMES f c.loop-place.place c.prime_at.result c.prime_at.ensures.entry
    (subst (λ (z : ℕ). (z % c.prime_at.result ≡ 0) × (f (z / c.prime_at.result) ≡ 1) → ⊥)
    (ones-are w c.low_bits-order.result c.args.self.context.narrow c.low_bits-order.ensures)
    (not_from_Decides c.fails_at.result c.fails_at.ensures c.if-fails_at.false)) c.loop-place.invariant

pub returns-clause-sound : goal.returns-clause-sound
returns-clause-sound c =
    let w = c.args.self.degree in
    let times = field_product w c.args.self.tail in
    let field = field-at w c.args.self.tail c.args.self.ratio c.args.self.context c.args.self.irreducible in
    let one_fits = pow_below 0 w c.args.self.context.wide in
    let some : 0 < 2 ^ w - 1 = omega (arith, one_fits) in
    let long : length PRIMES ≡ 233 = refl in
    let whole =
    nonzero-order w times field c.args.self.context.wide c.args.x (λ e. c.if-low_bits-eq0.false (c.low_bits.ensures ∙ e)) in
    λ prime yes. (
      whole,
      full-order w times field.ring one_fits c.args.x (2 ^ w - 1) (2 ^ w - 1) PRIMES some prime (dvd_refl (2 ^ w - 1))
          (leaves-one w c.args.self.context.wide c.args.self.context.narrow) whole
          (λ i within. c.loop-place.invariant i (omega (arith, within, long))),
    )
