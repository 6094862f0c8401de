use Rattle.std.proofs.Common.{sym, ◌∙◌, refl}
use Rattle.std.proofs.lemmas.Nat.{pow_below}
use Rattle.field_base.proofs.PowerLemmas.{power_start, power_end}
use Rattle.any_field.specs.Contexts.{field_product}
use Rattle.any_field.proofs.WordRemainders.{context-ring}
use Rattle.any_field.proofs.PowerSteps.{power-odd_step, power-even_step}
use Rattle.any_field.proofs.extension.BinaryExtension.power.Goals as goal
use Rattle.any_field.proofs.extension.BinaryExtension.power.Goals.{then-rest-eq1, else-rest-eq1}

pub loop-rest-init : goal.loop-rest-init
loop-rest-init c =
    let one_fits = pow_below 0 c.args.self.degree c.args.self.context.wide in
    record {
      whole =
          power_start c.args.self.degree 1 (field_product c.args.self.degree c.args.self.tail)
          (context-ring c.args.self.degree c.args.self.tail c.args.self.ratio c.args.self.context) one_fits 1 c.args.x c.args.exponent refl;
      fits = one_fits;
    }

pub loop-rest-preserved : goal.loop-rest-preserved
loop-rest-preserved c =
    let ring = context-ring c.args.self.degree c.args.self.tail c.args.self.ratio c.args.self.context in
    let one_fits = pow_below 0 c.args.self.degree c.args.self.context.wide in
    elim c.if-rest-eq1.branch [
      | then-rest-eq1 w ↦
          power-odd_step c.args.self.degree (field_product c.args.self.degree c.args.self.tail) ring one_fits c.loop-rest.value c.if-rest-eq1.value
          c.loop-rest.base c.square-base.result c.loop-rest.rest _ (w.value-is ∙ w.multiply-value.ensures) c.square-base.ensures w.if-rest-eq1.true
          c.loop-rest.invariant.whole
      | else-rest-eq1 w ↦
          power-even_step c.args.self.degree (field_product c.args.self.degree c.args.self.tail) ring one_fits c.loop-rest.value c.if-rest-eq1.value
          c.loop-rest.base c.square-base.result c.loop-rest.rest _ w.value-is c.square-base.ensures w.if-rest-eq1.false c.loop-rest.invariant.whole
          c.loop-rest.invariant.fits
    ]

pub returns : goal.returns
returns c =
    sym (power_end c.args.self.degree 1 (field_product c.args.self.degree c.args.self.tail)
    (context-ring c.args.self.degree c.args.self.tail c.args.self.ratio c.args.self.context) (pow_below 0 c.args.self.degree c.args.self.context.wide)
    c.loop-rest.value c.loop-rest.base c.loop-rest.rest c.loop-rest.invariant.fits c.loop-rest-test.false)
    ∙ c.loop-rest.invariant.whole
