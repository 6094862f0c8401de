use Rattle.std.proofs.Common.{◌≡◌, ℕ, ◌<◌, ◌^◌, ◌%◌, sym, ◌∙◌, ap, subst, arith}
use Rattle.std.proofs.lemmas.Nat.{pow_below}
use Rattle.field_base.proofs.PowerLemmas.{power_start, power_step, power_skip, power_end}
use Rattle.many_words.specs.Fields.{field_of}
use Rattle.many_words.proofs.fields.raise.Goals as goal
use Rattle.many_words.proofs.fields.raise.Goals.{then-rest-eq1, else-rest-eq1}

pub loop-rest-init : goal.loop-rest-init
loop-rest-init g c =
    let field = field_of g.W.Reads.number g.K.FieldKernel.width g.K.FieldKernel.product g.K.FieldKernel.generator in
    let one_fits : 1 < 2 ^ field.width = pow_below 0 field.width g.K.FieldKernel.wide_law in (
      power_start field.width 1 field.times g.K.FieldKernel.field_law.ring one_fits
          (field.number c.one-value.result) (field.number c.args.x) c.args.exponent c.one-value.ensures,
      omega (arith, one_fits, c.one-value.ensures),
    )

pub loop-rest-preserved : goal.loop-rest-preserved
loop-rest-preserved g c =
    let field = field_of g.W.Reads.number g.K.FieldKernel.width g.K.FieldKernel.product g.K.FieldKernel.generator in
    let ring = g.K.FieldKernel.field_law.ring in
    let one_fits : 1 < 2 ^ field.width = pow_below 0 field.width g.K.FieldKernel.wide_law in
    let fits : (n : ℕ) → n ≡ field.times (field.number c.loop-rest.value) (field.number c.loop-rest.base) → n < 2 ^ field.width =
    λ n is. subst (λ m. m < 2 ^ field.width) (sym is) (ring.below _ _) in
    elim c.if-rest-eq1.branch [
      | then-rest-eq1 w ↦
          let step = power_step field.width 1 field.times ring one_fits (field.number c.loop-rest.value)
          (field.number c.loop-rest.base) c.loop-rest.rest w.if-rest-eq1.true in (
            cc (ap field.number w.value-is, w.multiply-value.ensures, c.square-base.ensures, step, c.loop-rest.invariant.0),
            fits _ (ap field.number w.value-is ∙ w.multiply-value.ensures),
          )
      | else-rest-eq1 w ↦
          let even : c.loop-rest.rest % 2 ≡ 0 = omega (arith, w.if-rest-eq1.false) in
          let skip = power_skip field.width 1 field.times ring one_fits (field.number c.loop-rest.base) c.loop-rest.rest even in (
            cc (ap field.number w.value-is, c.square-base.ensures, skip, c.loop-rest.invariant.0),
            subst (λ x. field.number x < 2 ^ field.width) (sym w.value-is) c.loop-rest.invariant.1,
          )
    ]

pub returns : goal.returns
returns g c =
    let field = field_of g.W.Reads.number g.K.FieldKernel.width g.K.FieldKernel.product g.K.FieldKernel.generator in
    let one_fits : 1 < 2 ^ field.width = pow_below 0 field.width g.K.FieldKernel.wide_law in
    sym (power_end field.width 1 field.times g.K.FieldKernel.field_law.ring one_fits (field.number c.loop-rest.value)
    (field.number c.loop-rest.base) c.loop-rest.rest c.loop-rest.invariant.1 c.loop-rest-test.false)
    ∙ c.loop-rest.invariant.0
