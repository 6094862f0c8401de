use Rattle.std.proofs.Common.{◌≡◌, ◌<◌, ℕ, refl, sym, ◌∙◌, arith, ◌%◌, lit<, subst}
use Rattle.field_base.proofs.PowerLemmas.{power_start, power_step, power_skip, power_end}
use Rattle.reed_solomon.specs.ByteFields.{byte_times}
use Rattle.reed_solomon.proofs.ByteFields.{bytes_are_fields}
use Rattle.reed_solomon.proofs.byte_field.power_of.Goals as goal
use Rattle.reed_solomon.proofs.byte_field.power_of.Goals.{then-rest-eq1, else-rest-eq1}

pub loop-rest-init : goal.loop-rest-init
loop-rest-init c = (
  power_start 8 1 (byte_times c.args.field) (bytes_are_fields c.args.field).ring
      (lit< tt) 1 c.args.a c.args.exponent refl,
  lit< tt,
)

pub loop-rest-preserved : goal.loop-rest-preserved
loop-rest-preserved c =
    let ring = (bytes_are_fields c.args.field).ring in
    elim c.if-rest-eq1.branch [
      | then-rest-eq1 w ↦
          let step = power_step 8 1 (byte_times c.args.field) ring (lit< tt) c.loop-rest.value c.loop-rest.base
          c.loop-rest.rest w.if-rest-eq1.true in (
            cc (w.value-is, w.multiply-value.ensures, c.multiply-base.ensures, step, c.loop-rest.invariant.0),
            subst (λ (v : ℕ). v < 256) (sym w.multiply-value.ensures ∙ sym w.value-is)
                (ring.below c.loop-rest.value c.loop-rest.base),
          )
      | else-rest-eq1 w ↦
          let even : c.loop-rest.rest % 2 ≡ 0 = omega (arith, w.if-rest-eq1.false) in
          let skip = power_skip 8 1 (byte_times c.args.field) ring (lit< tt) c.loop-rest.base c.loop-rest.rest even in (
            cc (w.value-is, c.multiply-base.ensures, skip, c.loop-rest.invariant.0),
            subst (λ (v : ℕ). v < 256) (sym w.value-is) c.loop-rest.invariant.1,
          )
    ]

pub returns : goal.returns
returns c =
    let ring = (bytes_are_fields c.args.field).ring in
    sym (power_end 8 1 (byte_times c.args.field) ring (lit< tt) c.loop-rest.value c.loop-rest.base c.loop-rest.rest
    c.loop-rest.invariant.1 c.loop-rest-test.false)
    ∙ c.loop-rest.invariant.0
