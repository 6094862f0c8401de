use Rattle.std.proofs.Common.{◌≡◌, ◌<◌, ℕ, refl, sym, ◌∙◌, arith, ◌%◌, ◌^◌, subst}
use Rattle.std.proofs.lemmas.Nat.{pow_below}
use Rattle.field_base.proofs.PowerLemmas.{power_start, power_step, power_skip, power_end}
use Rattle.error_codes.proofs.field_code.power_of.Goals as goal
use Rattle.error_codes.proofs.field_code.power_of.Goals.{then-rest-eq1, else-rest-eq1}

pub loop-rest-init : goal.loop-rest-init
loop-rest-init g c =
    let s = g.F.SymbolField in
    let law = g.met.F.SymbolField in
    let one = pow_below 0 (s.width c.args.field) (law.wide_law c.args.field) in (
      power_start (s.width c.args.field) 1 (s.product c.args.field) (law.field_law c.args.field).ring one 1 c.args.a
          c.args.exponent refl,
      one,
    )

pub loop-rest-preserved : goal.loop-rest-preserved
loop-rest-preserved g c =
    let s = g.F.SymbolField in
    let law = g.met.F.SymbolField in
    let w = s.width c.args.field in
    let times = s.product c.args.field in
    let one = pow_below 0 w (law.wide_law c.args.field) in
    let ring = (law.field_law c.args.field).ring in
    elim c.if-rest-eq1.branch [
      | then-rest-eq1 b ↦
          let step = power_step w 1 times ring one c.loop-rest.value c.loop-rest.base c.loop-rest.rest b.if-rest-eq1.true in (
            cc (b.value-is, b.multiply-value.ensures, c.multiply-base.ensures, step, c.loop-rest.invariant.0),
            subst (λ (v : ℕ). v < 2 ^ w) (sym b.multiply-value.ensures ∙ sym b.value-is)
                (ring.below c.loop-rest.value c.loop-rest.base),
          )
      | else-rest-eq1 b ↦
          let even : c.loop-rest.rest % 2 ≡ 0 = omega (arith, b.if-rest-eq1.false) in
          let skip = power_skip w 1 times ring one c.loop-rest.base c.loop-rest.rest even in (
            cc (b.value-is, c.multiply-base.ensures, skip, c.loop-rest.invariant.0),
            subst (λ (v : ℕ). v < 2 ^ w) (sym b.value-is) c.loop-rest.invariant.1,
          )
    ]

pub returns : goal.returns
returns g c =
    let s = g.F.SymbolField in
    let law = g.met.F.SymbolField in
    sym (power_end (s.width c.args.field) 1 (s.product c.args.field) (law.field_law c.args.field).ring
    (pow_below 0 (s.width c.args.field) (law.wide_law c.args.field)) c.loop-rest.value c.loop-rest.base c.loop-rest.rest
    c.loop-rest.invariant.1 c.loop-rest-test.false)
    ∙ c.loop-rest.invariant.0
