use Rattle.std.proofs.Common.{slice_index, refl, ◌∙◌, ap₂, arith}
use Rattle.std.proofs.lemmas.List.{length-set}
use Rattle.std.specs.Prelude.{bit_xor}
use Rattle.field_base.specs.Powers.{power}
use Rattle.error_codes.proofs.CodeValues.{entry-over, next-product}
use Rattle.error_codes.proofs.field_code.values.add_powers.Goals as goal

pub loop-m-init : goal.loop-m-init
unfolding power
loop-m-init g c = (c.multiply-term.ensures, refl, (λ n below. absurd (omega (arith, below))), λ n above. refl)

pub loop-m-preserved : goal.loop-m-preserved
loop-m-preserved g c =
    let times = g.F.SymbolField.product c.args.field in
    let old = c.args.values.now in
    let m = c.loop-m.m in
    let entries = entry-over m _ (λ n. bit_xor (slice_index old n) (times c.args.factor (power 1 times c.args.point n))) c.loop-m.values old
    (omega (arith, c.loop-m-test.true, c.loop-m.invariant.1))
    (ap₂ bit_xor (c.loop-m.invariant.3 m (omega arith)) c.loop-m.invariant.0)
    (c.loop-m.invariant.2, c.loop-m.invariant.3) in (
      next-product (g.F.SymbolField.width c.args.field) times (g.met.F.SymbolField.field_law c.args.field) c.args.factor c.args.point m
          c.loop-m.term c.multiply-term-in-loop-m.result c.loop-m.invariant.0 c.multiply-term-in-loop-m.ensures,
      length-set c.loop-m.values m _ ∙ c.loop-m.invariant.1,
      entries.0,
      entries.1,
    )
