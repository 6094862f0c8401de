use Rattle.std.proofs.Common.{◌≡◌, ◌+◌, length, refl, ◌∙◌, ap, arith}
use Rattle.field_base.specs.Powers.{power}
use Rattle.error_codes.proofs.CodeValues.{entry-more}
use Rattle.error_codes.proofs.FieldPowers.{next-root}
use Rattle.error_codes.proofs.field_code.FieldCode.write_roots.Goals as goal

pub loop-m-init : goal.loop-m-init
loop-m-init g c =
    let times = g.F.SymbolField.product c.args.self.now.field in
    let root = c.args.self.now.root in
    let start : c.args.self.now.first_root ≡ c.args.self.now.first_root + 0 = omega arith in
    (c.power_of-x.ensures ∙ ap (power 1 times root) start, refl, λ n below. absurd (omega (arith, below)))

pub loop-m-preserved : goal.loop-m-preserved
loop-m-preserved g c =
    let code = c.args.self.now in
    let times = g.F.SymbolField.product code.field in
    let entries = entry-more (λ n. power 1 times code.root (code.first_root + n)) (length c.args.roots.now) c.loop-m.m _
    c.loop-m.roots (c.loop-m.invariant.1, c.loop-m.invariant.2)
    (omega (arith, c.loop-m.invariant.1, c.loop-m-test.true)) c.loop-m.invariant.0 in (
      next-root times code.root code.first_root c.loop-m.m c.loop-m.x c.multiply-x.result c.loop-m.invariant.0 c.multiply-x.ensures,
      entries.0,
      entries.1,
    )
