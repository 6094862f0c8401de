use Rattle.std.proofs.Common.{◌≡◌, ◌∙◌, refl, subst, arith}
use Rattle.reed_solomon.specs.ByteFields.{byte_times}
use Rattle.error_codes.specs.Interleaved.{HaveProducts}
use Rattle.error_codes.proofs.LaneRegisters.{products-more, products-none}
use Rattle.error_codes.proofs.lanes.write_tables.Goals as goal

pub loop-j-init : goal.loop-j-init
loop-j-init c = (refl, products-none (byte_times c.args.field) c.args.scalars.now c.args.tables.now)

pub loop-j-preserved : goal.loop-j-preserved
loop-j-preserved c = (
  c.write_table.ensures.long ∙ c.loop-j.invariant.0,
  products-more (byte_times c.args.field) c.args.scalars.now c.loop-j.j c.loop-j.tables c.write_table.new.tables c.write_table.ensures.low
      c.write_table.ensures.high c.write_table.ensures.before c.loop-j.invariant.1,
)

pub returns-clause-products : goal.returns-clause-products
returns-clause-products c =
    let whole : c.loop-j.j ≡ c.args.count = omega (arith, c.loop-j-test.false, c.loop-j.auto.j-end) in
    subst (λ n. HaveProducts (byte_times c.args.field) c.args.scalars.now n c.loop-j.tables) whole c.loop-j.invariant.1
