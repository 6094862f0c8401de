use Rattle.std.proofs.Common.{refl, sym, arith}
use Rattle.field_base.specs.Powers.{power}
use Rattle.field_base.proofs.PowerLemmas.{times-one}
use Rattle.reed_solomon.specs.ByteFields.{byte_times}
use Rattle.reed_solomon.proofs.ByteFields.{bytes_are_fields}
use Rattle.error_codes.proofs.CodeValues.{entry-more, next-product}
use Rattle.error_codes.proofs.code.rising_powers.Goals as goal

pub loop-m-init : goal.loop-m-init
unfolding power
loop-m-init c = (
  sym (times-one 8 1 (byte_times c.args.field) (bytes_are_fields c.args.field).ring c.args.first (omega arith)),
  refl,
  λ n below. absurd (omega (arith, below)),
)

pub loop-m-preserved : goal.loop-m-preserved
loop-m-preserved c =
    let times = byte_times c.args.field in
    let m = c.loop-m.m in
    let entries = entry-more (λ n. times c.args.first (power 1 times c.args.base n)) 256 m c.loop-m.next c.loop-m.powers
    (c.loop-m.invariant.1, c.loop-m.invariant.2) (omega arith) c.loop-m.invariant.0 in (
      next-product 8 times (bytes_are_fields c.args.field) c.args.first c.args.base m c.loop-m.next c.multiply-next.result
          c.loop-m.invariant.0 c.multiply-next.ensures,
      entries.0,
      entries.1,
    )
