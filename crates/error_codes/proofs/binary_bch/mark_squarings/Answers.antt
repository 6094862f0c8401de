use Rattle.std.proofs.Common.{◌∙◌, sym, arith}
use Rattle.std.proofs.lemmas.List.{length-set}
use Rattle.field_base.proofs.PowerLemmas.{repeated_square-none}
use Rattle.reed_solomon.specs.ByteFields.{byte_times}
use Rattle.error_codes.proofs.BinaryCodes.{squaring-marked, squarings-none, squared-next}
use Rattle.reed_solomon.proofs.ByteFields.{bytes_are_fields}
use Rattle.error_codes.proofs.binary_bch.mark_squarings.Goals as goal

pub loop-init : goal.loop-init
loop-init c = (
  sym (repeated_square-none 8 1 (byte_times c.args.field) (bytes_are_fields c.args.field).ring c.args.root (omega arith)),
  omega arith,
  λ b below. squarings-none (byte_times c.args.field) (bytes_are_fields c.args.field) c.args.marks.now c.args.root b,
)

pub loop-preserved : goal.loop-preserved
loop-preserved c =
    let times = byte_times c.args.field in
    let field = bytes_are_fields c.args.field in (
      squared-next times field c.args.root c.loop.counter c.loop.next c.multiply-next.result c.loop.invariant.0 c.multiply-next.ensures,
      length-set c.loop.marks _ _ ∙ c.loop.invariant.1,
      squaring-marked times field c.args.marks.now c.loop.marks c.args.root c.loop.next c.loop.counter c.loop.invariant.1 (omega arith)
          c.loop.invariant.0 c.loop.invariant.2,
    )
