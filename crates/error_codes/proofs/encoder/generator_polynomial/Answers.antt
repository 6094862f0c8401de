use Rattle.std.proofs.Common.{slice_index, ◌∙◌, arith, lit<}
use Rattle.std.proofs.Common.{replicate}
use Rattle.std.proofs.lemmas.List.{get_or-set_other, get_or-set_same}
use Rattle.reed_solomon.specs.ByteFields.{byte_times}
use Rattle.reed_solomon.proofs.ByteFields.{bytes_are_fields}
use Rattle.error_codes.proofs.CodeValues.{zeros-at}
use Rattle.error_codes.proofs.Encoding.{generator-more}
use Rattle.error_codes.proofs.encoder.generator_polynomial.Goals as goal

pub loop-m-init : goal.loop-m-init
loop-m-init c = (
  get_or-set_same (replicate 256 0) 0 1 0 (lit< tt),
  λ j above below. get_or-set_other (replicate 256 0) 0 j 1 0 (λ e. absurd (omega (arith, e, above))) ∙ zeros-at 256 j,
  λ n below. absurd (omega (arith, below)),
)

pub loop-m-preserved : goal.loop-m-preserved
loop-m-preserved c =
    generator-more 8 (byte_times c.args.field) (lit< tt) (bytes_are_fields c.args.field) 256 c.loop-m.m
    (slice_index c.args.roots.now)
    (slice_index c.loop-m.product) (slice_index c.multiply_by_root-product.result) (omega arith)
    c.multiply_by_root-product.ensures.first c.multiply_by_root-product.ensures.next c.loop-m.invariant
