use Rattle.std.proofs.Common.{◌∙◌, arith}
use Rattle.reed_solomon.proofs.ByteFields.{bytes_are_fields}
use Rattle.error_codes.proofs.product.multiply_masked.Goals as goal

pub returns : goal.returns
returns c =
    c.image.ensures ∙ c.columns_of.ensures c.args.byte (omega arith)
    ∙ (bytes_are_fields c.args.field).ring.comm c.args.byte c.args.scalar
