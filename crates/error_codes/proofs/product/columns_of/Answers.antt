use Rattle.std.proofs.Common.{arith}
use Rattle.error_codes.proofs.ShareProducts.{columns_give}
use Rattle.error_codes.proofs.product.columns_of.Goals as goal

pub returns : goal.returns
returns c =
    λ byte fits.
    columns_give c.args.field c.args.factor c.double-second.result c.double-third.result c.double-fourth.result c.double-fifth.result
    c.double-sixth.result c.double-seventh.result c.double-eighth.result byte (omega arith) c.double-second.ensures c.double-third.ensures
    c.double-fourth.ensures c.double-fifth.ensures c.double-sixth.ensures c.double-seventh.ensures c.double-eighth.ensures fits
