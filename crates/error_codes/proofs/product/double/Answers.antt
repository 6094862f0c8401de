use Rattle.std.proofs.Common.{arith}
use Rattle.error_codes.proofs.ShareProducts.{double_is}
use Rattle.error_codes.proofs.product.double.Goals as goal

pub returns : goal.returns
returns c = double_is c.args.field c.reduction.result c.args.byte c.reduction.ensures (omega arith)
