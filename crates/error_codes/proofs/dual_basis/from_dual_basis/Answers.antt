use Rattle.std.proofs.Common.{map, ◌∙◌, ap}
use Rattle.error_codes.specs.DualBasis.{dual_byte}
use Rattle.error_codes.proofs.DualBytes.{each-back}
use Rattle.error_codes.proofs.dual_basis.from_dual_basis.Goals as goal

pub returns : goal.returns
returns c =
    ap (map dual_byte) c.map_bytes.ensures ∙ each-back c.args.symbols.now c.bytes_fit.ensures
