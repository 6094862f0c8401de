use Rattle.std.proofs.Common.{◌≡◌, true, false, arith}
use Rattle.error_codes.proofs.Orders.{ccsds-order}
use Rattle.error_codes.proofs.code.CorrectingCode.ccsds_223.Goals as goal

pub unreachable-requires : goal.unreachable-requires
unreachable-requires c =
    let no : false ≡ true =
    c.in-Err.ensures.accepted.1 (omega arith, omega arith, omega arith, ccsds-order 255 (omega arith)) in
    absurd (cc)
