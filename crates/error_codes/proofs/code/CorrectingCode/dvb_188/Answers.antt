use Rattle.std.proofs.Common.{◌≡◌, ◌∙◌, true, false, arith}
use Rattle.error_codes.proofs.Orders.{qr-order, qr-root}
use Rattle.error_codes.proofs.code.CorrectingCode.dvb_188.Goals as goal

pub unreachable-requires : goal.unreachable-requires
unreachable-requires c =
    let no : false ≡ true =
    c.in-Err.ensures.accepted.1 (omega arith, omega arith, omega arith, qr-order 204 (omega arith)) in
    absurd (cc)

pub returns-clause-root : goal.returns-clause-root
returns-clause-root c = c.in-Ok.ensures.made.4 ∙ qr-root
