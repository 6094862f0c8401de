-- The bytes of both words side by side.
use Rattle.std.proofs.Common.{sym, arith}
use Rattle.calculator.proofs.NumberLemmas.{bytes-joined}
use Rattle.calculator.proofs.number.Number.to_bytes.Goals as goal

pub returns : goal.returns
returns c =
    rw (c.copy_from_slice.ensures.after, c.to_be_bytes.ensures, c.copy_from_slice-2.ensures.after, c.to_be_bytes-2.ensures)
    (sym (bytes-joined 8 16 c.args.self.high c.args.self.low (omega arith)))
