-- The digits that are written are those of the last bytes of all 24.
use Rattle.std.proofs.Common.{arith}
use Rattle.calculator.specs.Number.{wide_value}
use Rattle.calculator.proofs.DigitLemmas.{text-written, on_ok}
use Rattle.calculator.proofs.text.Answer.from_number.Goals as goal

pub returns : goal.returns
returns c =
    text-written c.args.num_bytes (wide_value c.args.number) c.to_bytes-all_bytes.result c.encode_to_slice-encoded.new.output _ (omega arith)
    c.to_bytes-all_bytes.ensures (on_ok c.encode_to_slice-encoded.result _ c.if-is_err.ensures.value c.encode_to_slice-encoded.ensures.written)
