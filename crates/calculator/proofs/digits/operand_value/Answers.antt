-- What `hex` decodes is the number of the operand.
use Rattle.std.proofs.Common.{arith}
use Rattle.calculator.specs.Number.{wide_value}
use Rattle.calculator.proofs.DigitLemmas.{operand_value-read, operand_value-refused, length-front}
use Rattle.calculator.proofs.digits.operand_value.Goals as goal

pub returns-then-is_err : goal.returns-then-is_err
returns-then-is_err c =
    operand_value-refused c.args.num_bytes _ c.args.word.now _ c.decode_to_slice.result
    (length-front c.args.num_bytes _ (omega arith)) c.decode_to_slice.ensures.value c.if-is_err.ensures.value

pub returns : goal.returns
returns c =
    operand_value-read c.args.num_bytes _ c.args.word.now _ c.decode_to_slice.result (wide_value c.from_bytes.result)
    (length-front c.args.num_bytes _ (omega arith)) c.decode_to_slice.ensures.value c.if-is_err.ensures.value c.from_bytes.ensures
