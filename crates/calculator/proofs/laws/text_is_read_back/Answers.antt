-- The law of texts.
use Rattle.calculator.proofs.DigitLemmas.{operand_value-hex_text}
use Rattle.calculator.proofs.laws.text_is_read_back.Goals as goal

pub returns : goal.returns
returns c = operand_value-hex_text
