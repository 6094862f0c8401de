-- Zeros in front of a number's digits change nothing.
use Rattle.std.proofs.Common.{refl, ◌∙◌}
use Rattle.calculator.proofs.ModulusLemmas.{operand-padded}
use Rattle.calculator.proofs.chosen.hexadecimal_value.Goals as goal

pub returns : goal.returns
returns c = c.operand_value.ensures ∙ rw (c.copy_from_slice.ensures.after) (operand-padded _ _ c.args.word.now c.requires refl refl)
