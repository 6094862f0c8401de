-- The laws of lines.
use Rattle.calculator.proofs.LineLemmas.{AreLinesOf-lines, IsFinished-finished}
use Rattle.calculator.proofs.engine.lines_law.Goals as goal

pub returns : goal.returns
returns c = record { lines = AreLinesOf-lines; finished = IsFinished-finished }
