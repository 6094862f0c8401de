use Rattle.field_slices.proofs.Lines.{lines_are_near}
use Rattle.field_slices.proofs.near_codes.lines_are_near.Goals as goal

pub returns : goal.returns
returns c = lines_are_near
