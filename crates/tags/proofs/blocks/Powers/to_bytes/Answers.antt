use Rattle.std.proofs.Common.{◌∙◌}
use Rattle.tags.proofs.PreparedKeys.{powers_written}
use Rattle.tags.proofs.blocks.Powers.to_bytes.Goals as goal

pub returns : goal.returns
returns c = λ key are.
    powers_written key _ _ _ _ c.args.self.now are (c.copy_from_slice.ensures.after ∙ c.to_le_bytes.ensures)
    (c.copy_from_slice-2.ensures.after ∙ c.to_le_bytes-2.ensures) (c.copy_from_slice-3.ensures.after ∙ c.to_le_bytes-3.ensures)
    (c.copy_from_slice-4.ensures.after ∙ c.to_le_bytes-4.ensures)
