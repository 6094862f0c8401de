use Rattle.tags.proofs.Storing.{zeros_behind}
use Rattle.tags.proofs.state.padded_block.Goals as goal

pub returns : goal.returns
returns c = zeros_behind c.copy_from_slice.new.self c.args.bytes.now c.copy_from_slice.ensures.after c.requires
