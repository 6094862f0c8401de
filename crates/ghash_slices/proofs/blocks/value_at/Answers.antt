use Rattle.std.proofs.Common.{◌∙◌, ap}
use Rattle.std.specs.Simd.Lanes.{number_l}
use Rattle.ghash_slices.proofs.BlockLemmas.{number_at}
use Rattle.ghash_slices.proofs.blocks.value_at.Goals as goal

pub returns : goal.returns
returns c values held =
    c.number_of_bytes.ensures ∙ ap (number_l 256) c.lanes_at.ensures.lanes
    ∙ number_at c.args.bytes.now values c.args.place c.told-bytes c.requires held
