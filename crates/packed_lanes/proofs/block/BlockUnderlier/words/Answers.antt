use Rattle.std.proofs.Common.{◌∙◌}
use Rattle.std.proofs.lemmas.List.{map-id}
use Rattle.packed_lanes.specs.lemmas.Joined.{chunks_of_whole}
use Rattle.packed_lanes.proofs.block.BlockUnderlier.words.Goals as goal

pub returns : goal.returns
returns g c = map-id c.args.self.now.words ∙ chunks_of_whole 64 g.row.N c.args.self.now.words c.checked-row.ensures.whole
