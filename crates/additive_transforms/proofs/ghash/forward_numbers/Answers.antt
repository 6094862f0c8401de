use Rattle.std.proofs.Common.{length, refl}
use Rattle.additive_transforms.proofs.Counts.{transform_room}
use Rattle.additive_transforms.proofs.ghash.forward_numbers.Goals as goal

pub forward-requires : goal.forward-requires
forward-requires g c = transform_room (length c.args.values.now) 0 refl c.requires
