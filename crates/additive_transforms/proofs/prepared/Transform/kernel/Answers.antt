use Rattle.std.proofs.Common.{arith}
use Rattle.additive_transforms.proofs.Counts.{pairs_fit}
use Rattle.additive_transforms.proofs.prepared.Transform.kernel.Goals as goal

pub returns : goal.returns
returns g c = let room = pairs_fit c.args.self.now.stages c.args.self.now.few in omega (arith, room)
