use Rattle.std.proofs.Common.{◌≤◌, arith}
use Rattle.prove_sums.proofs.SoundBits.{many-bits}
use Rattle.prove_sums.proofs.security.bits_of_128.Goals as goal

pub returns-in_default : goal.returns-in_default
returns-in_default c =
    let enough : 6 ≤ c.args.rounds = grind (arith, c.in_default) in
    many-bits c.args.rounds enough c.requires
