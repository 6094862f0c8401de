use Rattle.std.proofs.Common.{ℕ, ◌*◌, ◌%◌, ◌^◌, ◌<◌, ◌≤◌, arith, lit<}
use Rattle.std.proofs.Math.Nat.{pow-le-pow_right}
use Rattle.additive_transforms.proofs.stages.half_of.Goals as goal

few : (s : ℕ) → s < 40 → 1 * 2 ^ s % 18446744073709551616 ≤ 549755813888
few s below =
    let last : s ≤ 39 = omega arith in
    let two : 0 < 2 = lit< tt in
    let bound : 2 ^ s ≤ 2 ^ 39 = pow-le-pow_right two last in
    omega (arith, bound)

pub returns-clause-few : goal.returns-clause-few
returns-clause-few c = few c.args.stage c.requires
