use Rattle.std.proofs.Common.{◌+◌, ◌*◌, ◌≤◌, ℕ, ap, arith}
use Rattle.std.proofs.Math.Nat.{mul-le-mul_right}
use Rattle.transcripts.proofs.merkle_tree.MerkleTree.over_rows.Goals as goal

pub row_of-requires : goal.row_of-requires
row_of-requires g c =
    let inside : c.leaves.index + 1 ≤ c.power_of_two-leaves.result = omega arith in
    let room = mul-le-mul_right c.args.size inside in
    let all = ap (λ (n : ℕ). n * c.args.size) c.power_of_two-leaves.ensures.power in
    omega (arith, room, all, c.requires.count)
