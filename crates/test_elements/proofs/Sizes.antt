-- Transforms of few values.
use Rattle.std.proofs.Common.{◌≡◌, ℕ, ◌+◌, ◌-◌, ◌*◌, ◌%◌, ◌^◌, ◌<◌, ◌≤◌, arith, lit<}
use Rattle.std.proofs.Math.Nat.{mul-le-mul, pow-le-pow_right}
use Rattle.additive_transforms.specs.Transform.{FitsTransform, HasStages}

pub few_places : (m count products : ℕ) → m ≤ 12 → count ≡ 1 * 2 ^ m % 18446744073709551616 → products ≤ 1000 → FitsTransform count products
few_places m count products few is little =
    let two : 0 < 2 = lit< tt in
    let last : m - 1 ≤ 11 = omega arith in
    let half : 2 ^ (m - 1) ≤ 2 ^ 11 = pow-le-pow_right two last in
    let pairs : m * 2 ^ (m - 1) ≤ 12 * 2 ^ 11 = mul-le-mul few half in
    let all : m ≤ 40 = omega arith in
    let most : 2 ^ m ≤ 2 ^ 12 = pow-le-pow_right two few in
    let own : count ≡ 2 ^ m = omega (arith, is, most) in
    let room : products + m * 2 ^ (m - 1) < 2 ^ 64 = omega (arith, pairs, little) in
    (m, (all, own), room)

-- the same without a count
pub few_stages : (m count : ℕ) → m ≤ 12 → count ≡ 1 * 2 ^ m % 18446744073709551616 → HasStages m count
few_stages m count few is =
    let most : 2 ^ m ≤ 2 ^ 12 = pow-le-pow_right (lit< tt) few in
    (omega (arith, few), omega (arith, is, most))
