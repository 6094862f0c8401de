use Rattle.std.proofs.Common.{◌+◌, ◌^◌, ◌<◌, ◌≤◌, ℕ, refl, arith, lit<}
use Rattle.std.proofs.Math.Nat.{pow-le-pow_right}
use Rattle.reed_solomon.proofs.transform_codec.TransformCode.new.Goals as goal

pub returns-then-places-gt65536-clause-many : goal.returns-then-places-gt65536-clause-many
returns-then-places-gt65536-clause-many c some_data some_parity = (refl, λ n padded. past n padded)
  where
    past : (n : ℕ) → c.args.data_shards ≤ 2 ^ n → 65536 < 2 ^ n + c.args.parity_shards
    past n padded =
        let levels = c.levels_of-levels.result in
        let more : 2 ^ levels ≤ 2 ^ n = pow-le-pow_right (lit< tt) (c.levels_of-levels.ensures.padded.least n padded) in
        omega (arith, more, c.power_of.ensures.power, c.if-places-gt65536.true)
