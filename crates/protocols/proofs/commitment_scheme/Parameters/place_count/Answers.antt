use Rattle.std.proofs.Common.{◌+◌, ◌-◌, ◌≤◌, ◌^◌, ℕ, ◌∙◌, ap₂, arith, lit<}
use Rattle.std.proofs.Math.Nat.{pow-le-pow_right}
use Rattle.protocols.proofs.commitment_scheme.Parameters.place_count.Goals as goal

pub power_of_two-requires : goal.power_of_two-requires
power_of_two-requires c = omega (arith, c.args.self.now.few_levels)

pub returns-clause-count : goal.returns-clause-count
returns-clause-count c =
    let self = c.args.self.now in
    c.power_of_two.ensures.power ∙ ap₂ (λ (l b : ℕ). 2 ^ (2 + l - b)) self.levels_are self.bits_are

pub returns-clause-few : goal.returns-clause-few
returns-clause-few c =
    let self = c.args.self.now in
    let few : 2 + self.levels - self.bits ≤ 8 = omega (arith, self.few_queries, self.levels_are, self.bits_are) in
    let up : 2 ^ (2 + self.levels - self.bits) ≤ 2 ^ 8 = pow-le-pow_right (lit< tt) few in
    omega (arith, up, c.power_of_two.ensures.power)
