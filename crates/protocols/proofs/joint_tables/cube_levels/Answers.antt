use Rattle.std.proofs.Common.{◌≡◌, ◌^◌, ◌<◌, ℕ, subst, arith}
use Rattle.protocols.proofs.TableRows.{each-more}
use Rattle.protocols.proofs.joint_tables.cube_levels.Goals as goal

pub levels-preserved : goal.levels-preserved
levels-preserved c =
    each-more (λ fewer. 2 ^ fewer < c.args.count) c.levels.levels c.levels.invariant
    (let more = c.if-count-power_of_two.false in let power = c.power_of_two.ensures.power in omega (arith, more, power))

pub returns-then-count-power_of_two-clause-cube : goal.returns-then-count-power_of_two-clause-cube
returns-then-count-power_of_two-clause-cube c = record {
  room = let within = c.if-count-power_of_two.true in let power = c.power_of_two.ensures.power in omega (arith, within, power);
  least = c.levels.invariant;
}

pub returns-clause-cube : goal.returns-clause-cube
returns-clause-cube c =
    let end : c.levels.levels ≡ 8 = omega arith in
    record { room = omega arith; least = subst (λ (n : ℕ). (fewer : ℕ) → fewer < n → 2 ^ fewer < c.args.count) end c.levels.invariant }
