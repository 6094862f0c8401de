use Rattle.std.proofs.Common.{◌≡◌, ◌≤◌, ◌^◌, ℕ, length, ◌∙◌, ap, subst, arith}
use Rattle.ghash_slices.specs.Cantor.{point}
use Rattle.ghash_slices.specs.LowStages.{ghash_cantor_vector}
use Rattle.additive_transforms.specs.Transform.{HoldPolynomialValues}
use Rattle.protocols.proofs.extension.move_on.Goals as goal

pub inverse_numbers-requires : goal.inverse_numbers-requires
inverse_numbers-requires g c = let few : c.args.levels ≤ 40 = omega arith in (c.args.levels, (few, c.requires.count))

pub forward_numbers-requires : goal.forward_numbers-requires
forward_numbers-requires g c =
    let few : c.args.levels ≤ 40 = omega arith in (c.args.levels, (few, c.inverse_numbers.ensures.length ∙ c.requires.count))

pub returns-clause-moved : goal.returns-clause-moved
returns-clause-moved g c =
    let count : length c.inverse_numbers.new.values ≡ 2 ^ c.args.levels = c.inverse_numbers.ensures.length ∙ c.requires.count in
    let shift : c.point-shift.result ≡ point 128 ghash_cantor_vector 0 (2 ^ c.args.levels) =
    c.point-shift.ensures ∙ ap (point 128 ghash_cantor_vector 0) count in (
      c.inverse_numbers.new.values,
      c.inverse_numbers.ensures.coefficients,
      count,
      subst (λ (z : ℕ). HoldPolynomialValues z c.inverse_numbers.new.values c.forward_numbers.new.values) shift c.in_ok-forward_numbers.ensures.values,
    )
