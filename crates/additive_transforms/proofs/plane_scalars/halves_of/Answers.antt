use Rattle.std.proofs.Common.{◌≡◌, ℕ, ◌*◌, ◌/◌, ◌%◌, ◌^◌, ◌<◌, ◌≤◌, refl, ◌∙◌, ap, arith}
use Rattle.std.proofs.Math.Pow.{pow_mono}
use native.Mathlib.Nat.{mod-eq_of_lt}
use Rattle.additive_transforms.proofs.ScalarHalves.{are_halves}
use Rattle.additive_transforms.proofs.plane_scalars.halves_of.Goals as goal

pub returns : goal.returns
returns c k product bits_are fits =
    let room = c.requires in
    let few : c.args.bits / 2 ≤ 64 = omega (arith, room) in
    let most : 2 ^ (c.args.bits / 2) ≤ 18446744073709551616 = pow_mono few in
    let below : 2 ^ (c.args.bits / 2) < 340282366920938463463374607431768211456 = omega (arith, most) in
    let one : 1 * 2 ^ (c.args.bits / 2) ≡ 2 ^ (c.args.bits / 2) = omega arith in
    are_halves k c.args.bits c.args.number _ _ product bits_are fits
    (ap (λ (m : ℕ). c.args.number % (m % 340282366920938463463374607431768211456)) one
    ∙ ap (λ (m : ℕ). c.args.number % m) (mod-eq_of_lt below)) refl
