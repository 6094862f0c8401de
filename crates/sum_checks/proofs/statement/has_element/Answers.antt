use Rattle.std.proofs.Common.{◌≤◌, ◌^◌, ℕ, refl, subst, arith, lit<}
use Rattle.std.proofs.Math.Nat.{pow-le-pow_right}
use Rattle.sum_checks.proofs.statement.has_element.Goals as goal

-- a field of 64 bits or more has an element for each word
pub returns-then-bits-ge64 : goal.returns-then-bits-ge64
returns-then-bits-ge64 g c =
    let high : 64 ≤ c.bits-bits.result = omega arith in
    let wide : 64 ≤ g.F.Represented.width = subst (λ (b : ℕ). 64 ≤ b) c.bits-bits.ensures high in
    let power : 2 ^ 64 ≤ 2 ^ g.F.Represented.width = pow-le-pow_right (lit< tt) wide in
    let fits = c.ranges.n.fits in
    ((λ always. omega (arith, power, fits)), λ below. refl)
