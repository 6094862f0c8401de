use Rattle.std.proofs.Common.{◌≡◌, ℕ, ◌+◌, ◌-◌, ◌*◌, ◌^◌, ◌≤◌, ◌∙◌, ap, arith, lit<, pow-add}
use native.Mathlib.Nat.{pow-le-pow_right}
use Rattle.word_tables.proofs.frobenius.digits_of.Goals as goal

pub returns : goal.returns
returns c =
    let m = c.args.level - 2 in
    let split : c.args.level ≡ m + 2 = omega arith in
    let bits : 2 ^ c.args.level ≡ 2 ^ m * 4 = ap (λ (n : ℕ). 2 ^ n) split ∙ pow-add 2 m 2 in
    let few : m ≤ 5 = omega arith in
    let small : 2 ^ m ≤ 2 ^ 5 = pow-le-pow_right (lit< tt) few in
    omega (arith, bits, small)
