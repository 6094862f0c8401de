use Rattle.std.proofs.Common.{◌≡◌, ◌-◌, ◌≤◌, ◌^◌, ℕ, ◌∙◌, ap₂, arith, lit<}
use Rattle.std.proofs.Math.Nat.{pow-le-pow_right}
use Rattle.protocols.specs.CommitmentScheme.{place_bits, place_count, word_levels}
use Rattle.prove_sums.proofs.shapes.Shape.block_count.Goals as goal

pub returns-clause-count : goal.returns-clause-count
returns-clause-count c =
    c.place_count.ensures.count ∙ ap₂ (λ (m n : ℕ). place_count m n) c.sizes.ensures.queries c.sizes.ensures.variables

pub returns-clause-few : goal.returns-clause-few
returns-clause-few c =
    let m = c.args.self.now.queries in
    let n = c.args.self.now.rounds in
    let most = c.args.self.now.few_queries in
    let count : c.place_count.result ≡ place_count m n = returns-clause-count c in
    let few : word_levels m n - place_bits m n ≤ 8 = omega (arith, most) in
    let up : 2 ^ (word_levels m n - place_bits m n) ≤ 2 ^ 8 = pow-le-pow_right (lit< tt) few in
    omega (arith, up, count)
