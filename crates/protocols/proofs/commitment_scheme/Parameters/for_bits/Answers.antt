use Rattle.std.proofs.Common.{inl, inr, ℕ, ◌<◌, ◌≤◌, sym, subst, arith}
use Rattle.protocols.specs.CommitmentScheme.{HasBits}
use Rattle.protocols.proofs.SchemeBits.{bits-fewer, bits-more, seven-bits}
use Rattle.protocols.proofs.commitment_scheme.Parameters.for_bits.Goals as goal

pub returns-then-bits-le83-clause-reached : goal.returns-then-bits-le83-clause-reached
returns-then-bits-le83-clause-reached c =
    let n = c.args.variables in
    let enough : 6 ≤ n = omega (arith, c.if-variables-lt6.false) in
    let few : n ≤ 39 = omega (arith, c.if-variables-gt39.false) in (
      enough,
      few,
      subst (λ (q : ℕ). HasBits q n c.args.bits) (sym c.new.ensures.queries)
          (bits-fewer 7 n 83 c.args.bits c.if-bits-le83.true (seven-bits n few).bound),
      inl c.new.ensures.queries,
    )

pub returns-then-bits-most_bits-clause-reached : goal.returns-then-bits-most_bits-clause-reached
returns-then-bits-most_bits-clause-reached c =
    let n = c.args.variables in
    let enough : 6 ≤ n = omega (arith, c.if-variables-lt6.false) in
    let few : n ≤ 39 = omega (arith, c.if-variables-gt39.false) in
    let above : 83 < c.args.bits = omega (arith, c.if-bits-le83.false) in
    let eight = c.new-then-bits-most_bits.ensures.queries in (
      enough,
      few,
      subst (λ (q : ℕ). HasBits q n c.args.bits) (sym eight)
          (bits-fewer 8 n c.most_bits.result c.args.bits c.if-bits-most_bits.true c.most_bits.ensures.bound),
      inr (eight, bits-more 7 n 83 c.args.bits above (seven-bits n few)),
    )

pub returns-clause-refused : goal.returns-clause-refused
returns-clause-refused c = λ enough few.
    let n = c.args.variables in
    let above : 83 < c.args.bits = omega (arith, c.if-bits-le83.false) in
    let over : c.most_bits.result < c.args.bits = omega (arith, c.if-bits-most_bits.false) in (
      bits-more 7 n 83 c.args.bits above (seven-bits n few),
      bits-more 8 n c.most_bits.result c.args.bits over c.most_bits.ensures,
    )
