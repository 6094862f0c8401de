use Rattle.std.proofs.Common.{inl, inr, ℕ, ◌<◌, sym, subst, arith}
use Rattle.prove_sums.specs.Bits.{HaveSoundBits}
use Rattle.prove_sums.proofs.SizeBits.{bits-missed, bits-reached}
use Rattle.prove_sums.proofs.shapes.Shape.for_bits.Goals as goal

pub returns-then-bits-most_bits-clause-reached : goal.returns-then-bits-most_bits-clause-reached
returns-then-bits-most_bits-clause-reached c =
    let n = c.args.rounds in
    let seven = c.new.ensures.queries in (
      subst (λ (q : ℕ). HaveSoundBits q n c.args.bits) (sym seven)
          (bits-reached 7 n c.args.bits c.most_bits.result c.if-bits-most_bits.true c.most_bits.ensures),
      inl seven,
    )

pub returns-then-bits-most_bits-2-clause-reached : goal.returns-then-bits-most_bits-2-clause-reached
returns-then-bits-most_bits-2-clause-reached c =
    let n = c.args.rounds in
    let above : c.most_bits.result < c.args.bits = omega (arith, c.if-bits-most_bits.false) in
    let eight = c.new-then-bits-most_bits-2.ensures.queries in (
      subst (λ (q : ℕ). HaveSoundBits q n c.args.bits) (sym eight)
          (bits-reached 8 n c.args.bits c.most_bits-2.result c.if-bits-most_bits-2.true c.most_bits-2.ensures),
      inr (eight, bits-missed 7 n c.args.bits c.most_bits.result above c.most_bits.ensures),
    )

pub returns-clause-refused : goal.returns-clause-refused
returns-clause-refused c =
    let n = c.args.rounds in
    let above : c.most_bits.result < c.args.bits = omega (arith, c.if-bits-most_bits.false) in
    let over : c.most_bits-2.result < c.args.bits = omega (arith, c.if-bits-most_bits-2.false) in (
      bits-missed 7 n c.args.bits c.most_bits.result above c.most_bits.ensures,
      bits-missed 8 n c.args.bits c.most_bits-2.result over c.most_bits-2.ensures,
    )
