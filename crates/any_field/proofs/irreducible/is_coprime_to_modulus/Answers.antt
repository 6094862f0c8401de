use Rattle.std.proofs.Common.{◌↔◌, ℕ, sym, subst}
use Rattle.std.specs.Prelude.{bit_xor}
use Rattle.any_field.specs.Irreducible.{AreCoprime}
use Rattle.any_field.specs.Contexts.{with_top}
use Rattle.any_field.proofs.EuclidSteps.{both, positive, never}
use Rattle.any_field.proofs.RabinSteps.{no-factor-zero, shift-fits, first-step}
use Rattle.any_field.proofs.irreducible.is_coprime_to_modulus.Goals as goal

pub returns-then-a-eq0 : goal.returns-then-a-eq0
returns-then-a-eq0 c =
    never _ (λ coprime. no-factor-zero c.args.width c.args.tail c.requires.wide
    (subst (λ (z : ℕ). AreCoprime z (with_top c.args.width c.args.tail)) c.if-a-eq0.true coprime))

pub overflow_sub-shift : goal.overflow_sub-shift
overflow_sub-shift c =
    (shift-fits c.args.width c.args.tail c.args.a c.requires.wide c.requires.narrow c.requires.tail_fits (positive c.args.a c.if-a-eq0.false) c.requires.a_fits).0

pub returns : goal.returns
returns c =
    both _ _ _ c.are_coprime.ensures
    (subst (λ (z : ℕ). AreCoprime c.args.a (bit_xor c.args.tail z) ↔ AreCoprime c.args.a (with_top c.args.width c.args.tail)) (sym c.low_bits.ensures)
    (first-step c.args.width c.args.tail c.args.a c.requires.wide c.requires.narrow c.requires.tail_fits (positive c.args.a c.if-a-eq0.false) c.requires.a_fits))
