use Rattle.std.proofs.Common.{◌≡◌, ◌<◌, ◌≤◌, ◌-◌, ◌+◌, ℕ, length, set, slice_index, refl, ◌∙◌, ap, subst, arith}
use Rattle.field_base.specs.Powers.{power}
use Rattle.error_codes.proofs.CodeValues.{entry-before, next-power}
use Rattle.error_codes.proofs.field_code.FieldCode.write_points.Goals as goal

pub loop-i-init : goal.loop-i-init
unfolding power
loop-i-init g c = (refl, c.requires, λ n above below. absurd (omega (arith, above, below)))

pub loop-i-preserved : goal.loop-i-preserved
loop-i-preserved g c =
    let code = c.args.self.now in
    let times = g.F.SymbolField.product code.field in
    let count = code.word_length in
    let i = c.loop-i.i in
    let below : i < count = omega (arith, c.loop-i-test.true, c.requires) in
    let place : i ≡ count - 1 - (count - 1 - i) = omega (arith, below) in
    let here : count - 1 - i ≡ length c.loop-i.points - 1 - i = omega (arith, c.loop-i.invariant.1) in
    let entries = subst (λ (k : ℕ). (length (set c.loop-i.points k c.loop-i.next) ≡ count)
    × ((n : ℕ) → count ≤ n + (i + 1) → n < count
    → slice_index (set c.loop-i.points k c.loop-i.next) n ≡ power 1 times code.root (count - 1 - n))) here
    (entry-before (λ n. power 1 times code.root (count - 1 - n)) count count i c.loop-i.next c.loop-i.points (omega arith)
    below (c.loop-i.invariant.0 ∙ ap (power 1 times code.root) place) (c.loop-i.invariant.1, c.loop-i.invariant.2)) in (
      next-power times code.root i c.loop-i.next c.multiply-next.result c.loop-i.invariant.0 c.multiply-next.ensures,
      entries.0,
      entries.1,
    )

pub returns-clause-points : goal.returns-clause-points
returns-clause-points g c = λ n below.
    c.loop-i.invariant.2 n (omega (arith, below, c.loop-i-test.false, c.requires)) below
