-- The word has room for the field, so that it keeps the number.
use Rattle.std.proofs.Common.{◌≡◌, ℕ, ◌%◌, ◌<◌, ◌≤◌, ◌^◌, ◌∙◌, ap, arith, subst, sym}
use Rattle.std.proofs.Math.Pow.{pow_mono}
use native.Mathlib.Nat.{mod-eq_of_lt}
use Rattle.calculator.specs.Number.{wide_value}
use Rattle.calculator.proofs.operand.AnyWritten.element_of.Goals as goal

pub returns-clause-value : goal.returns-clause-value
returns-clause-value g c =
    let width = g.K.FieldKernel.width in
    let bits = g.R.Stored.bits in
    let room : 2 ^ width ≤ 2 ^ bits = pow_mono {i = width} {j = bits} g.met.K.FieldKernel.room_law in
    let small : 2 ^ width ≤ 2 ^ 128 = pow_mono {i = width} {j = 128} g.met.K.Undivided.word_law in
    let whole : c.args.written.low ≡ wide_value c.args.written = omega (arith, c.requires, small) in
    c.of_u128.ensures ∙ ap (λ (n : ℕ). n % 2 ^ bits) whole ∙ mod-eq_of_lt (omega (arith, c.requires, room))

pub returns-clause-fits : goal.returns-clause-fits
returns-clause-fits g c = subst (λ (n : ℕ). n < 2 ^ g.K.FieldKernel.width) (sym (returns-clause-value g c)) c.requires
