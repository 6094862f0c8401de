use Rattle.std.proofs.Common.{◌≡◌, ℕ, suc, ◌+◌, ◌<◌, length, sym, ◌∙◌, ap, ap₂, arith}
use Rattle.std.specs.Prelude.{bit_xor, slice_index}
use Rattle.field_base.specs.Basis.{sum_below}
use Rattle.field_base.specs.Powers.{repeated_square}
use Rattle.field_base.specs.Remainder.{aes_modulus, mul_mod}
use Rattle.field_element.specs.Element.{repr_of}
use Rattle.field_space.specs.Linearized.{linearized_value}
use Rattle.field_space.specs.Polynomial.{coefficients_of}
use Rattle.field_space.proofs.LinearizedLemmas.{entry_number}
use Rattle.field_space.proofs.linearized.LinearizedPoly8b.eval.Goals as goal

pub loop-place-init : goal.loop-place-init
unfolding sum_below
loop-place-init c = ap repr_of c.ZERO-sum.ensures

pub loop-place-preserved : goal.loop-place-preserved
unfolding sum_below
loop-place-preserved c =
    let place = c.loop-place.place in
    let coefficients = c.args.self.now.coefficients in
    let x = repr_of c.args.x in
    let next : suc place ≡ place + 1 = omega arith in
    let within : place < length coefficients = omega (arith, c.loop-place-test.true, c.args.self.now.eight) in
    let entry =
    ap repr_of (sym c.index-self-place.is)
    ∙ sym (entry_number repr_of coefficients place c.index-self-place.result within c.index-self-place.is) in
    c.add-sum.ensures
    ∙ ap₂ bit_xor c.loop-place.invariant
    (c.term.ensures ∙ ap (λ (n : ℕ). mul_mod 8 aes_modulus n (repeated_square 1 (mul_mod 8 aes_modulus) place x)) entry)
    ∙ ap
    (sum_below (λ j. mul_mod 8 aes_modulus (slice_index (coefficients_of c.args.self.now) j) (repeated_square 1 (mul_mod 8 aes_modulus) j x)))
    next

pub returns : goal.returns
unfolding linearized_value
returns c =
    let all : c.loop-place.place ≡ 8 = omega (arith, c.loop-place-test.false, c.loop-place.auto.place-end) in
    c.loop-place.invariant
    ∙ ap (sum_below (λ j. mul_mod 8 aes_modulus (slice_index (coefficients_of c.args.self.now) j) (repeated_square 1 (mul_mod 8 aes_modulus) j (repr_of c.args.x)))) all
