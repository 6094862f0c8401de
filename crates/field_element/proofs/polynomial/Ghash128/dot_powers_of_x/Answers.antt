use Rattle.std.proofs.Common.{◌<◌, ◌*◌, ◌+◌, ◌^◌, length, drop, refl, sym, ◌∙◌, ap, arith, lit<, rules}
use Rattle.std.specs.Prelude.{bit_xor}
use Rattle.std.proofs.lemmas.Nat.{xor_block, pow_below}
use native.Mathlib.Nat.{mod-eq_of_lt}
use Rattle.field_base.specs.Carryless.{carryless}
use Rattle.field_base.specs.Powers.{terms_from}
use Rattle.field_base.specs.Remainder.{mul_mod, ghash_modulus}
use Rattle.field_base.proofs.RemainderDot.{rem_dot_step}
use Rattle.field_base.proofs.RemainderLaws.{rem_small}
use Rattle.field_base.proofs.ValueLemmas.{terms_from-drop, terms_end, power_of_x}
use Rattle.field_element.specs.Element.{repr_of}
use Rattle.field_element.proofs.polynomial.Ghash128.dot_powers_of_x.Goals as goal

pub loop-place-init : goal.loop-place-init
loop-place-init c =
    ap (λ s. bit_xor s (terms_from 1 (mul_mod 128 ghash_modulus) repr_of 2 0 c.args.values.now))
    (rem_small 128 ghash_modulus refl 0 (lit< tt))

pub loop-place-preserved : goal.loop-place-preserved
loop-place-preserved c =
    let within : c.loop-place.place < length c.args.values.now = omega arith in
    let few : c.loop-place.place < 128 = omega arith in
    let x = c.index-values-place in
    let term = c.multiply_by_power_128-term_low in
    let power = power_of_x 128 ghash_modulus refl c.loop-place.place few in
    let splits =
    terms_from-drop 1 (mul_mod 128 ghash_modulus) repr_of 2 c.args.values.now c.loop-place.place x.result within x.is
    ∙ ap (λ p. bit_xor (mul_mod 128 ghash_modulus x.result.repr p)
    (terms_from 1 (mul_mod 128 ghash_modulus) repr_of 2 (c.loop-place.place + 1)
    (drop (c.loop-place.place + 1) c.args.values.now))) power in
    let added =
    sym (xor_block 128 c.loop-place.high term.result.1 c.loop-place.low term.result.0 c.loop-place.auto.low-fits.fits
    (search rules))
    ∙ ap (bit_xor (c.loop-place.high * 2 ^ 128 + c.loop-place.low))
    (sym term.ensures ∙ ap (λ v. carryless v (2 ^ c.loop-place.place)) c.to_repr.ensures) in
    rem_dot_step 128 ghash_modulus refl (c.loop-place.high * 2 ^ 128 + c.loop-place.low) _ x.result.repr
    (2 ^ c.loop-place.place) _ _ _ x.result.in_range (pow_below c.loop-place.place 128 few) c.loop-place.invariant splits
    added

pub returns : goal.returns
returns c =
    c.from_repr.ensures ∙ mod-eq_of_lt (omega arith) ∙ c.reduce_128.ensures
    ∙ terms_end 1 (mul_mod 128 ghash_modulus) repr_of 2 c.args.values.now c.loop-place.place _ _ c.loop-place-test.false
    c.loop-place.invariant
