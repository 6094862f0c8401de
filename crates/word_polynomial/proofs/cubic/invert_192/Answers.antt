use Rattle.std.proofs.Common.{◌≡◌, ℕ, refl, sym, ◌∙◌, ap, lit<, rules}
use Rattle.std.specs.Prelude.{bit_xor}
use Rattle.field_base.specs.Remainder.{mul_mod, poly64_modulus}
use Rattle.field_base.specs.Chunks.{chunk}
use Rattle.word_polynomial.specs.lemmas.CubicField.{cubic_norm, norm_of_nonzero, scaled_adjugate}
use Rattle.word_polynomial.specs.lemmas.Triple.{first-triple, second-triple, third-triple, triple-low}
use Rattle.word_tables.proofs.Isomorphisms.{field_64}
use Rattle.word_polynomial.proofs.Products.{adjugate_of_zero}
use Rattle.word_polynomial.proofs.cubic.invert_192.Goals as goal

pub returns-clause-zero : goal.returns-clause-zero
returns-clause-zero c =
    λ nothing.
    let x = c.args.x in
    let r = x.in_range in
    let z0 : x.c0 ≡ 0 = sym (first-triple 64 x.c0 x.c1 x.c2 r.first) ∙ ap (chunk 64 0) nothing in
    let z1 : x.c1 ≡ 0 = sym (second-triple 64 x.c0 x.c1 x.c2 r.first r.second) ∙ ap (chunk 64 1) nothing in
    let z2 : x.c2 ≡ 0 = sym (third-triple 64 x.c0 x.c1 x.c2 r.first r.second r.third) ∙ ap (chunk 64 2) nothing in
    let none =
    adjugate_of_zero 64 (mul_mod 64 poly64_modulus) field_64.ring c.invert_by_tower-scale.result x.c0 x.c1 x.c2 z0 z1 z2
    ∙ triple-low 64 0 in
    search (none, rules)

pub returns-clause-inverse : goal.returns-clause-inverse
returns-clause-inverse c =
    λ nonzero.
    let x = c.args.x in
    let r = x.in_range in
    let times = mul_mod 64 poly64_modulus in
    let n = cubic_norm 64 (mul_mod 64 poly64_modulus) field_64.ring x.c0 x.c1 x.c2 in
    let norm_is : bit_xor (bit_xor c.multiply_mod_64-n0.result c.multiply_mod_64-n1.result) c.multiply_mod_64-n2.result ≡ n =
    search rules in
    let unit : times n c.invert_by_tower-scale.result ≡ 1 =
    ap (λ (k : ℕ). times k c.invert_by_tower-scale.result) (sym norm_is)
    ∙ c.invert_by_tower-scale.ensures.inverse
    (λ none. nonzero (norm_of_nonzero 64 (mul_mod 64 poly64_modulus) field_64 (lit< tt) refl x.c0 x.c1 x.c2 r.first r.second r.third (sym norm_is ∙ none))) in
    let whole =
    scaled_adjugate 64 (mul_mod 64 poly64_modulus) field_64.ring (lit< tt) x.c0 x.c1 x.c2 c.invert_by_tower-scale.result r.first r.second
    r.third c.invert_by_tower-scale.type_inv unit in
    search (whole, rules)
