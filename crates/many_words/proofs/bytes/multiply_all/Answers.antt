use Rattle.std.proofs.Common.{◌≡◌, ◌*◌, ◌/◌, ℕ, get_or, length, sym, ◌∙◌, ap, arith}
use Rattle.field_base.specs.Remainder.{aes_modulus, mul_mod}
use Rattle.many_words.proofs.ByteProducts.{block_multiplied, none_multiplied}
use Rattle.many_words.proofs.FirstPlaces.{both_changed, word_behind}
use Rattle.many_words.proofs.bytes.multiply_all.Goals as goal

pub loop-block-init : goal.loop-block-init
loop-block-init c = none_multiplied (mul_mod 8 aes_modulus) c.args.bytes.now c.args.products.now c.requires

pub loop-block-preserved : goal.loop-block-preserved
loop-block-preserved c =
    block_multiplied (mul_mod 8 aes_modulus) c.args.bytes.now c.args.products.now c.requires c.loop-block.block c.loop-block.products
    c.multiply_32_bytes.result (omega (arith, c.loop-block.invariant.long)) c.multiply_32_bytes.ensures c.loop-block.invariant

pub returns-clause-products : goal.returns-clause-products
returns-clause-products c =
    let times = mul_mod 8 aes_modulus in
    let done : c.loop-block.block ≡ length c.args.products.now / 32 = omega arith in
    both_changed (λ x. x) (λ k d x. times x (get_or c.args.bytes.now k d)) _ _ _ c.loop-block.invariant c.split_at_mut-rest.ensures.value
    (c.split_at_mut-rest.ensures.front_len ∙ ap (λ (n : ℕ). 32 * n) (sym done)) c.change_all_by.ensures.long
    (λ j inside d. c.change_all_by.ensures.results j inside d
    ∙ ap (times _) (word_behind (32 * c.loop-block.block) _ _ c.split_at.ensures.by_index.0
    (c.split_at.ensures.front_len ∙ ap (λ (n : ℕ). 32 * n) (sym done)) j d))
