use Rattle.std.proofs.Common.{ℕ, zero, suc, List, ◌∙◌, ap, arith}
use Rattle.std.specs.Prelude.{bit_xor, slice_index}
use Rattle.std.proofs.lemmas.List.{take_rest}
use Rattle.field_base.specs.LinearMaps.{linear_image}
use Rattle.ghash_slices.proofs.low_stages.with_images.Goals as goal

pub returns : goal.returns
returns c zero few =
    ap (bit_xor (slice_index c.args.twiddles.now 0))
    (c.sum_of_images.ensures ∙ ap (λ (b : List ℕ). linear_image b c.args.bits) (take_rest c.args.basis.now 3))
returns c (suc zero) few =
    ap (bit_xor (slice_index c.args.twiddles.now 1))
    (c.sum_of_images-2.ensures ∙ ap (λ (b : List ℕ). linear_image b c.args.bits) (take_rest c.args.basis.now 2))
returns c (suc (suc zero)) few =
    ap (bit_xor (slice_index c.args.twiddles.now 2))
    (c.sum_of_images-3.ensures ∙ ap (λ (b : List ℕ). linear_image b c.args.bits) (take_rest c.args.basis.now 1))
returns c (suc (suc (suc zero))) few = ap (bit_xor (slice_index c.args.twiddles.now 3)) c.sum_of_images-4.ensures
returns c (suc (suc (suc (suc j)))) few = absurd (omega (arith, few))
