use Rattle.std.proofs.Common.{◌≡◌, ◌+◌, ◌∙◌, ap, arith}
use Rattle.std.specs.Prelude.{slice_index}
use Rattle.std.proofs.lemmas.Simd.{get_or-chunk}
use Rattle.bits_packed.specs.BytesAsBits.{masked_sum}
use Rattle.bits_packed.proofs.MaskedSums.{word-halves}
use Rattle.bits_packed.proofs.byte_sums.sums_of_block.Goals as goal

pub returns : goal.returns
returns c =
    word-halves c.sums_in_lanes-low.result c.sums_in_lanes-high.result (λ b. masked_sum c.args.mask (slice_index c.args.bytes.now (c.args.start + b)))
    c.sums_in_lanes-low.ensures.few c.sums_in_lanes-high.ensures.few
    (λ b below. c.sums_in_lanes-low.ensures.sums b below ∙ ap (masked_sum c.args.mask) (get_or-chunk c.args.start 32 c.args.bytes.now b 0 below))
    (λ b below.
    let place : c.args.start + 32 + b ≡ c.args.start + (32 + b) = omega arith in
    c.sums_in_lanes-high.ensures.sums b below
    ∙ ap (masked_sum c.args.mask) (get_or-chunk (c.args.start + 32) 32 c.args.bytes.now b 0 below ∙ ap (slice_index c.args.bytes.now) place))
