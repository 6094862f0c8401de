use Rattle.std.proofs.Common.{ℕ, ◌+◌, ap, arith, le_refl}
use Rattle.std.specs.Prelude.{bit_xor, slice_index}
use Rattle.bits_packed.proofs.WordRanges.{added_to, range_end, range_rest, range_start, range_step}
use Rattle.bits_packed.proofs.rows.add_words.Goals as goal

pub loop-place-init : goal.loop-place-init
loop-place-init c = range_start

pub loop-place-preserved : goal.loop-place-preserved
loop-place-preserved c =
    let wanted = added_to c.args.target.now c.args.sums.now c.args.first in
    let place = c.loop-place.place in
    let so_far = c.loop-place.invariant in
    range_step so_far
    (bit_xor (slice_index c.loop-place.target (c.args.first + place)) (slice_index c.args.sums.now place)) (omega arith)
    (ap (λ (x : ℕ). bit_xor x (slice_index c.args.sums.now place))
    (range_rest so_far place (le_refl place)))

pub returns : goal.returns
returns c =
    range_end c.loop-place.invariant c.args.count (omega arith)
