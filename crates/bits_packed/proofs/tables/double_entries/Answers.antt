use Rattle.std.proofs.Common.{ℕ, ◌+◌, ◌%◌, ap, arith, inl}
use Rattle.std.specs.Prelude.{bit_xor, slice_index}
use Rattle.bits_packed.proofs.WordRanges.{range_end, range_start, range_step}
use Rattle.bits_packed.proofs.tables.double_entries.Goals as goal

pub loop-place-init : goal.loop-place-init
loop-place-init c = range_start

pub loop-place-preserved : goal.loop-place-preserved
loop-place-preserved c =
    let place = c.loop-place.place in
    let so_far = c.loop-place.invariant in
    range_step so_far
    (bit_xor (slice_index c.loop-place.tables (c.args.first + place)) (slice_index c.args.row.now (place % 8))) (omega arith)
    (ap (λ (x : ℕ). bit_xor x (slice_index c.args.row.now (place % 8))) (so_far.others (c.args.first + place) (inl (omega arith))))

pub returns : goal.returns
returns c =
    range_end c.loop-place.invariant c.args.count (omega arith)
