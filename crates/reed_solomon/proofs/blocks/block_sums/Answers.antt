use Rattle.std.proofs.Common.{◌+◌, ◌-◌, ◌*◌, ◌≡◌, ◌∙◌, ap, refl, slice_index, arith}
use Rattle.std.proofs.lemmas.Simd.{get_or-chunk}
use Rattle.reed_solomon.specs.Tables.{nibble_sum}
use Rattle.reed_solomon.proofs.NibbleTables.{nibble_held}
use Rattle.reed_solomon.proofs.RowWriting.{row_added, sums_begun}
use Rattle.reed_solomon.proofs.blocks.block_sums.Goals as goal

pub loop-j-init : goal.loop-j-init
loop-j-init g c = sums_begun _ g.row.N c.args.from c.args.sums c.requires.count c.requires.lanes c.requires.begun

pub loop-row-preserved : goal.loop-row-preserved
loop-row-preserved g c =
    let row = c.loop-row.row in
    let j = c.loop-j.j in
    let from = c.args.from in
    let shards = c.args.shards.now in
    let held = c.args.held.now in
    let start = slice_index held.starts (j - from) in
    let back : from + (j - from) ≡ j = omega arith in
    let start_is : start ≡ slice_index c.args.starts.now j = c.requires.held_starts (j - from) (omega arith) ∙ ap (slice_index c.args.starts.now) back in
    row_added _ g.row.N row j c.loop-row.sums _ c.nibble_sums.result c.loop-row.invariant c.loop-row-test.true refl c.nibble_sums.ensures.long
    (λ lane below.
    let place : start + c.args.column + lane ≡ slice_index c.args.starts.now j + (c.args.column + lane) = omega (arith, start_is) in
    c.nibble_sums.ensures.sums lane below
    ∙ ap (nibble_sum held.entries (128 * (j - from) + 32 * row)) (get_or-chunk (start + c.args.column) 32 shards lane 0 below
    ∙ ap (slice_index shards) place)
    ∙ nibble_held c.args.entries.now held.entries from c.args.until g.row.N j row (slice_index shards (slice_index c.args.starts.now j + (c.args.column + lane)))
    c.requires.held_entries (omega arith) (omega arith) c.loop-row-test.true
    (c.bytes_fit.ensures (slice_index c.args.starts.now j + (c.args.column + lane))))
