use Rattle.std.proofs.Common.{◌≡◌, ℕ, slice_index}
use Rattle.field_base.specs.Interpolation.{interpolated}
use Rattle.reed_solomon.specs.ByteFields.{byte_times}
use Rattle.error_codes.specs.Wrong.{listed_share}
use Rattle.error_codes.proofs.Interpolating.{weighed}
use Rattle.error_codes.proofs.Loops.{differs, gathered}
use Rattle.error_codes.proofs.combining.difference_of_share.Goals as goal

pub loop-j-preserved : goal.loop-j-preserved
loop-j-preserved c =
    let point = slice_index c.args.unmarked.now.indexes in
    let j : ℕ = c.loop-j.j in
    let value = listed_share c.args.size c.args.shares.now c.args.unmarked.now.places in
    gathered
    (λ i. interpolated 8 (byte_times c.args.field) point (value i) c.args.needed (point c.args.other) ≡ value i c.args.other) j c.loop-j.difference _
    c.loop-j.invariant
    (differs c.value_of_column-value.result (value j c.args.other)
    (interpolated 8 (byte_times c.args.field) point (value j) c.args.needed (point c.args.other))
    (weighed c.args.field c.factors_at-factors.result point (value j) c.args.needed (point c.args.other) c.value_of_column-value.result
    c.value_of_column-value.ensures c.factors_at-factors.ensures))
