use Rattle.std.proofs.Common.{◌≢◌, ◌<◌, length, slice_index, below_more, get_or-set_other, get_or-set_same, arith}
use Rattle.error_codes.specs.Wrong.{listed_share}
use Rattle.error_codes.proofs.Interpolating.{weighed}
use Rattle.error_codes.proofs.combining.restore.Goals as goal

pub loop-j-preserved : goal.loop-j-preserved
loop-j-preserved c =
    below_more _ _
    (λ k h. let ne : k ≢ c.loop-j.j = omega arith in rw get_or-set_other (c.loop-j.invariant k h))
    (let lt : c.loop-j.j < length c.loop-j.secret = omega arith in
    rw get_or-set_same
    (weighed c.args.field c.factors_at-factors.result (slice_index c.args.unmarked.now.indexes)
    (listed_share (length c.args.secret.now) c.args.shares.now c.args.unmarked.now.places c.loop-j.j) c.args.needed 0 c.value_of_column.result c.value_of_column.ensures
    c.factors_at-factors.ensures))
