use Rattle.std.proofs.Common.{◌≡◌, slice_index}
use Rattle.field_base.specs.Basis.{sum_below}
use Rattle.reed_solomon.specs.ByteFields.{byte_times}
use Rattle.error_codes.specs.Wrong.{listed_share}
use Rattle.error_codes.proofs.combining.value_of_column.Given as goal

abbrev pub invariant-loop-i : goal.invariant-loop-i
invariant-loop-i l = l.sum ≡ sum_below (λ i. byte_times l.field (slice_index l.factors i) (listed_share l.size l.shares l.places l.j i)) l.i
