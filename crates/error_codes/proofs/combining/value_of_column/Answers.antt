use Rattle.std.proofs.Common.{refl, sym, ◌∙◌, ap, ap₂, slice_index}
use Rattle.std.specs.Prelude.{bit_xor}
use native.Mathlib.Numerals.{add-one}
use Rattle.field_base.specs.Basis.{sum_below}
use Rattle.reed_solomon.specs.ByteFields.{byte_times}
use Rattle.error_codes.specs.Wrong.{listed_share}
use Rattle.error_codes.proofs.combining.value_of_column.Goals as goal

pub loop-i-init : goal.loop-i-init
unfolding sum_below
loop-i-init c = refl

pub loop-i-preserved : goal.loop-i-preserved
unfolding sum_below
loop-i-preserved c =
    ap₂ bit_xor c.loop-i.invariant c.multiply_masked-sum.ensures
    ∙ ap
    (sum_below (λ i. byte_times c.args.field (slice_index c.args.factors.now i) (listed_share c.args.size c.args.shares.now c.args.places.now c.args.j i)))
    (sym (add-one c.loop-i.i))
