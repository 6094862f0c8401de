use Rattle.std.proofs.Common.{slice_index, refl, sym, ◌∙◌, ap, ap₂, arith}
use Rattle.std.specs.Prelude.{bit_xor}
use native.Mathlib.Numerals.{add-one}
use Rattle.field_base.specs.Basis.{sum_below}
use Rattle.error_codes.proofs.CodeValues.{entry-over}
use Rattle.reed_solomon.specs.ByteFields.{byte_times}
use Rattle.error_codes.proofs.locating.next_sum.Goals as goal

pub loop-i-init : goal.loop-i-init
unfolding sum_below
loop-i-init c = (λ n below. absurd (omega (arith, below)), λ n above. refl, refl)

pub loop-i-preserved : goal.loop-i-preserved
unfolding sum_below
loop-i-preserved c =
    let old = c.args.terms.now in
    let i = c.loop-i.i in
    let kept = c.loop-i.invariant.1 i (omega arith) in
    let over = entry-over i _ (λ n. byte_times c.args.field (slice_index c.args.indexes.now n) (slice_index old n)) c.loop-i.terms old (omega arith)
    (c.multiply_masked.ensures ∙ ap (byte_times c.args.field (slice_index c.args.indexes.now i)) kept)
    (c.loop-i.invariant.0, c.loop-i.invariant.1) in
    (over.0, over.1, ap₂ bit_xor c.loop-i.invariant.2 kept ∙ ap (sum_below (slice_index old)) (sym (add-one i)))

pub returns-clause-sum : goal.returns-clause-sum
returns-clause-sum c = c.loop-i.invariant.2 ∙ ap (sum_below (slice_index c.args.terms.now)) (omega arith)
