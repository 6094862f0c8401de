use Rattle.std.proofs.Common.{◌+◌, slice_index, ◌∙◌, ap, ap₂, arith}
use Rattle.std.specs.Prelude.{bit_xor}
use Rattle.error_codes.proofs.CodeValues.{entry-over}
use Rattle.std.proofs.lemmas.List.{length-set}
use Rattle.error_codes.proofs.field_code.filling.multiply_sums.Goals as goal

pub loop-m-preserved : goal.loop-m-preserved
loop-m-preserved g c =
    let old = c.args.sums.now in
    let times = g.F.SymbolField.product c.args.field in
    let entries = entry-over c.loop-m.m _ (λ n. bit_xor (slice_index old (n + 1)) (times c.args.point (slice_index old n)))
    c.loop-m.sums old (omega (arith, c.loop-m.invariant.0, c.requires.few, c.loop-m-test.true))
    (ap₂ bit_xor (c.loop-m.invariant.2 (c.loop-m.m + 1) (omega arith))
    (c.multiply.ensures ∙ ap (times c.args.point) (c.loop-m.invariant.2 c.loop-m.m (omega arith))))
    (c.loop-m.invariant.1, c.loop-m.invariant.2) in
    (length-set c.loop-m.sums c.loop-m.m _ ∙ c.loop-m.invariant.0, entries.0, entries.1)
