use Rattle.std.proofs.Common.{ℕ, slice_index, ◌∙◌, ap, arith}
use Rattle.std.specs.Prelude.{bit_xor}
use Rattle.error_codes.proofs.CodeValues.{entry-over}
use Rattle.error_codes.proofs.field_code.values.add_symbol.Goals as goal

pub loop-k-preserved : goal.loop-k-preserved
loop-k-preserved g c =
    let times = g.F.SymbolField.product c.args.field in
    let old = c.args.values.now in
    let k = c.loop-k.k in
    let point = slice_index c.args.points.now in
    entry-over k _ (λ n. bit_xor (times (slice_index old n) (point n)) c.args.symbol) c.loop-k.values old
    (omega arith)
    (ap (λ (v : ℕ). bit_xor v c.args.symbol)
    (c.multiply.ensures ∙ ap (λ (v : ℕ). times v (point k)) (c.loop-k.invariant.1 k (omega arith))))
    c.loop-k.invariant
