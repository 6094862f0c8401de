use Rattle.std.proofs.Common.{◌≡◌, ℕ, length, slice_index, refl, ◌∙◌, ap, arith}
use Rattle.field_base.specs.Basis.{sum_below}
use Rattle.field_base.proofs.RingLemmas.{zero-times}
use Rattle.error_codes.specs.Correcting.{code_value}
use Rattle.error_codes.proofs.CodeValues.{zeros-at}
use Rattle.error_codes.proofs.FieldPowers.{horner-loose}
use Rattle.error_codes.proofs.field_code.values.values_at_eight.Goals as goal

pub loop-symbol-init : goal.loop-symbol-init
unfolding sum_below
loop-symbol-init g c = λ k below.
    ap (λ (v : ℕ). g.F.SymbolField.product c.args.field v 1) (zeros-at 8 k)
    ∙ zero-times (g.F.SymbolField.width c.args.field) 1 (g.F.SymbolField.product c.args.field)
    (g.met.F.SymbolField.field_law c.args.field).ring 1

pub loop-symbol-preserved : goal.loop-symbol-preserved
loop-symbol-preserved g c = λ k below.
    let s = g.F.SymbolField in
    let law = g.met.F.SymbolField in
    ap (λ (v : ℕ). s.product c.args.field v 1) (c.add_symbol.ensures k below)
    ∙ horner-loose (s.width c.args.field) (s.product c.args.field) (law.wide_law c.args.field) (law.field_law c.args.field)
    c.loop-symbol.symbol-index (slice_index c.args.word.now) (slice_index c.args.points.now k) (slice_index c.loop-symbol.values k) _ _
    (c.loop-symbol.invariant k below) refl refl

pub returns : goal.returns
returns g c = λ k below.
    let end : c.loop-symbol.symbol-index ≡ length c.args.word.now = omega arith in
    c.loop-symbol.invariant k below
    ∙ ap (λ (n : ℕ). code_value (g.F.SymbolField.product c.args.field) n (slice_index c.args.word.now) (slice_index c.args.points.now k)) end
