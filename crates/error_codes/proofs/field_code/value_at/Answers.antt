use Rattle.std.proofs.Common.{◌≡◌, ℕ, length, slice_index, refl, ◌∙◌, ap, arith}
use Rattle.field_base.specs.Basis.{sum_below}
use Rattle.field_base.proofs.RingLemmas.{zero-times}
use Rattle.error_codes.specs.Correcting.{code_value}
use Rattle.error_codes.proofs.FieldPowers.{horner-loose}
use Rattle.error_codes.proofs.field_code.value_at.Goals as goal

pub loop-symbol-init : goal.loop-symbol-init
unfolding sum_below
loop-symbol-init g c =
    zero-times (g.F.SymbolField.width c.args.field) 1 (g.F.SymbolField.product c.args.field)
    (g.met.F.SymbolField.field_law c.args.field).ring 1

pub loop-symbol-preserved : goal.loop-symbol-preserved
loop-symbol-preserved g c =
    let s = g.F.SymbolField in
    let law = g.met.F.SymbolField in
    horner-loose (s.width c.args.field) (s.product c.args.field) (law.wide_law c.args.field) (law.field_law c.args.field)
    c.loop-symbol.symbol-index (slice_index c.args.word.now) c.args.x c.loop-symbol.value _ _ c.loop-symbol.invariant
    c.multiply.ensures refl

pub returns : goal.returns
returns g c =
    let end : c.loop-symbol.symbol-index ≡ length c.args.word.now = omega arith in
    c.multiply-2.ensures ∙ c.loop-symbol.invariant
    ∙ ap (λ (k : ℕ). code_value (g.F.SymbolField.product c.args.field) k (slice_index c.args.word.now) c.args.x) end
