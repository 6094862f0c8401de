use Rattle.std.proofs.Common.{◌≡◌, ◌<◌, ℕ, slice_index}
use Rattle.error_codes.specs.Correcting.{code_value}
use Rattle.error_codes.proofs.field_code.values.values_at_eight.Given as goal

-- what is there, by the bits of the field
abbrev pub invariant-loop-symbol : goal.invariant-loop-symbol
invariant-loop-symbol g l =
    let times = g.F.SymbolField.product l.field in
    (k : ℕ) → k < 8 → times (slice_index l.values k) 1 ≡ code_value times l.symbol-index (slice_index l.word) (slice_index l.points k)
