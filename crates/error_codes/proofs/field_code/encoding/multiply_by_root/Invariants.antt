use Rattle.std.proofs.Common.{◌+◌, ◌-◌, slice_index}
use Rattle.std.specs.Prelude.{bit_xor}
use Rattle.error_codes.proofs.FieldRows.{AreBelow}
use Rattle.error_codes.proofs.field_code.encoding.multiply_by_root.Given as goal

-- the coefficients from the last one down to this one are those of the product
abbrev pub invariant-loop-k : goal.invariant-loop-k
invariant-loop-k g l =
    let h = l.initial.coefficients in
    AreBelow (λ n. bit_xor (slice_index h (n + 1)) (g.F.SymbolField.product l.field l.root (slice_index h n))) (l.degree + 1)
    (l.degree + 1 - l.k) h l.coefficients
