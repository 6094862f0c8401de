use Rattle.std.proofs.Common.{◌<◌, ◌^◌, ℕ, slice_index}
use Rattle.error_codes.proofs.field_code.FieldCode.are_elements.Given as goal

abbrev pub invariant-loop-symbol : goal.invariant-loop-symbol
invariant-loop-symbol g l =
    (n : ℕ) → n < l.symbol-index → slice_index l.word n < 2 ^ g.F.SymbolField.width l.self.field
