use Rattle.std.proofs.Common.{◌≡◌, ◌<◌, ℕ, length, slice_index}
use Rattle.error_codes.proofs.TurnedValues.{turned}
use Rattle.error_codes.proofs.field_code.FieldCode.turn_values.Given as goal

-- what is added for the places before this one
abbrev pub invariant-loop-i : goal.invariant-loop-i
invariant-loop-i g l =
    (length l.values ≡ length l.initial.values)
    × ((m : ℕ) → m < length l.initial.values → slice_index l.values m
    ≡ turned (g.F.SymbolField.width l.self.field) (g.F.SymbolField.product l.self.field) (g.met.F.SymbolField.wide_law l.self.field)
    (g.met.F.SymbolField.field_law l.self.field) l.self.word_length l.self.root l.self.first_root (slice_index l.word)
    (slice_index l.other) l.i m)
