use Rattle.std.proofs.Common.{◌≡◌, ◌<◌, ◌≤◌, ℕ, slice_index}
use Rattle.std.specs.Prelude.{bit_xor}
use Rattle.error_codes.proofs.field_code.values.add_symbol.Given as goal

abbrev pub invariant-loop-k : goal.invariant-loop-k
invariant-loop-k g l =
    ((n : ℕ) → n < l.k → slice_index l.values n
    ≡ bit_xor (g.F.SymbolField.product l.field (slice_index l.initial.values n) (slice_index l.points n)) l.symbol)
    × ((n : ℕ) → l.k ≤ n → slice_index l.values n ≡ slice_index l.initial.values n)
