use Rattle.std.proofs.Common.{◌≡◌, ◌<◌, ◌≤◌, ℕ, length, slice_index}
use Rattle.std.specs.Prelude.{bit_xor}
use Rattle.field_base.specs.Powers.{power}
use Rattle.error_codes.proofs.field_code.values.add_powers.Given as goal

-- the term whose turn it is, and the values before it
abbrev pub invariant-loop-m : goal.invariant-loop-m
invariant-loop-m g l =
    let times = g.F.SymbolField.product l.field in
    (l.term ≡ times l.factor (power 1 times l.point l.m)) × (length l.values ≡ length l.initial.values)
    × ((n : ℕ) → n < l.m → slice_index l.values n
    ≡ bit_xor (slice_index l.initial.values n) (times l.factor (power 1 times l.point n)))
    × ((n : ℕ) → l.m ≤ n → slice_index l.values n ≡ slice_index l.initial.values n)
