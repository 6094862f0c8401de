use Rattle.std.proofs.Common.{◌≡◌, ◌<◌, ◌+◌, ◌-◌, ◌^◌, ℕ, length, slice_index}
use Rattle.field_base.specs.Powers.{power}
use Rattle.error_codes.specs.Correcting.{code_value}
use Rattle.error_codes.proofs.field_code.FieldCode.encode.Given as goal

-- what is left of the data so far stands behind them
abbrev pub invariant-loop-i : goal.invariant-loop-i
invariant-loop-i g l =
    let times = g.F.SymbolField.product l.self.field in
    let checks = l.self.word_length - l.self.dimension in
    let root = λ (m : ℕ). power 1 times l.self.root (l.self.first_root + m) in
    (length l.word ≡ length l.fn.word)
    × ((n : ℕ) → n < l.self.dimension → slice_index l.word n ≡ slice_index l.fn.word n)
    × ((j : ℕ) → slice_index l.word (l.self.dimension + j) < 2 ^ g.F.SymbolField.width l.self.field)
    × ((m : ℕ) → m < checks → code_value times checks (λ j. slice_index l.word (l.self.dimension + j)) (root m)
    ≡ times (code_value times l.i (slice_index l.fn.word) (root m)) (power 1 times (root m) checks))
