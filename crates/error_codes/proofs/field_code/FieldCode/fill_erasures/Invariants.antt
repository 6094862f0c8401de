use Rattle.std.proofs.Common.{◌≡◌, ◌<◌, ◌-◌, ℕ, length, slice_index, false}
use Rattle.error_codes.specs.Checks.{IsChecked}
use Rattle.error_codes.specs.Filling.{falling_point, falling_scale, is_marked}
use Rattle.error_codes.proofs.field_code.FieldCode.fill_erasures.Given as goal

abbrev pub invariant-loop-i : goal.invariant-loop-i
invariant-loop-i g l =
    let times = g.F.SymbolField.product l.self.field in
    let n = l.self.word_length in
    (length l.sums ≡ length l.initial.sums) × (length l.symbols ≡ length l.initial.symbols)
    × ((sent : ℕ → ℕ) → IsChecked (g.F.SymbolField.width l.self.field) times (n - l.self.dimension) n
    (falling_point times l.self.root n) (falling_scale times l.self.root l.self.first_root n) sent
    → ((i : ℕ) → i < n → is_marked l.marked i ≡ false → slice_index l.word i ≡ sent i)
    → (j : ℕ) → j < l.i → slice_index l.symbols j ≡ sent j)
