use Rattle.std.proofs.Common.{◌≡◌, ◌<◌, ◌-◌, ◌+◌, ℕ, length, slice_index}
use Rattle.field_base.specs.Basis.{sum_below}
use Rattle.field_base.specs.Powers.{power}
use Rattle.field_slices.specs.Marks.{marked_below}
use Rattle.error_codes.specs.Filling.{falling_point, is_other, marked_product, weighted_sum}
use Rattle.error_codes.proofs.field_code.FieldCode.modified_syndromes.Given as goal

abbrev pub invariant-loop-i : goal.invariant-loop-i
invariant-loop-i g l =
    let times = g.F.SymbolField.product l.self.field in
    let n = l.self.word_length in
    let point = falling_point times l.self.root n in
    (length l.sums ≡ length l.initial.sums)
    × (l.left + marked_below (is_other l.marked l.skipped) l.i ≡ n - l.self.dimension)
    × ((weight : ℕ → ℕ) → ((m : ℕ) → m < n - l.self.dimension
    → slice_index l.initial.sums m ≡ sum_below (λ i. times (weight i) (power 1 times (point i) m)) n)
    → (m : ℕ) → m < l.left → slice_index l.sums m
    ≡ weighted_sum times n point weight (marked_product times point (is_other l.marked l.skipped) l.i) m)
