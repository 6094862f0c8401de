use Rattle.std.proofs.Common.{◌≡◌, ◌<◌, ◌≤◌, ◌-◌, ◌+◌, ℕ, length, slice_index}
use Rattle.field_base.specs.Powers.{power}
use Rattle.error_codes.proofs.field_code.FieldCode.write_points.Given as goal

abbrev pub invariant-loop-i : goal.invariant-loop-i
invariant-loop-i g l =
    let times = g.F.SymbolField.product l.self.field in
    let count = l.self.word_length in
    (l.next ≡ power 1 times l.self.root l.i)
    × (length l.points ≡ count)
    × ((n : ℕ) → count ≤ n + l.i → n < count → slice_index l.points n ≡ power 1 times l.self.root (count - 1 - n))
