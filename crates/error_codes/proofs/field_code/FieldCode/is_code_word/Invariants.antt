use Rattle.std.proofs.Common.{◌≡◌, ◌<◌, ◌+◌, ℕ, length, slice_index}
use Rattle.field_base.specs.Powers.{power}
use Rattle.error_codes.specs.Correcting.{code_value}
use Rattle.error_codes.proofs.field_code.FieldCode.is_code_word.Given as goal

-- the root whose turn it is, and that the values before it are 0
abbrev pub invariant-loop-m : goal.invariant-loop-m
invariant-loop-m g l =
    let times = g.F.SymbolField.product l.self.field in
    (l.x ≡ power 1 times l.self.root (l.self.first_root + l._m))
    × ((n : ℕ) → n < l._m
    → code_value times (length l.word) (slice_index l.word) (power 1 times l.self.root (l.self.first_root + n)) ≡ 0)
